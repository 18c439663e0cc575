-- What is told of a book, where it is told of its tables.
use Rattle.std.proofs.Common.{◌≡◌, ℕ, List, subst, sym}
use Rattle.roster_book.specs.Reading.{IsBookOf}
use Rattle.roster_book.specs.declared.book.Book.{Book}
use Rattle.roster_model.specs.Answer.{records_of}
use Rattle.roster_model.specs.Problem.{Problem, problem_of}
use Rattle.roster_model.specs.Record.{Check}
use Rattle.roster_model.specs.records.Assign.{assigned_in}
use Rattle.roster_desk_arguments.specs.declared.line.Question.{Question}
use Rattle.roster_desk_arguments.specs.declared.line.Question.TheVariants as questions
use Rattle.roster_desk_fair.specs.Fair.{IsFair}
use Rattle.roster_desk_answers.specs.Pages.{IsFairBook, IsFaultless}
use Rattle.roster_desk_answers.specs.Told.{IsAnswer, IsTold, IsUnanswered, IsUntold, Withholds}
use Rattle.roster_desk_answers.specs.declared.telling.Inputs.{Inputs}
use Rattle.roster_desk_answers.specs.declared.untold.Untold.{Untold}
use Rattle.roster_desk_answers.specs.declared.untold.Untold.TheVariants as untolds

pub answer_of_book : (question : Question) (inputs : Inputs) (book : Book) (text : List ℕ)
    → IsBookOf Check (records_of inputs.book.items) book → IsTold question inputs book.problem book.assigned text
    → IsAnswer question inputs text
answer_of_book question inputs book text is told = record {
  faultless = is.faultless;
  told =
      subst (λ problem. IsTold question inputs problem (assigned_in (records_of inputs.book.items)) text) is.problem_is
      (subst (λ places. IsTold question inputs book.problem places text) is.assigned_is told);
}

pub unanswered_of_book : (question : Question) (inputs : Inputs) (book : Book) (untold : Untold)
    → IsBookOf Check (records_of inputs.book.items) book → IsUntold question inputs book.problem untold
    → IsUnanswered question inputs untold
unanswered_of_book question inputs book untold is why = record {
  faultless = is.faultless;
  why = subst (λ problem. IsUntold question inputs problem untold) is.problem_is why;
}

-- memory may run out whatever is asked
pub forgets : (problem : Problem) (inputs : Inputs) (question : Question)
    → Withholds problem inputs question untolds.Memory
forgets problem inputs (questions.Why pairing person all) = tt
forgets problem inputs (questions.Limits person) = tt
forgets problem inputs (questions.Table line) = tt
forgets problem inputs (questions.Chart names) = tt
forgets problem inputs (questions.Differences other) = tt
forgets problem inputs (questions.Changed other) = tt

-- the book with fair targets, of what was read
pub fair_book : (book text shown : List ℕ) (read : Book) → IsBookOf Check (records_of book) read → IsFaultless text
    → IsFair read.problem (problem_of (records_of text)) → shown ≡ text → IsFairBook book shown
fair_book book text shown read is good fair same = subst (IsFairBook book) (sym same) (record {
  faultless = is.faultless;
  good = good;
  fair = subst (λ problem. IsFair problem (problem_of (records_of text))) is.problem_is fair;
})
