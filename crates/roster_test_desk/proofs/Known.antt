-- What was written of a book whose bytes are known, where no report is named.
use Rattle.std.proofs.Common.{◌≡◌, ℕ, List, ◌++◌, [], Option, Some, None, sym, subst}
use Rattle.roster_model.specs.Answer.{records_of}
use Rattle.roster_model.specs.Plans.{IsPlanned}
use Rattle.roster_book.specs.Reading.{OfTold}
use Rattle.roster_report.specs.Writing.{Writes}
use Rattle.roster_desk_run.specs.Run.{IsPlanOfBook}
use Rattle.roster_desk_program.specs.Ending.{OfReport}

pub planned : (start : Option (List ℕ)) (bytes_at : List ℕ → Option (List ℕ)) (book bytes old items : List ℕ)
    → start ≡ None → old ≡ [] → bytes ≡ book
    → OfReport (λ report. OfTold (λ records. Writes (IsPlanOfBook report records) (Some old) (Some items)) (Some bytes)) bytes_at start
    → IsPlanned (records_of book) items
planned None bytes_at book bytes old items none empty same w =
    let all : items ≡ w.0 = subst (λ it. items ≡ it ++ w.0) empty w.2 in
    subst (λ it. IsPlanned (records_of it) items) same
    (subst (IsPlanned (records_of bytes)) (sym all) w.1)
planned (Some path) bytes_at book bytes old items none empty same w = absurd cc
