use Rattle.std.proofs.Common.{ℕ, List, [], ap, inl, inr, subst, sym}
use Rattle.roster_model.specs.Problem.{Problem}
use Rattle.roster_model.specs.Record.{Command, Solve, Replay}
use Rattle.roster_values.specs.View.{command_of}
use Rattle.roster_cli_run.specs.Run.{IsProblemAnswer}
use Rattle.roster_oracle.proofs.answering.book_answer.Goals as goal

-- what answers a problem without a look at the book's own roster answers it beside any
beside : (problem : Problem) (assigned text : List ℕ) → IsProblemAnswer Solve problem [] text
    → IsProblemAnswer Solve problem assigned text
beside problem assigned text (inl p) = inl p
beside problem assigned text (inr p) = inr (record { faultless = p.faultless; reports = p.reports })

-- and so it is for a replay
replayed : (problem : Problem) (assigned text : List ℕ) → IsProblemAnswer Solve problem [] text
    → IsProblemAnswer Replay problem assigned text
replayed problem assigned text (inl p) = inl (record { fault = p.fault; told = p.told; written = p.written })
replayed problem assigned text (inr p) = inr (record { faultless = p.faultless; reports = p.reports })

pub returns-in_ok-text-in-Solve : goal.returns-in_ok-text-in-Solve
returns-in_ok-text-in-Solve c =
    let problem = c.args.book.now.problem in
    let assigned = c.args.book.now.assigned in
    subst (λ (command : Command). IsProblemAnswer command problem assigned c.in_ok-text-in-Solve.text.items) (sym (ap command_of c.in-Solve.is))
    (beside problem assigned c.in_ok-text-in-Solve.text.items c.in_ok-text-in-Solve.ensures)

pub returns-in_ok-text-in-Replay : goal.returns-in_ok-text-in-Replay
returns-in_ok-text-in-Replay c =
    let problem = c.args.book.now.problem in
    let assigned = c.args.book.now.assigned in
    subst (λ (command : Command). IsProblemAnswer command problem assigned c.in_ok-text-in-Replay.text.items) (sym (ap command_of c.in-Replay.is))
    (replayed problem assigned c.in_ok-text-in-Replay.text.items c.in_ok-text-in-Replay.ensures)
