use Rattle.std.proofs.Common.{◌≡◌, List, ℕ, [], ap, inl, inr, subst, sym}
use Rattle.roster_model.specs.Problem.{Problem}
use Rattle.roster_model.specs.Record.{Command, Solve, Replay}
use Rattle.roster_values.specs.View.{command_of}
use Rattle.roster_cli_run.specs.Run.{IsProblemAnswer, IsProblemRefusal, IsProblemReport}
use Rattle.roster_cli_run.proofs.BookAnswers.{text-weaker}
use Rattle.roster_cli_run.proofs.running.answer.Goals as goal

-- the report of the best roster is the same whatever roster the book gives, and however the best one was found
report_of_solve : (command : Command) → command ≡ Solve → (problem : Problem) (assigned text : List ℕ)
    → IsProblemReport Solve problem [] text → IsProblemReport command problem assigned text
report_of_solve command is problem assigned text p =
    subst (λ command. IsProblemReport command problem assigned text) (sym is)
    (record { faultless = p.faultless; reports = p.reports })

report_of_replay : (command : Command) → command ≡ Replay → (problem : Problem) (assigned text : List ℕ)
    → IsProblemReport Solve problem [] text → IsProblemReport command problem assigned text
report_of_replay command is problem assigned text p =
    subst (λ command. IsProblemReport command problem assigned text) (sym is)
    (record { faultless = p.faultless; reports = p.reports })

refusal_of_replay : (command : Command) → command ≡ Replay → (problem : Problem) (text : List ℕ)
    → IsProblemRefusal Solve problem text → IsProblemRefusal command problem text
refusal_of_replay command is problem text p =
    subst (λ command. IsProblemRefusal command problem text) (sym is)
    (record { fault = p.fault; told = p.told; written = p.written })

answer_of_solve : (command : Command) → command ≡ Solve → (problem : Problem) (assigned text : List ℕ)
    → IsProblemAnswer Solve problem [] text → IsProblemAnswer command problem assigned text
answer_of_solve command is problem assigned text (inl p) =
    inl (subst (λ command. IsProblemRefusal command problem text) (sym is) p)
answer_of_solve command is problem assigned text (inr p) =
    inr (report_of_solve command is problem assigned text p)

answer_of_replay : (command : Command) → command ≡ Replay → (problem : Problem) (assigned text : List ℕ)
    → IsProblemAnswer Solve problem [] text → IsProblemAnswer command problem assigned text
answer_of_replay command is problem assigned text (inl p) = inl (refusal_of_replay command is problem text p)
answer_of_replay command is problem assigned text (inr p) =
    inr (report_of_replay command is problem assigned text p)

pub returns-in-Solve-clause-answered : goal.returns-in-Solve-clause-answered
returns-in-Solve-clause-answered g c = λ answered.
    let problem = c.args.book.now.problem in
    text-weaker (IsProblemReport Solve problem []) _ _ (report_of_solve (command_of c.args.command) (ap command_of c.in-Solve.is) problem c.args.book.now.assigned) (c.answer_best.ensures.answered answered)

pub returns-in-Solve-clause-part : goal.returns-in-Solve-clause-part
returns-in-Solve-clause-part g c = λ failed.
    let problem = c.args.book.now.problem in
    text-weaker (IsProblemAnswer Solve problem []) _ _ (answer_of_solve (command_of c.args.command) (ap command_of c.in-Solve.is) problem c.args.book.now.assigned) (c.answer_best.ensures.part failed)

pub returns-in-Replay-clause-answered : goal.returns-in-Replay-clause-answered
returns-in-Replay-clause-answered g c = λ answered.
    let problem = c.args.book.now.problem in
    text-weaker (IsProblemReport Solve problem []) _ _ (report_of_replay (command_of c.args.command) (ap command_of c.in-Replay.is) problem c.args.book.now.assigned) (c.answer_best-in-Replay.ensures.answered answered)

pub returns-in-Replay-clause-refused : goal.returns-in-Replay-clause-refused
returns-in-Replay-clause-refused g c = λ refused.
    let problem = c.args.book.now.problem in
    text-weaker (IsProblemRefusal Solve problem) _ _
    (refusal_of_replay (command_of c.args.command) (ap command_of c.in-Replay.is) problem)
    (c.answer_best-in-Replay.ensures.refused refused)

pub returns-in-Replay-clause-part : goal.returns-in-Replay-clause-part
returns-in-Replay-clause-part g c = λ failed.
    let problem = c.args.book.now.problem in
    text-weaker (IsProblemAnswer Solve problem []) _ _ (answer_of_replay (command_of c.args.command) (ap command_of c.in-Replay.is) problem c.args.book.now.assigned) (c.answer_best-in-Replay.ensures.part failed)
