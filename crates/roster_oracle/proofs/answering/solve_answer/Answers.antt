use Rattle.std.proofs.Common.{inr}
use Rattle.roster_oracle.proofs.answering.solve_answer.Goals as goal

-- nobody has too many lines, so the report of the best roster is the answer
pub returns-in_ok-text-in-Ok : goal.returns-in_ok-text-in-Ok
returns-in_ok-text-in-Ok c =
    let problem = c.args.problem.now in
    inr (record {
      faultless = λ fault told. c.nobody_is_crowded.ensures problem c.in-Ok.table told.k c.in-Ok.ensures.table told.crowded.person told.crowded.crowded;
      reports = record { places = c.in_ok-best-in-Ok.best.places; best = c.in_ok-best-in-Ok.ensures.0; written = c.in_ok-text-in-Ok.ensures };
    })
