use Rattle.roster_cli_run.proofs.IsAnswer.{some_answer}
use Rattle.roster_cli_run.proofs.law.has_answer.Goals as goal

pub returns : goal.returns
returns c =
    some_answer (record {
      best = c.has_best.ensures;
      locks = c.has_locks.ensures;
      verdicts = c.has_verdicts.ensures;
    })
