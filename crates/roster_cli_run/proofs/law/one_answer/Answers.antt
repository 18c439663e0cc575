use Rattle.roster_cli_run.proofs.IsAnswer.{same_answer}
use Rattle.roster_cli_run.proofs.law.one_answer.Goals as goal

pub returns : goal.returns
returns c =
    same_answer (record {
      best = c.one_best.ensures;
      locks = c.one_list_of_locks.ensures;
      verdicts = c.one_list_of_verdicts.ensures;
    })
