use Rattle.std.proofs.Common.{◌≡◌, List, sym, subst}
use Rattle.std.specs.Prelude.{All}
use Rattle.roster_subtreepool.specs.States.{SettledSpan}
use Rattle.roster_combine_workers.specs.Parts.{AreSettled, Task}
use Rattle.roster_combine_workers.proofs.crew.work_together.Goals as goal

-- what is settled for a task is settled for the same one
for_same : (one other : Task) (lists : List (List SettledSpan)) → one ≡ other
    → All (AreSettled one.problem one.table) lists → All (AreSettled other.problem other.table) lists
for_same one other lists same settled = subst (λ (task : Task). All (AreSettled task.problem task.table) lists) same settled

pub combine-requires-clause-settled : goal.combine-requires-clause-settled
combine-requires-clause-settled g c =
    for_same c.args.team.now _ _ (sym c.team.view_is)
    (c.in_ok-shares.ensures.settled c.args.team.now.problem c.args.team.now.table c.in_ok-parts.ensures.settled)
