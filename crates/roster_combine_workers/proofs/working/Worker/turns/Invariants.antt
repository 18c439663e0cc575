use Rattle.std.proofs.Common.{◌≡◌, ◌+◌, vec_len}
use Rattle.std.specs.Arc.{arc_value}
use Rattle.roster_model.specs.Settled.{IsHeld}
use Rattle.roster_combine_workers.specs.Parts.{AreSettled}
use Rattle.roster_combine_workers.proofs.working.Worker.turns.Given as goal

-- what was found so far is settled and counted
abbrev pub invariant-loop : goal.invariant-loop
invariant-loop g l = record {
  known : IsHeld l.self.problem (arc_value l.known);
  settled : AreSettled l.self.problem l.self.table l.list.items;
  counted : l.share ≡ l.initial.share + vec_len l.list;
}
