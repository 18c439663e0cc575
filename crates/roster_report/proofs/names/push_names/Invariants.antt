use Rattle.std.proofs.Common.{◌≡◌, ◌++◌, ◌==◌, length, map, take}
use Rattle.roster_model.specs.Problem.{pairing_name}
use Rattle.roster_model.specs.Places.{set_of}
use Rattle.roster_report.specs.Words.{further}
use Rattle.roster_report.proofs.names.push_names.Given as goal

abbrev pub invariant-loop-p : goal.invariant-loop-p
invariant-loop-p l = record {
  so_far : l.out.items
      ≡ l.fn.out.items ++ further (map (pairing_name l.problem) (set_of l.number (take l.p l.places)));
  none : l.none ≡ (length (set_of l.number (take l.p l.places)) == 0);
}
