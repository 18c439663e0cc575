use Rattle.std.proofs.Common.{◌≡◌, ◌++◌, [], drop, take}
use Rattle.std.specs.List.{flat_map}
use Rattle.roster_desk_reports.specs.Faults.{twice_fault}
use Rattle.roster_desk_reports.specs.Text.{assign_record}
use Rattle.roster_desk_reports.proofs.assigns.push_line.Given as goal

-- the records so far, of names that weren't given before
abbrev pub invariant-loop-i : goal.invariant-loop-i
invariant-loop-i l = record {
  records : l.out.items ≡ l.initial.out.items ++ flat_map (assign_record l.crew.person) (take l.i l.crew.pairings.items);
  sound : twice_fault l.before (take l.i l.crew.pairings.items) (drop l.i l.crew.pairings.items)
      ≡ twice_fault l.before [] l.crew.pairings.items;
}
