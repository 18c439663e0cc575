use Rattle.std.proofs.Common.{◌≡◌, [], drop, map, take}
use Rattle.std.specs.List.{flat_map}
use Rattle.roster_desk_reports.specs.Faults.{records_fault}
use Rattle.roster_desk_reports.specs.Text.{assigns_of, given_by_line}
use Rattle.roster_desk_reports.proofs.assigns.assigns_text.Given as goal

-- the records so far, of lines that give nothing a second time
abbrev pub invariant-loop-i : goal.invariant-loop-i
invariant-loop-i l = record {
  records : l.out.items ≡ flat_map assigns_of (map given_by_line (take l.i l.lines));
  sound : records_fault (take l.i l.lines) (drop l.i l.lines) ≡ records_fault [] l.lines;
}
