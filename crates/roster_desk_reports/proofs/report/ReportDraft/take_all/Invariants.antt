use Rattle.std.proofs.Common.{◌≡◌, ◌+◌, ◌++◌, drop, map}
use Rattle.std.specs.Prelude.{is_some}
use Rattle.std.specs.Option.{option_or}
use Rattle.roster_desk_reports.specs.Faults.{first_fault, heading_from}
use Rattle.roster_desk_reports.specs.Text.{given_from, numbered_by_line}
use Rattle.roster_desk_reports.proofs.report.ReportDraft.take_all.Given as goal

-- what the lines that are left say, behind what those so far say
abbrev pub invariant-loop-i : goal.invariant-loop-i
invariant-loop-i l =
    let lines = map (λ line. line.now) l.lines in
    record {
      given : map numbered_by_line l.self.crew.items ++ given_from (l.i + 1) (drop l.i lines) ≡ map numbered_by_line l.initial.self.crew.items ++ given_from 1 lines;
      heading : option_or l.self.heading (heading_from (l.i + 1) (drop l.i lines)) ≡ option_or l.initial.self.heading (heading_from 1 lines);
      fault : first_fault (is_some l.self.heading) l.self.pairings (l.i + 1) (drop l.i lines) ≡ first_fault (is_some l.initial.self.heading) l.initial.self.pairings 1 lines;
    }
