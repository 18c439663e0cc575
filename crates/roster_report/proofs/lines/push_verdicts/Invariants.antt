use Rattle.std.proofs.Common.{◌≡◌, ℕ, ◌++◌, take, map, option_map}
use Rattle.std.specs.List.{enumerate_from, flat_map}
use Rattle.roster_model.specs.records.Crew.{Person}
use Rattle.roster_model.specs.Texts.{verdict_line, lock_line, rule_at}
use Rattle.roster_values.specs.View.{rule_of}
use Rattle.roster_report.proofs.lines.push_verdicts.Given as goal

abbrev pub invariant-loop-k : goal.invariant-loop-k
invariant-loop-k l =
    l.out.items ≡ l.fn.out.items ++ flat_map (λ (entry : ℕ × Person). verdict_line entry.1 (rule_at (map (option_map rule_of) l.verdicts) entry.0) ++ lock_line entry.1 (rule_at (map (option_map rule_of) l.locks) entry.0)) (enumerate_from 0 (take l.k l.problem.persons))
