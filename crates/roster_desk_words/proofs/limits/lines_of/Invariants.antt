use Rattle.std.proofs.Common.{take}
use Rattle.roster_desk_words.specs.Limits.{IsLimitLine}
use Rattle.roster_desk_words.specs.Parts.{AreParts}
use Rattle.roster_desk_words.proofs.limits.lines_of.Given as goal

abbrev pub invariant-loop-limit : goal.invariant-loop-limit
invariant-loop-limit l = AreParts (IsLimitLine l.problem l.list l.k) (take l.limit-index l.limits) l.out.items
