use Rattle.std.specs.List.{range_with_len}
use Rattle.roster_desk_words.specs.Limits.{AreLimitLines, is_meant}
use Rattle.roster_desk_words.specs.Parts.{AreParts}
use Rattle.roster_desk_words.proofs.limits.limits_text.Given as goal

abbrev pub invariant-loop-k : goal.invariant-loop-k
invariant-loop-k l =
    AreParts (λ k. AreLimitLines (is_meant l.person k) l.problem l.places k) (range_with_len 0 l.k) l.out.items
