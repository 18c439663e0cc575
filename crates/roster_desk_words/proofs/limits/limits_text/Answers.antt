use Rattle.std.proofs.Common.{subst}
use Rattle.roster_desk_words.specs.Limits.{AreLimitLines, is_meant}
use Rattle.roster_desk_words.proofs.Parts.{part_below}
use Rattle.roster_desk_words.proofs.limits.limits_text.Goals as goal

pub loop-k-preserved : goal.loop-k-preserved
loop-k-preserved c =
    let problem = c.args.problem.now in
    let places = c.args.places.now in
    part_below (λ k. AreLimitLines (is_meant c.args.person k) problem places k) _ _ _ _ _ c.loop-k.invariant
    (subst (λ meant. AreLimitLines meant problem places c.loop-k.k c.in_ok-text.text.items) c.is_meant.ensures c.in_ok-text.ensures)
    c.as_slice.ensures.value c.in_ok-extend_from_slice.ensures.items
