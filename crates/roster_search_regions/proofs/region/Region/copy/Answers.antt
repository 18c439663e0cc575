use Rattle.std.proofs.Common.{SFits, w64, ◌∙◌, rules}
use Rattle.std.proofs.lemmas.Int.{to_z-of_z}
use Rattle.std.proofs.lemmas.List.{take_all}
use Rattle.roster_search_regions.proofs.region.Region.copy.Goals as goal

pub returns : goal.returns
returns c =
    let all =
    c.loop-lines.invariant
    ∙ take_all c.loop-lines.lines-index c.deref-lines-items.result.now c.loop-lines-test.false
    ∙ c.deref-lines-items.ensures.value in
    let fits : SFits w64 c.self.inside.idle = search rules in
    rw (all, to_z-of_z w64 c.self.inside.idle fits) c.self.view_is
