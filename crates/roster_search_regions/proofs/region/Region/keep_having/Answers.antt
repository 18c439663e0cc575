use Rattle.std.proofs.Common.{◌≡◌, [], get_or, ap, ◌∙◌, subst}
use Rattle.std.specs.Prelude.{filter}
use Rattle.std.proofs.lemmas.List.{get_or_default}
use Rattle.roster_model.specs.Rules.{is_among}
use Rattle.roster_search_regions.specs.Regions.{AllowedLine, Region, lines_of}
use Rattle.roster_search_regions.specs.Trees.{agrees}
use Rattle.roster_search_regions.proofs.RegionLemmas.{with_lines_kept}
use Rattle.roster_search_regions.proofs.region.Region.keep_having.Goals as goal

pub returns-then-keeps_all : goal.returns-then-keeps_all
returns-then-keeps_all c =
    let region = c.args.self.now in
    let test = λ (line : AllowedLine). agrees c.args.wanted (is_among line.set c.args.p) in
    let persons = c.self.inside.persons.items in
    let whole : persons ≡ region.choices = ap (λ (r : Region). r.choices) c.self.view_is in
    let same : get_or persons c.args.k c.index.result.now ≡ lines_of region c.args.k =
    ap (λ lists. get_or lists c.args.k c.index.result.now) whole
    ∙ get_or_default region.choices c.args.k c.index.result.now [] c.requires in
    with_lines_kept region c.args.k test
    (subst (λ lines. filter test lines ≡ lines) (c.tree.ensures ∙ c.index.ensures ∙ same) (c.keeps_all.ensures c.if-keeps_all.true))
