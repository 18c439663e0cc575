use Rattle.std.proofs.Common.{◌||◌, refl, sym, ap, ◌∙◌, arith}
use Rattle.roster_model.specs.Rules.{is_among}
use Rattle.roster_search_regions.specs.Regions.{allowed}
use Rattle.roster_search_regions.proofs.MarkLemmas.{few-marked, IsMarking-live}
use Rattle.roster_search_regions.proofs.marker.Marker.mark_live.Goals as goal

pub overflow_add-self : goal.overflow_add-self
overflow_add-self c = omega (arith, few-marked _ c.requires.known.0 c.requires.known.1 c.requires.known.2)

pub returns : goal.returns
returns c choices lines choice is there =
    IsMarking-live c.args.self.now _ c.args.path.now choices lines choice is there c.in_ok-push.ensures.items
    (λ p. c.or-self.ensures p ∙ ap (λ b. is_among c.args.self.now.possible p || b) (c.set-set.ensures p))
    (c.certain_with-certain.ensures choices lines (allowed c.args.path.now choice.extra) is (λ p. sym (c.set-set.ensures p)))
    refl
