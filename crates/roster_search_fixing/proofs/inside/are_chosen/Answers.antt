use Rattle.std.proofs.Common.{length, false, sym, ap, subst, arith, below_more, refl}
use Rattle.std.specs.Prelude.{All}
use Rattle.std.proofs.lemmas.Bool.{both_ways}
use Rattle.std.proofs.lemmas.List.Elements.{All-contains}
use Rattle.roster_model.specs.Places.{set_of}
use Rattle.roster_search_regions.specs.Regions.{lines_of}
use Rattle.roster_search_regions.specs.Trees.{HasJust, Offers}
use Rattle.roster_search_fixing.proofs.Fixing.{match_false, match_true}
use Rattle.roster_search_fixing.proofs.inside.are_chosen.Goals as goal

pub returns-then-not-branch : goal.returns-then-not-branch
returns-then-not-branch c =
    let persons = ap length c.persons-k-end.ensures.value in
    let lines = lines_of c.args.region.now c.loop-k.k in
    let none = match_false c.in_ok-offers.field-0 (Offers lines c.of_places-set.result) (All (λ line. ¬ HasJust c.of_places-set.result line) lines) c.if-not-branch.true c.in_ok-offers.ensures in (
      λ yes. absurd (both_ways false refl yes),
      λ chosen.
          let line = chosen c.loop-k.k (omega (arith, persons, c.loop-k-test.true)) in
          let has = subst (λ set. HasJust set line.0) (sym c.of_places-set.ensures) line.2 in
          absurd (All-contains (λ l. ¬ HasJust c.of_places-set.result l) lines line.0 none line.1 has),
    )

pub loop-k-preserved : goal.loop-k-preserved
loop-k-preserved c =
    let lines = lines_of c.args.region.now c.loop-k.k in
    let here = match_true c.in_ok-offers.field-0 (Offers lines c.of_places-set.result) (All (λ line. ¬ HasJust c.of_places-set.result line) lines) c.if-not-branch.false c.in_ok-offers.ensures in
    below_more
    (λ j. Offers (lines_of c.args.region.now j) (set_of j c.args.places.now)) c.loop-k.k c.loop-k.invariant
    (subst (Offers lines) c.of_places-set.ensures here)
