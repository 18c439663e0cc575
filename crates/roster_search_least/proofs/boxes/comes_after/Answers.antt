use Rattle.std.proofs.Common.{ℕ, not, List, ℤ, w64, to_z, of_z, ap, ap₂, ◌∙◌}
use Rattle.std.proofs.lemmas.Int.{to_z-of_z}
use Rattle.roster_model.specs.Rosters.{Key, key_le}
use Rattle.roster_search_least.proofs.boxes.comes_after.Goals as goal

key : ℤ → List ℕ → Key
key cost places = record { cost = cost; places = places }

pub returns : goal.returns
unfolding key
returns c =
    let places = c.args.places.now in
    c.lt.ensures
    ∙ c.order_of_keys.ensures.lt (key (to_z w64 (of_z w64 c.args.cost)) places) c.of.result
    ∙ ap₂ (λ a b. not (key_le b a)) (ap (λ cost. key cost places) (to_z-of_z w64 c.args.cost c.ranges.cost)) c.of.ensures
