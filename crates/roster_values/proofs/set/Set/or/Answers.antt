use Rattle.std.proofs.Common.{◌||◌, inl, inr, sym, ap₂, ◌∙◌}
use Rattle.std.proofs.lemmas.Bool.{or_cases}
use Rattle.roster_values.specs.Set.{has_bit, IsSet}
use Rattle.roster_values.specs.Bits.{is_among-places_in}
use Rattle.roster_values.proofs.set.Set.or.Goals.{After-add_bits}
use Rattle.roster_values.proofs.set.Set.or.Goals as goal

either_set : (c : After-add_bits) → IsSet c.add_bits.new.words
either_set c = record {
  fits = c.add_bits.ensures.fits c.self.invariant.fits c.other.invariant.fits;
  long = c.add_bits.array_long;
  within = λ p h. elim (or_cases (has_bit c.self.inside.words p) (has_bit c.other.inside.words p) (sym (c.add_bits.ensures.bits p) ∙ h)) [
    | inl mine ↦ c.self.invariant.within p mine
    | inr theirs ↦ c.other.invariant.within p theirs
  ];
}

pub invariant_of-result : goal.invariant_of-result
invariant_of-result c = either_set c

pub returns : goal.returns
returns c p =
    is_among-places_in c.add_bits.new.words (either_set c) p
    ∙ c.add_bits.ensures.bits p
    ∙ rw (← c.self.view_is, ← c.other.view_is) (sym (ap₂ (λ a b. a || b) (is_among-places_in c.self.inside.words c.self.invariant p) (is_among-places_in c.other.inside.words c.other.invariant p)))
