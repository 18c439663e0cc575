use Rattle.std.proofs.Common.{◌&&◌, sym, ap₂, ◌∙◌}
use Rattle.std.proofs.lemmas.Bool.{and_parts}
use Rattle.roster_values.specs.Set.{has_bit, IsSet}
use Rattle.roster_values.specs.Bits.{is_among-places_in}
use Rattle.roster_values.proofs.set.Set.and.Goals.{After-keep_bits}
use Rattle.roster_values.proofs.set.Set.and.Goals as goal

both_set : (c : After-keep_bits) → IsSet c.keep_bits.new.words
both_set c = record {
  fits = c.keep_bits.ensures.fits c.self.invariant.fits c.other.invariant.fits;
  long = c.keep_bits.array_long;
  within = λ p h.
      c.self.invariant.within p (and_parts (has_bit c.self.inside.words p) (has_bit c.other.inside.words p) (sym (c.keep_bits.ensures.bits p) ∙ h)).0;
}

pub invariant_of-result : goal.invariant_of-result
invariant_of-result c = both_set c

pub returns : goal.returns
returns c p =
    is_among-places_in c.keep_bits.new.words (both_set c) p
    ∙ c.keep_bits.ensures.bits p
    ∙ rw (← c.self.view_is, ← c.other.view_is) (sym (ap₂ (λ a b. a && b) (is_among-places_in c.self.inside.words c.self.invariant p) (is_among-places_in c.other.inside.words c.other.invariant p)))
