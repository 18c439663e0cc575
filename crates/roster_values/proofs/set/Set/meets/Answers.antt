use Rattle.std.proofs.Common.{◌≡◌, ℕ, ◌<◌, ◌*◌, List, refl, sym, subst, ◌∙◌, inl, inr, arith}
use Rattle.std.proofs.lemmas.Bool.{and_from, both_ways, cases_lt, false≢true}
use Rattle.roster_model.specs.declared.limits.TheConstants.{MOST_PAIRINGS}
use Rattle.roster_model.specs.Rules.{is_among}
use Rattle.roster_values.specs.Set.{has_bit, places_in, IsSet}
use Rattle.roster_values.specs.Bits.{is_among-places_in}
use Rattle.roster_values.proofs.Words.{apart_in_word, meet_in_word}
use Rattle.roster_values.proofs.set.Set.meets.Goals as goal

same_place : (words set : List ℕ) → places_in words ≡ set → IsSet words → (p : ℕ)
    → is_among set p ≡ has_bit words p
same_place words set view is p =
    subst (λ s. is_among s p ≡ has_bit words p) view (is_among-places_in words is p)

pub returns-then-self-i-ne0 : goal.returns-then-self-i-ne0
returns-then-self-i-ne0 c =
    let meet = meet_in_word c.self.inside.words c.other.inside.words c.loop-i.i (c.self.invariant.fits c.loop-i.i 0 (let long = c.self.invariant.long in omega arith)) (omega arith) in
    (λ _. (meet.0, same_place _ _ c.self.view_is c.self.invariant meet.0 ∙ meet.1, same_place _ _ c.other.view_is c.other.invariant meet.0 ∙ meet.2), λ _. refl)

pub loop-i-preserved : goal.loop-i-preserved
loop-i-preserved c p l =
    elim (cases_lt p (c.loop-i.i * 64)) [
      | inl earlier ↦ c.loop-i.invariant p earlier
      | inr here ↦ apart_in_word c.self.inside.words c.other.inside.words c.loop-i.i p (omega arith) c.if-self-i-ne0.false
    ]

pub returns : goal.returns
returns c = (
  λ h. absurd (false≢true h),
  λ meet.
      let mine = sym (same_place _ _ c.self.view_is c.self.invariant meet.0) ∙ meet.1 in
      let theirs = sym (same_place _ _ c.other.view_is c.other.invariant meet.0) ∙ meet.2 in
      let within : meet.0 < MOST_PAIRINGS = c.self.invariant.within meet.0 mine in
      absurd (both_ways _ (c.loop-i.invariant meet.0 (omega arith)) (and_from _ _ mine theirs)),
)
