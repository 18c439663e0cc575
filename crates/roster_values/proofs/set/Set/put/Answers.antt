use Rattle.std.proofs.Common.{◌≡◌, ℕ, ◌<◌, eqb, eqb-true, ◌||◌, inl, inr, sym, subst, ap, ◌∙◌}
use Rattle.std.proofs.lemmas.Bool.{or_cases, eqb-true}
use Rattle.roster_model.specs.declared.limits.TheConstants.{MOST_PAIRINGS}
use Rattle.roster_model.specs.Rules.{is_among}
use Rattle.roster_model.proofs.SetLemmas.{Ascends}
use Rattle.roster_values.specs.Set.{places_in, with_place}
use Rattle.roster_values.specs.Bits.{is_among-places_in, Ascends-places_in, places_in_set}
use Rattle.roster_values.proofs.SetParts.{Ascends-with_place, is_among-with_place, with_place-last}
use Rattle.roster_values.proofs.set.Set.put.Goals as goal

pub invariant_of-self : goal.invariant_of-self
invariant_of-self c = record {
  fits = c.set_bit.ensures.fits c.self.invariant.fits;
  long = c.set_bit.array_long;
  within = λ p h. elim (or_cases _ _ (sym (c.set_bit.ensures.bits p) ∙ h)) [
    | inl old ↦ c.self.invariant.within p old
    | inr new ↦ subst (λ q. q < MOST_PAIRINGS) (eqb-true c.args.p p new) c.requires
  ];
}

-- the words are those of the set with the place in it
put_value : (c : goal.After-set_bit) → places_in c.set_bit.new.words ≡ with_place c.args.p c.args.self.now
put_value c =
    let words = c.self.inside.words in
    let p = c.args.p in
    let up = Ascends-places_in words in
    let members = λ (q : ℕ). is_among-with_place p (places_in words) q ∙ ap (λ b. b || eqb p q) (is_among-places_in words c.self.invariant q) in
    rw (← c.self.view_is) (places_in_set c.set_bit.new.words _ (Ascends-with_place p (places_in words) up.1)
    (λ q h. elim (or_cases _ _ (sym (members q) ∙ h)) [
      | inl old ↦ c.self.invariant.within q old
      | inr new ↦ subst (λ r. r < MOST_PAIRINGS) (eqb-true p q new) c.requires
    ])
    (λ q. c.set_bit.ensures.bits q ∙ sym (members q)))

pub returns-clause-value : goal.returns-clause-value
returns-clause-value c = put_value c

pub returns-clause-members : goal.returns-clause-members
returns-clause-members c q =
    ap (λ set. is_among set q) (put_value c) ∙ is_among-with_place c.args.p c.args.self.now q

pub returns-clause-last : goal.returns-clause-last
returns-clause-last c last =
    let rising = subst Ascends c.self.view_is (Ascends-places_in c.self.inside.words).1 in
    put_value c ∙ with_place-last c.args.p c.args.self.now rising last
