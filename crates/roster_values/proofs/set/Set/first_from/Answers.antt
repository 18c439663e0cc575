use Rattle.std.proofs.Common.{◌≡◌, ℕ, ◌+◌, ◌<◌, ◌≤◌, List, [], ◌∷◌, true, false, ◌∙◌}
use Rattle.std.specs.Prelude.{IfSome, MatchOption, None, Option, Some}
use Rattle.roster_model.specs.declared.limits.TheConstants.{MOST_PAIRINGS}
use Rattle.roster_model.specs.Rules.{is_among}
use Rattle.roster_model.proofs.SetLemmas.{rising_from_Ascends}
use Rattle.roster_values.specs.Set.{has_bit, places_from, places_in, IsFirstBit, IsSet}
use Rattle.roster_values.specs.Bits.{is_among-places_in, Ascends-places_in}
use Rattle.roster_values.proofs.SetParts.{places_from-none, places_from-some, places_from-first}
use Rattle.roster_values.proofs.set.Set.first_from.Goals as goal

same_place : (words : List ℕ) → IsSet words → (p : ℕ) (b : _) → has_bit words p ≡ b
    → is_among (places_in words) p ≡ b
same_place words is p b h = is_among-places_in words is p ∙ h

rest_of : (words : List ℕ) → IsSet words → (from : ℕ) (found : Option ℕ) → IsFirstBit words from found → MatchOption found (places_from from (places_in words) ≡ []) (λ p. places_from from (places_in words) ≡ p ∷ places_from (p + 1) (places_in words))
rest_of words is from None none =
    places_from-none from (places_in words) (λ q l. same_place words is q false (none q l))
rest_of words is from (Some p) first =
    places_from-some from p (places_in words) (Ascends-places_in words).1 first.0
    (same_place words is p true first.1) (λ q l before. same_place words is q false (first.2 q l before))

place_of : (words : List ℕ) → IsSet words → (from : ℕ) (found : Option ℕ) → IsFirstBit words from found
    → IfSome found (λ p. (from ≤ p) × (p < MOST_PAIRINGS) × (is_among (places_in words) p ≡ true))
place_of words is from None none = tt
place_of words is from (Some p) first = (first.0, is.within p first.1, same_place words is p true first.1)

least_of : (words : List ℕ) → IsSet words → (from : ℕ) (found : Option ℕ) → IsFirstBit words from found → MatchOption found ((q : ℕ) → from ≤ q → is_among (places_in words) q ≡ false) (λ p. (q : ℕ) → from ≤ q → q < p → is_among (places_in words) q ≡ false)
least_of words is from None none = λ q l. same_place words is q false (none q l)
least_of words is from (Some p) first = λ q l before. same_place words is q false (first.2 q l before)

pub returns-clause-rest : goal.returns-clause-rest
returns-clause-rest c =
    rw (← c.self.view_is)
    (rest_of c.self.inside.words c.self.invariant c.args.from c.first_bit.result c.first_bit.ensures)

pub returns-clause-place : goal.returns-clause-place
returns-clause-place c =
    rw (← c.self.view_is)
    (place_of c.self.inside.words c.self.invariant c.args.from c.first_bit.result c.first_bit.ensures)

pub returns-clause-least : goal.returns-clause-least
returns-clause-least c =
    rw (← c.self.view_is)
    (least_of c.self.inside.words c.self.invariant c.args.from c.first_bit.result c.first_bit.ensures)

pub returns-clause-whole : goal.returns-clause-whole
returns-clause-whole c = places_from-first c.args.self.now

pub returns-clause-ascending : goal.returns-clause-ascending
returns-clause-ascending c =
    rw (← c.self.view_is) (rising_from_Ascends _ (Ascends-places_in c.self.inside.words).1)
