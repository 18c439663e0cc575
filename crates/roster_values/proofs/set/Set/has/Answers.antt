use Rattle.std.proofs.Common.{◌≡◌, ℕ, ◌<◌, List, sym, subst, ◌∙◌, arith, false}
use Rattle.std.specs.Prelude.{All}
use Rattle.std.specs.List.Sorted.{IsStrictlyIncreasing}
use Rattle.std.proofs.lemmas.Bool.{le-ltb, false_from_ne_true}
use Rattle.roster_model.specs.declared.limits.TheConstants.{MOST_PAIRINGS}
use Rattle.roster_model.specs.Rules.{is_among}
use Rattle.roster_model.proofs.SetLemmas.{rising_from_Ascends}
use Rattle.roster_values.specs.Set.{has_bit, places_in}
use Rattle.roster_values.specs.Bits.{is_among-places_in, Ascends-places_in}
use Rattle.roster_values.proofs.set.Set.has.Goals as goal

ascending : (words set : List ℕ) → places_in words ≡ set → IsStrictlyIncreasing set
ascending words set view = subst IsStrictlyIncreasing view (rising_from_Ascends _ (Ascends-places_in words).1)

within : (words set : List ℕ) → places_in words ≡ set → All (λ q. q < MOST_PAIRINGS) set
within words set view = subst (All (λ q. q < MOST_PAIRINGS)) view (Ascends-places_in words).0

pub returns-then-p-lt-MOST_PAIRINGS-clause-value : goal.returns-then-p-lt-MOST_PAIRINGS-clause-value
returns-then-p-lt-MOST_PAIRINGS-clause-value c =
    c.has_bit.ensures ∙ sym (subst (λ s. is_among s c.args.p ≡ has_bit c.self.inside.words c.args.p) c.self.view_is (is_among-places_in c.self.inside.words c.self.invariant c.args.p))

pub returns-then-p-lt-MOST_PAIRINGS-clause-ascending : goal.returns-then-p-lt-MOST_PAIRINGS-clause-ascending
returns-then-p-lt-MOST_PAIRINGS-clause-ascending c = ascending c.self.inside.words _ c.self.view_is

pub returns-then-p-lt-MOST_PAIRINGS-clause-places : goal.returns-then-p-lt-MOST_PAIRINGS-clause-places
returns-then-p-lt-MOST_PAIRINGS-clause-places c = within c.self.inside.words _ c.self.view_is

pub returns-else-p-lt-MOST_PAIRINGS-clause-value : goal.returns-else-p-lt-MOST_PAIRINGS-clause-value
returns-else-p-lt-MOST_PAIRINGS-clause-value c =
    let same =
    subst (λ s. is_among s c.args.p ≡ has_bit c.self.inside.words c.args.p) c.self.view_is
    (is_among-places_in c.self.inside.words c.self.invariant c.args.p) in
    let past : has_bit c.self.inside.words c.args.p ≡ false = false_from_ne_true _ (λ h. let l = c.self.invariant.within c.args.p h in omega arith) in
    le-ltb c.args.p MOST_PAIRINGS c.if-p-lt-MOST_PAIRINGS.false ∙ sym (same ∙ past)

pub returns-else-p-lt-MOST_PAIRINGS-clause-ascending : goal.returns-else-p-lt-MOST_PAIRINGS-clause-ascending
returns-else-p-lt-MOST_PAIRINGS-clause-ascending c = ascending c.self.inside.words _ c.self.view_is

pub returns-else-p-lt-MOST_PAIRINGS-clause-places : goal.returns-else-p-lt-MOST_PAIRINGS-clause-places
returns-else-p-lt-MOST_PAIRINGS-clause-places c = within c.self.inside.words _ c.self.view_is
