-- How what a search has settled is put together.
use Rattle.std.proofs.Common.{◌≡◌, ℕ, ◌⊎◌, true, false, List, Option, Some, None, ℤ, inl, inr, refl, sym, ap, ◌∙◌, subst}
use Rattle.std.specs.Prelude.{IfSome}
use Rattle.std.proofs.lemmas.Option.{same_Some}
use Rattle.roster_model.specs.Problem.{Problem}
use Rattle.roster_model.specs.Costs.{cost_of}
use Rattle.roster_model.specs.Rosters.{IsLegalRoster, Key, key_of, key_le}
use Rattle.roster_model.specs.Settled.{Anywhere, IsBest, IsHeld, IsLeastIn, IsNotAfter, Settles}
use Rattle.roster_model.proofs.KeyLemmas.{key_le-refl, key_le-trans, key_le-other}

-- ---- keys that are held

key : ℤ → List ℕ → Key
key cost places = record { cost = cost; places = places }

-- a key that is held is that of its places
pub held-key : (problem : Problem) (new : Key) → IsHeld problem new → new ≡ key_of problem new.places
unfolding key
held-key problem new held = ap (λ cost. key cost new.places) held.cost

-- places with their cost are the key of an equal list
pub key_of-same : (problem : Problem) (cost : ℤ) (places others : List ℕ) → cost ≡ cost_of problem places
    → others ≡ places → key_of problem others ≡ record { cost = cost; places = places }
unfolding key
key_of-same problem cost places others costs is = ap (key_of problem) is ∙ ap (λ z. key z places) (sym costs)

-- ---- what is settled

-- an earlier key is no later than the old one
kept_before : (old : Option Key) (mid new : Key) → key_le new mid ≡ true
    → IfSome old (λ k. key_le mid k ≡ true) → IfSome old (λ k. key_le new k ≡ true)
kept_before None mid new h kept = tt
kept_before (Some k) mid new h kept = key_le-trans new mid k h kept

-- nothing is tried
pub Settles-nothing : (problem : Problem) (Region Own : List ℕ → Type 0) (old : Key) → IsHeld problem old
    → ((others : List ℕ) → Region others → ⊥) → Settles problem Region Own (Some old) old
Settles-nothing problem Region Own old held nothing = record {
  held = held;
  kept = key_le-refl old;
  least = λ others _ inside. absurd (nothing others inside);
  from = inl refl;
}

-- a region in which every legal roster lies in one that is settled
pub Settles-within : (problem : Problem) (Region Inner Own : List ℕ → Type 0) (old : Option Key) (new : Key)
    → Settles problem Region Own old new
    → ((others : List ℕ) → IsLegalRoster problem others → Inner others → Region others)
    → Settles problem Inner Own old new
Settles-within problem Region Inner Own old new settled covers = record {
  held = settled.held;
  kept = settled.kept;
  least = λ others legal inside. settled.least others legal (covers others legal inside);
  from = settled.from;
}

-- a new roster may lie in more than it has to
pub Settles-wider : (problem : Problem) (Region Own Wider : List ℕ → Type 0) (old : Option Key) (new : Key)
    → Settles problem Region Own old new
    → ((places : List ℕ) → IsLegalRoster problem places → Own places → Wider places)
    → Settles problem Region Wider old new
Settles-wider problem Region Own Wider old new settled covers = record {
  held = settled.held;
  kept = settled.kept;
  least = settled.least;
  from = elim settled.from [ inl same ↦ inl same | inr own ↦ inr (covers new.places settled.held.legal own) ];
}

-- two regions after one another, which cover a third
pub Settles-then : (problem : Problem) (First Second Both Own : List ℕ → Type 0) (old : Option Key) (mid new : Key) → Settles problem First Own old mid → Settles problem Second Own (Some mid) new → ((others : List ℕ) → IsLegalRoster problem others → Both others → First others ⊎ Second others) → Settles problem Both Own old new
Settles-then problem First Second Both Own old mid new first second covers = record {
  held = second.held;
  kept = kept_before old mid new second.kept first.kept;
  least = λ others legal inside.
      elim (covers others legal inside) [
        | inl before ↦ key_le-trans new mid (key_of problem others) second.kept (first.least others legal before)
        | inr now ↦ second.least others legal now
      ];
  from = elim second.from [
    | inl same ↦ subst (λ k. (old ≡ Some k) ⊎ Own k.places) (same_Some mid new same) first.from
    | inr own ↦ inr own
  ];
}

-- if the new roster lies in the region, it is the least there
pub Settles-least : (problem : Problem) (Region Own : List ℕ → Type 0) (old : Option Key) (new : Key)
    → Settles problem Region Own old new → Region new.places → IsLeastIn problem Region new.places
Settles-least problem Region Own old new settled inside = record {
  is_legal = settled.held.legal;
  inside = inside;
  least = subst (IsNotAfter problem Region) (held-key problem new settled.held) settled.least;
}

-- if the region has all lists, the key is that of the best roster
pub Settles-all : (problem : Problem) (Region Own : List ℕ → Type 0) (old : Option Key) (new : Key)
    → Settles problem Region Own old new → ((others : List ℕ) → Region others) → IsBest problem new.places
Settles-all problem Region Own old new settled all =
    let whole = Settles-within problem Region Anywhere Own old new settled (λ others _ _. all others) in
    Settles-least problem Anywhere Own old new whole tt

-- ---- one list

-- a legal roster that comes before the one held
pub Settles-taken : (problem : Problem) (Own : List ℕ → Type 0) (old : Key) (cost : ℤ) (places taken : List ℕ)
    → cost ≡ cost_of problem places → taken ≡ places → IsLegalRoster problem places → Own places
    → key_le old (record { cost = cost; places = places }) ≡ false
    → Settles problem (λ others. others ≡ places) Own (Some old) (record { cost = cost; places = taken })
unfolding key
Settles-taken problem Own old cost places taken costs copied legal own after =
    subst (λ xs. Settles problem (λ others. others ≡ places) Own (Some old) (key cost xs)) (sym copied)
    (record {
      held = record { legal = legal; cost = costs };
      kept = key_le-other old (key cost places) after;
      least = λ others _ is. subst (λ k. key_le (key cost places) k ≡ true) (sym (key_of-same problem cost places others costs is)) (key_le-refl (key cost places));
      from = inr own;
    })

-- a roster that doesn't come before the one held
pub Settles-left : (problem : Problem) (Own : List ℕ → Type 0) (old : Key) (cost : ℤ) (places : List ℕ)
    → IsHeld problem old → cost ≡ cost_of problem places
    → key_le old (record { cost = cost; places = places }) ≡ true
    → Settles problem (λ others. others ≡ places) Own (Some old) old
unfolding key
Settles-left problem Own old cost places held costs before = record {
  held = held;
  kept = key_le-refl old;
  least = λ others _ is. subst (λ k. key_le old k ≡ true) (sym (key_of-same problem cost places others costs is)) before;
  from = inl refl;
}

-- a list that is no legal roster
pub Settles-illegal : (problem : Problem) (Own : List ℕ → Type 0) (old : Key) (places : List ℕ)
    → IsHeld problem old → (IsLegalRoster problem places → ⊥)
    → Settles problem (λ others. others ≡ places) Own (Some old) old
Settles-illegal problem Own old places held illegal = record {
  held = held;
  kept = key_le-refl old;
  least = λ others legal is. absurd (illegal (subst (IsLegalRoster problem) is legal));
  from = inl refl;
}
