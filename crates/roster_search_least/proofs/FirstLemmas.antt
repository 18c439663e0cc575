-- The first of a given roster and those of a region that cost as little, one pairing after another.
use Rattle.std.proofs.Common.{◌≡◌, ℕ, ◌<◌, ◌≤◌, true, List, length, take, get_or, Some, ◌≤ℤ◌, refl, sym, ap, ◌∙◌, subst, ◌⊎◌, inl, inr, arith}
use Rattle.std.proofs.lemmas.Bool.{cases_lt}
use Rattle.std.proofs.lemmas.Int.{ints, by_lt_z}
use Rattle.std.proofs.lemmas.List.{take_all}
use Rattle.std.proofs.lemmas.Option.{slice_get-get_or}
use Rattle.roster_model.specs.Costs.{cost_of}
use Rattle.roster_model.specs.Problem.{Problem}
use Rattle.roster_model.specs.Places.{places_le}
use Rattle.roster_model.specs.Rosters.{Key, key_le, key_of}
use Rattle.roster_model.specs.Settled.{IsHeld, IsWithinCost, Settles}
use Rattle.roster_search_least.proofs.Keys.{by_cost, by_places}
use Rattle.roster_model.proofs.PlacesOrder.{places_le-refl, places_le-trans}
use Rattle.roster_search_regions.specs.Regions.{Has, IsIn, IsNarrowed, IsRegion, IsWhollyIn, Region}
use Rattle.roster_search_fixing.specs.Propagation.{IsEmpty}
use Rattle.roster_search_least.specs.Firsts.{AgreeBefore, GoesOn, IsSettledAt}
use Rattle.roster_search_least.specs.Least.{CostsAtLeast}
use Rattle.roster_search_least.proofs.Fronts.{before_by_number, same_number_more}

-- ---- the persons before one are tried at a place

-- None of the cheap rosters of the region has one of them there, and all cheap rosters of the old region
-- are still in it.
pub record AreTried (problem : Problem) (p x : ℕ) (old now : Region) (key : Key) : Type 0 where
  pub is_region : IsRegion problem now
  pub inside : (others : List ℕ) → IsIn problem now others → IsIn problem old others
  pub kept : (others : List ℕ) → IsIn problem old others → cost_of problem others ≤ℤ key.cost
      → IsIn problem now others
  pub none : (others : List ℕ) (j : ℕ) → IsIn problem now others → cost_of problem others ≤ℤ key.cost → j < x
      → ¬ Has j p others

pub tried_none : (problem : Problem) (p : ℕ) (region : Region) (key : Key) → AgreeBefore problem p region key
    → AreTried problem p 0 region region key
tried_none problem p region key agree = record {
  is_region = agree.is_region;
  inside = λ others here. here;
  kept = λ others here cheap. here;
  none = λ others j here cheap less. absurd (omega arith);
}

-- ---- the place is settled

-- by a roster that has the number there, where all before it are tried
pub settled_at : (problem : Problem) (p x : ℕ) (old now new : Region) (before after : Key)
    → AgreeBefore problem p old before → AreTried problem p x old now before
    → IsNarrowed problem (Has x p) now new → IsWhollyIn problem new (Has x p) → IsHeld problem after
    → take p after.places ≡ take p before.places → Has x p after.places
    → (before ≡ after) ⊎ IsIn problem old after.places → after.cost ≤ℤ before.cost
    → places_le after.places before.places ≡ true → p < length problem.pairings
    → IsSettledAt problem p old before new after
settled_at problem p x old now new before after agree tried narrowed wholly held same has from cheap earlier inside =
    let front : (others : List ℕ) → IsIn problem old others → take p others ≡ take p after.places =
    λ others here. agree.same others here ∙ sym same in
    record {
      agree = record {
        is_region = narrowed.region;
        cost = held.cost;
        legal = held.legal;
        same = λ others here.
            same_number_more p x others after.places
            (front others (tried.inside others (narrowed.inside others here))) (wholly others here) has;
      };
      on = record {
        inside = λ others here. tried.inside others (narrowed.inside others here);
        from = from;
        cheap = cheap;
        earlier = earlier;
        kept = λ others here costs.
            let most : cost_of problem others ≤ℤ before.cost = omega (arith, ints) in
            let still = tried.kept others here most in
            let number = get_or others p 0 in
            let long : p < length others = omega (arith, here.legal.covers) in
            let at = slice_get-get_or others p 0 long in
            elim (cases_lt number x) [
              | inl less ↦ absurd (tried.none others number still most less at)
              | inr on ↦ elim (cases_lt x number) [
                | inl more ↦ inr (before_by_number p x number after.places others (sym (front others here)) has at more)
                | inr same ↦
                    let is : number ≡ x = omega arith in
                    inl (narrowed.kept others still (at ∙ ap (λ n. Some n) is))
              ]
            ];
      };
    }

-- the roster itself
pub settled_as_is : (problem : Problem) (p x : ℕ) (old now new : Region) (key : Key)
    → AgreeBefore problem p old key → AreTried problem p x old now key → IsNarrowed problem (Has x p) now new
    → IsWhollyIn problem new (Has x p) → Has x p key.places → p < length problem.pairings
    → IsSettledAt problem p old key new key
settled_as_is problem p x old now new key agree tried narrowed wholly has inside =
    settled_at problem p x old now new key key agree tried narrowed wholly
    (record { legal = agree.legal; cost = agree.cost }) refl has (inl refl) (omega (arith, ints))
    (places_le-refl key.places) inside

-- one that has an earlier number there
pub settled_earlier : (problem : Problem) (p x number : ℕ) (old now new : Region) (key earlier : Key)
    → AgreeBefore problem p old key → AreTried problem p x old now key → IsNarrowed problem (Has x p) now new
    → IsWhollyIn problem new (Has x p) → Has number p key.places → x < number
    → IsWithinCost problem (λ places. IsIn problem now places × Has x p places) key.cost earlier
    → p < length problem.pairings → IsSettledAt problem p old key new earlier
settled_earlier problem p x number old now new key earlier agree tried narrowed wholly has less found inside =
    let here = tried.inside earlier.places found.inside.0 in
    let same = agree.same earlier.places here in
    settled_at problem p x old now new key earlier agree tried narrowed wholly found.held same found.inside.1
    (inr here) found.within
    (before_by_number p x number earlier.places key.places same found.inside.1 has less) inside

-- ---- one place after another

pub goes_on_none : (problem : Problem) (region : Region) (key : Key) → GoesOn problem region key region key
goes_on_none problem region key = record {
  inside = λ others here. here;
  from = inl refl;
  cheap = omega (arith, ints);
  earlier = places_le-refl key.places;
  kept = λ others here cheap. inl here;
}

pub goes_on_then : (problem : Problem) (old mid new : Region) (before between after : Key)
    → GoesOn problem old before mid between → GoesOn problem mid between new after
    → GoesOn problem old before new after
goes_on_then problem old mid new before between after first second =
    let cheap = second.cheap in
    let cheaper = first.cheap in
    record {
      inside = λ others here. first.inside others (second.inside others here);
      from = elim second.from [
        | inl same ↦ subst (λ k. (before ≡ k) ⊎ IsIn problem old k.places) same first.from
        | inr own ↦ inr (first.inside after.places own)
      ];
      cheap = omega (arith, ints);
      earlier = places_le-trans after.places between.places before.places second.earlier first.earlier;
      kept = λ others here costs.
          let most : cost_of problem others ≤ℤ between.cost = omega (arith, ints) in
          elim (first.kept others here most) [
            | inl still ↦ second.kept others still costs
            | inr later ↦ inr (places_le-trans after.places between.places others second.earlier later)
          ];
    }

-- before the first place
pub agree_before_first : (problem : Problem) (region : Region) (key : Key) → IsRegion problem region
    → IsHeld problem key → AgreeBefore problem 0 region key
agree_before_first problem region key is held = record {
  is_region = is;
  cost = held.cost;
  legal = held.legal;
  same = λ others here. refl;
}

-- ---- all is settled

-- if nothing is left in the region that comes before the roster
settled_by_rest : (problem : Problem) (whole region : Region) (before after : Key) (p : ℕ)
    → CostsAtLeast problem (IsIn problem whole) before.cost → AgreeBefore problem p region after
    → GoesOn problem whole before region after
    → ((others : List ℕ) → IsIn problem region others → places_le after.places others ≡ true)
    → Settles problem (IsIn problem whole) (IsIn problem whole) (Some before) after
settled_by_rest problem whole region before after p least agree on rest =
    let cheap = on.cheap in
    record {
      held = record { legal = agree.legal; cost = agree.cost };
      kept = by_lt_z {P = key_le after before ≡ true} after.cost before.cost
          (λ less. by_cost after before less)
          (λ most. by_places after before (omega (arith, ints)) on.earlier);
      least = λ others legal inside.
          let never_less = least others legal inside in
          by_lt_z {P = key_le after (key_of problem others) ≡ true} after.cost (cost_of problem others)
          (λ less. by_cost after (key_of problem others) less)
          (λ most.
          let same : after.cost ≡ cost_of problem others = omega (arith, ints) in
          by_places after (key_of problem others) same (elim (on.kept others inside most) [
            | inl here ↦ rest others here
            | inr later ↦ later
          ]));
      from = elim on.from [ inl same ↦ inl (ap (λ k. Some k) same) | inr own ↦ inr own ];
    }

-- at the end there is nothing but the roster
pub settled_at_end : (problem : Problem) (whole region : Region) (before after : Key) (p : ℕ)
    → CostsAtLeast problem (IsIn problem whole) before.cost → AgreeBefore problem p region after
    → GoesOn problem whole before region after → p ≡ length problem.pairings
    → Settles problem (IsIn problem whole) (IsIn problem whole) (Some before) after
settled_at_end problem whole region before after p least agree on all =
    settled_by_rest problem whole region before after p least agree on (λ others here.
    let long : length others ≤ p = omega (arith, here.legal.covers) in
    let longer : length after.places ≤ p = omega (arith, agree.legal.covers) in
    let equal : others ≡ after.places =
    sym (take_all p others long) ∙ agree.same others here ∙ take_all p after.places longer in
    subst (λ xs. places_le after.places xs ≡ true) (sym equal) (places_le-refl after.places))

-- or there is nothing
pub settled_if_empty : (problem : Problem) (whole region : Region) (before after : Key) (p : ℕ)
    → CostsAtLeast problem (IsIn problem whole) before.cost → AgreeBefore problem p region after
    → GoesOn problem whole before region after → IsEmpty problem region
    → Settles problem (IsIn problem whole) (IsIn problem whole) (Some before) after
settled_if_empty problem whole region before after p least agree on empty =
    settled_by_rest problem whole region before after p least agree on
    (λ others here. absurd (empty others here))
