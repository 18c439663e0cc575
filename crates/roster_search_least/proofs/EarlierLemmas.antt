-- Rosters that have an earlier number at a place.
use Rattle.std.proofs.Common.{◌≡◌, ℕ, ◌+◌, ◌<◌, ◌≤◌, List, Option, Some, None, length, get_or, unwrap_or, ℤ, sym, ap, ◌∙◌, subst, arith, inl, inr}
use Rattle.std.proofs.lemmas.Bool.{cases_lt}
use Rattle.std.proofs.lemmas.Int.{ints}
use Rattle.std.proofs.lemmas.List.Elements.{All-get_or}
use Rattle.std.proofs.lemmas.Option.{same_Some, slice_get-get_or}
use Rattle.roster_model.specs.Places.{open_number}
use Rattle.roster_model.specs.Problem.{Problem}
use Rattle.roster_model.specs.Rosters.{IsLegalRoster, Key}
use Rattle.roster_model.specs.Settled.{CostsMore, IsWithinCost}
use Rattle.roster_search_regions.specs.Regions.{Has, HasNot, IsIn, IsNarrowed, IsRegion, IsWhollyIn, Region}
use Rattle.roster_search_least.specs.Firsts.{AgreeBefore, HasEarlier, IsFoundAt, IsSettledAt}
use Rattle.roster_search_least.proofs.FirstLemmas.{AreTried, settled_as_is, settled_earlier, tried_none}

-- ---- a region of the rosters that have one

-- an earlier number is none of the others
pub earlier_not : (number p k : ℕ) (places : List ℕ) → number ≤ k → HasEarlier number p places → HasNot k p places
earlier_not number p k places later earlier =
    λ has.
    let same : earlier.0 ≡ k = same_Some earlier.0 k (sym earlier.2 ∙ has) in
    let less : earlier.0 < number = earlier.1 in
    absurd (omega arith)

-- The region has all rosters of the old one that have an earlier number; the others that it has, have none of
-- those before k.
pub record AreDenied (problem : Problem) (number p k : ℕ) (old now : Region) : Type 0 where
  pub narrowed : IsNarrowed problem (HasEarlier number p) old now
  pub flown : IsWhollyIn problem now (HasNot (open_number problem) p)
  pub denied : (others : List ℕ) (j : ℕ) → IsIn problem now others → number ≤ j → j < k → HasNot j p others

pub denied_none : (problem : Problem) (number p : ℕ) (old new : Region) → number ≤ open_number problem
    → IsNarrowed problem (HasNot (open_number problem) p) old new
    → IsWhollyIn problem new (HasNot (open_number problem) p) → AreDenied problem number p number old new
denied_none problem number p old new person narrowed flown = record {
  narrowed = record {
    region = narrowed.region;
    inside = narrowed.inside;
    kept = λ places here earlier.
        narrowed.kept places here (earlier_not number p (open_number problem) places person earlier);
    size = narrowed.size;
    scale = narrowed.scale;
  };
  flown = flown;
  denied = λ others j here from before. absurd (omega arith);
}

pub denied_one_more : (problem : Problem) (number p k : ℕ) (old now new : Region)
    → AreDenied problem number p k old now → number ≤ k → IsNarrowed problem (HasNot k p) now new
    → IsWhollyIn problem new (HasNot k p) → AreDenied problem number p (k + 1) old new
denied_one_more problem number p k old now new before later narrowed denied =
    let first = before.narrowed.size in
    let second = narrowed.size in
    record {
      narrowed = record {
        region = narrowed.region;
        inside = λ places here. before.narrowed.inside places (narrowed.inside places here);
        kept = λ places here earlier.
            narrowed.kept places (before.narrowed.kept places here earlier)
            (earlier_not number p k places later earlier);
        size = omega (arith, first, second);
        scale = narrowed.scale ∙ before.narrowed.scale;
      };
      flown = λ others here. before.flown others (narrowed.inside others here);
      denied = λ others j here from less.
          elim (cases_lt j k) [
            | inl earlier ↦ before.denied others j (narrowed.inside others here) from earlier
            | inr on ↦
                let same : k ≡ j = omega arith in
                subst (λ n. HasNot n p others) same (denied others here)
          ];
    }

-- all rosters have an earlier number if they have none of the others, and nobody's
pub denied_all : (problem : Problem) (number p : ℕ) (old now : Region) → p < length problem.pairings
    → AreDenied problem number p (length problem.persons) old now → IsWhollyIn problem now (HasEarlier number p)
denied_all problem number p old now inside denied =
    λ others here.
    let long : p < length others = omega (arith, here.legal.covers) in
    let n : ℕ = get_or others p 0 in
    let at = slice_get-get_or others p 0 long in
    let most : n ≤ length problem.persons =
    All-get_or (λ x. x ≤ length problem.persons) others p 0 long here.legal.numbers in
    elim (cases_lt n number) [
      | inl less ↦ (n, less, at)
      | inr on ↦ elim (cases_lt n (length problem.persons)) [
        | inl person ↦ absurd (denied.denied others n here on person at)
        | inr rest ↦
            let same : n ≡ length problem.persons = omega arith in
            absurd (denied.flown others here (at ∙ ap (λ x. Some x) same))
      ]
    ]

-- ---- what was found so far

-- the roster has the number there, or a later one
has_no_earlier : (problem : Problem) (p number : ℕ) (region : Region) (key : Key) (first : Option Key)
    → IsFoundAt problem p number region key first → (n : ℕ) × (number ≤ n) × Has n p key.places
has_no_earlier problem p number region key None has = (number, omega arith, has)
has_no_earlier problem p number region key (Some found) is =
    let later = is.2 in
    let less : number < later.0 = later.1 in
    (later.0, omega arith, later.2)

-- one with an earlier number
pub found_earlier : (problem : Problem) (p number x : ℕ) (region : Region) (key earlier : Key)
    (first : Option Key) → IsFoundAt problem p number region key first
    → IsWithinCost problem (λ places. IsIn problem region places × HasEarlier number p places) key.cost earlier
    → Has x p earlier.places → IsFoundAt problem p x region key (Some earlier) × (x < number)
found_earlier problem p number x region key earlier first is found has =
    let own = found.inside.1 in
    let same : own.0 ≡ x = same_Some own.0 x (sym own.2 ∙ has) in
    let below : own.0 < number = own.1 in
    let less : x < number = omega arith in
    let before = has_no_earlier problem p number region key first is in
    let on : number ≤ before.0 = before.1 in (
      (
        record { held = found.held; inside = found.inside.0; within = found.within },
        has,
        (before.0, omega arith, before.2),
      ),
      less,
    )

-- nobody before has it in a cheap roster
pub tried_all : (problem : Problem) (p number : ℕ) (region : Region) (key : Key) → IsRegion problem region
    → CostsMore problem (λ places. IsIn problem region places × HasEarlier number p places) key.cost
    → AreTried problem p number region region key
tried_all problem p number region key is none = record {
  is_region = is;
  inside = λ others here. here;
  kept = λ others here cheap. here;
  none = λ others j here cheap less has.
      let more = none others here.legal (here, (j, less, has)) in
      absurd (omega (arith, ints));
}

-- what was found is settled
pub settled_found : (problem : Problem) (p number : ℕ) (old new : Region) (key : Key) (first : Option Key)
    → AgreeBefore problem p old key → AreTried problem p number old old key
    → IsNarrowed problem (Has number p) old new → IsWhollyIn problem new (Has number p)
    → IsFoundAt problem p number old key first → p < length problem.pairings
    → IsSettledAt problem p old key new (unwrap_or first key)
settled_found problem p number old new key None agree tried narrowed wholly has inside =
    settled_as_is problem p number old old new key agree tried narrowed wholly has inside
settled_found problem p number old new key (Some found) agree tried narrowed wholly is inside =
    let within = is.0 in
    settled_earlier problem p number is.2.0 old old new key found agree tried narrowed wholly is.2.2 is.2.1
    (record { held = within.held; inside = (within.inside, is.1); within = within.within }) inside

-- ---- the loop that asks for earlier and earlier numbers

-- the number that a roster has there
pub number_of : (problem : Problem) (p : ℕ) (places read : List ℕ) → IsLegalRoster problem places
    → p < length problem.pairings → read ≡ places → Has (get_or read p 0) p places
number_of problem p places read legal inside same =
    let long : p < length places = omega (arith, legal.covers) in
    slice_get-get_or places p 0 long ∙ ap (λ xs. Some (get_or xs p 0)) (sym same)

pub number_most : (problem : Problem) (p : ℕ) (places read : List ℕ) → IsLegalRoster problem places
    → p < length problem.pairings → read ≡ places → get_or read p 0 ≤ open_number problem
number_most problem p places read legal inside same =
    let long : p < length places = omega (arith, legal.covers) in
    subst (λ xs. get_or xs p 0 ≤ open_number problem) (sym same)
    (All-get_or (λ x. x ≤ length problem.persons) places p 0 long legal.numbers)

-- one more was found
pub found_next : (problem : Problem) (p number : ℕ) (old now : Region) (key earlier : Key) (first : Option Key)
    (most : ℤ) (read : List ℕ) → now ≡ old → most ≡ key.cost → p < length problem.pairings
    → read ≡ earlier.places → IsFoundAt problem p number old key first
    → IsWithinCost problem (λ places. IsIn problem now places × HasEarlier number p places) most earlier
    → IsFoundAt problem p (get_or read p 0) old key (Some earlier) × (get_or read p 0 < number)
found_next problem p number old now key earlier first most read same cost inside is before found =
    let here : IsWithinCost problem (λ places. IsIn problem old places × HasEarlier number p places) most earlier =
    subst (λ region. IsWithinCost problem (λ places. IsIn problem region places × HasEarlier number p places) most earlier) same found in
    let cheap : IsWithinCost problem (λ places. IsIn problem old places × HasEarlier number p places) key.cost earlier =
    subst (λ z. IsWithinCost problem (λ places. IsIn problem old places × HasEarlier number p places) z earlier) cost here in
    found_earlier problem p number (get_or read p 0) old key earlier first before cheap
    (number_of problem p earlier.places read cheap.held.legal inside is)

-- nothing more was found
pub settled_by_none : (problem : Problem) (p number : ℕ) (old now new : Region) (key : Key) (first : Option Key)
    (most : ℤ) → now ≡ old → most ≡ key.cost → AgreeBefore problem p old key
    → CostsMore problem (λ places. IsIn problem now places × HasEarlier number p places) most
    → IsNarrowed problem (Has number p) now new → IsWhollyIn problem new (Has number p)
    → IsFoundAt problem p number old key first → p < length problem.pairings
    → IsSettledAt problem p old key new (unwrap_or first key)
settled_by_none problem p number old now new key first most same cost agree none narrowed wholly is inside =
    let here : CostsMore problem (λ places. IsIn problem old places × HasEarlier number p places) most =
    subst (λ region. CostsMore problem (λ places. IsIn problem region places × HasEarlier number p places) most) same none in
    let cheap : CostsMore problem (λ places. IsIn problem old places × HasEarlier number p places) key.cost =
    subst (λ z. CostsMore problem (λ places. IsIn problem old places × HasEarlier number p places) z) cost here in
    settled_found problem p number old new key first agree
    (tried_all problem p number old key agree.is_region cheap)
    (subst (λ region. IsNarrowed problem (Has number p) region new) same narrowed) wholly is inside

-- or nothing is earlier
pub settled_at_first : (problem : Problem) (p number : ℕ) (old now new : Region) (key : Key) (first : Option Key)
    → now ≡ old → number ≡ 0 → AgreeBefore problem p old key
    → IsNarrowed problem (Has number p) now new → IsWhollyIn problem new (Has number p)
    → IsFoundAt problem p number old key first → p < length problem.pairings
    → IsSettledAt problem p old key new (unwrap_or first key)
settled_at_first problem p number old now new key first same zero agree narrowed wholly is inside =
    settled_found problem p number old new key first agree
    (subst (λ n. AreTried problem p n old old key) (sym zero) (tried_none problem p old key agree))
    (subst (λ region. IsNarrowed problem (Has number p) region new) same narrowed) wholly is inside

-- what the first person has
pub found_first : (problem : Problem) (p number k : ℕ) (region : Region) (key earlier : Key) (most : ℤ)
    → most ≡ key.cost → Has number p key.places → k < number
    → IsWithinCost problem (λ places. IsIn problem region places × Has k p places) most earlier
    → IsFoundAt problem p k region key (Some earlier)
found_first problem p number k region key earlier most cost has less found =
    let cheap : IsWithinCost problem (λ places. IsIn problem region places × Has k p places) key.cost earlier =
    subst (λ z. IsWithinCost problem (λ places. IsIn problem region places × Has k p places) z earlier) cost found in (
      record { held = cheap.held; inside = cheap.inside.0; within = cheap.within },
      cheap.inside.1,
      (number, less, has),
    )
