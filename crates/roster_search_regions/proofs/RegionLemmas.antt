-- What makes a region smaller.
use Rattle.std.proofs.Common.{◌≡◌, ◌≢◌, ℕ, ◌<◌, ◌≤◌, Bool, true, false, not, ◌||◌, eqb, eq-eqb, List, [], length, set, Option, Some, None, refl, sym, ap, ◌∙◌, subst, inl, inr, arith}
use Rattle.std.specs.Prelude.{All, Contains, filter, slice_get}
use Rattle.std.specs.List.{list_all}
use Rattle.std.specs.Option.{option_map_or}
use Rattle.std.proofs.lemmas.Bool.{both_ways, cases_eq, cases_lt, eqb-true}
use Rattle.std.proofs.lemmas.List.{get_or-set_same, get_or-set_other, length-set, set-get_or}
use Rattle.std.proofs.lemmas.List.Elements.{All-filter}
use Rattle.std.proofs.lemmas.List.Sums.{AllPass-from_list_all, list_all-from_AllPass, sum_by-set}
use Rattle.std.proofs.lemmas.Option.{get_or_from_slice_get, slice_get-get_or, slice_get_past, slice_get_within}
use Rattle.roster_model.specs.Places.{open_number, set_of}
use Rattle.roster_model.specs.Problem.{Problem}
use Rattle.roster_model.specs.Rules.{is_among}
use Rattle.roster_model.proofs.PlacesLemmas.{is_among-set_of}
use Rattle.roster_model.proofs.SetLemmas.{All-from_is_among, All-is_among}
use Rattle.roster_search_regions.specs.Regions.{AllowedLine, lines_of, open_in, sets_of, size_of, with_lines, Has, HasNone, HasNot, HasOpenAtLeast, HasOpenAtMost, IsAllowedLine, IsIn, IsNarrowed, IsRegion, Region}
use Rattle.roster_search_regions.specs.Trees.{lacks}
use Rattle.roster_search_regions.proofs.Undecided.{undecided_flown, undecided_left_open}
use Rattle.roster_search_regions.proofs.ListLemmas.{Contains-filter, Contains-from_filter, Contains-from_map, Contains-map, false_from_not, length-filter-le, length-filter-lt, passes-from_filter}

-- ---- who has a pairing

pub among_from_Has : (k p : ℕ) (places : List ℕ) → Has k p places → is_among (set_of k places) p ≡ true
among_from_Has k p places has =
    is_among-set_of k p places ∙ ap (λ o. option_map_or (λ x. eqb x k) o false) has ∙ eq-eqb k k refl

pub Has-from_among : (k p : ℕ) (places : List ℕ) → is_among (set_of k places) p ≡ true → Has k p places
Has-from_among k p places among = go (slice_get places p) (sym (is_among-set_of k p places) ∙ among)
  where
    go : (o : Option ℕ) → option_map_or (λ x. eqb x k) o false ≡ true → o ≡ Some k
    go None h = absurd (both_ways false refl h)
    go (Some x) h = ap Some (eqb-true x k h)

pub among_from_HasNot : (k p : ℕ) (places : List ℕ) → HasNot k p places → is_among (set_of k places) p ≡ false
among_from_HasNot k p places hasnot = go (is_among (set_of k places) p) refl
  where
    go : (b : Bool) → is_among (set_of k places) p ≡ b → is_among (set_of k places) p ≡ false
    go true e = absurd (hasnot (Has-from_among k p places e))
    go false e = e

pub HasNot-from_among : (k p : ℕ) (places : List ℕ) → is_among (set_of k places) p ≡ false → HasNot k p places
HasNot-from_among k p places among has =
    both_ways (is_among (set_of k places) p) among (among_from_Has k p places has)

pub lacks-from_HasNone : (k : ℕ) (taken places : List ℕ) → HasNone k taken places
    → lacks taken (set_of k places) ≡ true
lacks-from_HasNone k taken places none =
    list_all-from_AllPass (λ p. not (is_among taken p)) (set_of k places)
    (All-from_is_among (λ p. not (is_among taken p) ≡ true) (set_of k places) (λ p here. go p here (is_among taken p) refl))
  where
    go : (p : ℕ) → is_among (set_of k places) p ≡ true → (b : Bool) → is_among taken p ≡ b
        → not (is_among taken p) ≡ true
    go p here true e = absurd (none p e (Has-from_among k p places here))
    go p here false e = ap not e

pub HasNone-from_lacks : (k : ℕ) (taken places : List ℕ) → lacks taken (set_of k places) ≡ true
    → HasNone k taken places
HasNone-from_lacks k taken places all p among has =
    let each = AllPass-from_list_all (λ p. not (is_among taken p)) (set_of k places) all in
    let none = All-is_among (λ p. not (is_among taken p) ≡ true) (set_of k places) p each (among_from_Has k p places has) in
    both_ways (is_among taken p) (false_from_not (is_among taken p) none) among

-- ---- the lines of one person

pub lines_of_get : (region : Region) (k : ℕ) → k < length region.choices
    → slice_get region.choices k ≡ Some (lines_of region k)
lines_of_get region k inside = slice_get-get_or region.choices k [] inside

pub lines_of_is : (region : Region) (k : ℕ) (lines : List AllowedLine)
    → slice_get region.choices k ≡ Some lines → lines_of region k ≡ lines
lines_of_is region k lines at = get_or_from_slice_get region.choices k lines [] at

with_lines_same : (region : Region) (k : ℕ) (lines new : List AllowedLine)
    → slice_get (set region.choices k new) k ≡ Some lines → new ≡ lines
with_lines_same region k lines new at =
    let inside = slice_get_within (set region.choices k new) k lines at in
    sym (get_or-set_same region.choices k new [] (omega (arith, inside, length-set region.choices k new)))
    ∙ get_or_from_slice_get (set region.choices k new) k lines [] at

-- a filter of them that takes none away changes nothing
pub with_lines_kept : (region : Region) (k : ℕ) (test : AllowedLine → Bool)
    → filter test (lines_of region k) ≡ lines_of region k
    → region ≡ with_lines region k (filter test (lines_of region k))
with_lines_kept region k test all =
    ap (λ choices. record region { choices = choices })
    (sym (ap (set region.choices k) all ∙ set-get_or region.choices k []))

slice_get-set_other : {X : Type 0} (xs : List X) (i j : ℕ) (x : X) → (j ≡ i → ⊥)
    → slice_get (set xs i x) j ≡ slice_get xs j
slice_get-set_other xs i j x other =
    elim (cases_lt j (length xs)) [
      | inl inside ↦
          slice_get-get_or (set xs i x) j x (omega (arith, length-set xs i x))
          ∙ ap Some (get_or-set_other xs i j x x other)
          ∙ sym (slice_get-get_or xs j x inside)
      | inr past ↦ slice_get_past (set xs i x) j (omega (arith, length-set xs i x)) ∙ sym (slice_get_past xs j past)
    ]

with_lines_other : (region : Region) (k j : ℕ) (new : List AllowedLine) → (j ≡ k → ⊥)
    → slice_get (set region.choices k new) j ≡ slice_get region.choices j
with_lines_other region k j new other = slice_get-set_other region.choices k j new other

-- a roster's set is one of those in a person's lines
pub chosen_line : (problem : Problem) (region : Region) (places : List ℕ) (k : ℕ) → IsIn problem region places
    → k < length region.choices
    → (line : AllowedLine) × Contains (lines_of region k) line × (line.set ≡ set_of k places)
chosen_line problem region places k is inside =
    Contains-from_map (λ (line : AllowedLine). line.set) (lines_of region k) (set_of k places)
    (is.chosen k (lines_of region k) (lines_of_get region k inside))

-- A person's lines that pass a test are kept. They include those of the rosters that meet a condition.
pub narrowed_by_filter : (problem : Problem) (Kept : List ℕ → Type 0) (region : Region) (k : ℕ) (test : AllowedLine → Bool) → IsRegion problem region → k < length region.choices → ((places : List ℕ) (line : AllowedLine) → IsIn problem region places → Kept places → Contains (lines_of region k) line → line.set ≡ set_of k places → test line ≡ true) → IsNarrowed problem Kept region (with_lines region k (filter test (lines_of region k)))
narrowed_by_filter problem Kept region k test is inside passes =
    let old : List AllowedLine = lines_of region k in
    let new : List AllowedLine = filter test old in
    let inside' : (places : List ℕ) → IsIn problem (with_lines region k new) places → IsIn problem region places =
    λ places there. record {
      legal = there.legal;
      chosen = λ j lines at. elim (cases_eq j k) [
        | inl here ↦
            let same : old ≡ lines =
            lines_of_is region k lines (ap (slice_get region.choices) (sym here) ∙ at) in
            let now = there.chosen k new (slice_get-get_or (set region.choices k new) k new (omega (arith, length-set region.choices k new)) ∙ ap Some (get_or-set_same region.choices k new new inside)) in
            let found = Contains-from_map (λ (line : AllowedLine). line.set) new (set_of k places) now in
            subst (λ i. Contains (sets_of lines) (set_of i places)) (sym here)
            (subst (λ ls. Contains (sets_of ls) (set_of k places)) same
            (subst (Contains (sets_of old)) found.2 (Contains-map (λ (line : AllowedLine). line.set) old found.0 (Contains-from_filter test old found.0 found.1))))
        | inr other ↦ there.chosen j lines (with_lines_other region k j new other ∙ at)
      ];
      left_open = there.left_open;
      flown = there.flown;
      least_open = there.least_open;
      most_open = there.most_open;
    } in
    record {
      region = record {
        covers = length-set region.choices k new ∙ is.covers;
        each = λ j lines at. elim (cases_eq j k) [
          | inl here ↦
              let same =
              with_lines_same region k lines new
              (subst (λ i. slice_get (set region.choices k new) i ≡ Some lines) here at) in
              subst (All (IsAllowedLine problem region.scale j)) same
              (All-filter test (IsAllowedLine problem region.scale j) old (is.each j old (ap (slice_get region.choices) here ∙ lines_of_get region k inside)))
          | inr other ↦ is.each j lines (sym (with_lines_other region k j new other) ∙ at)
        ];
        idle = is.idle;
        units = λ places there. is.units places (inside' places there);
      };
      inside = inside';
      kept = λ places there keeps. record {
        legal = there.legal;
        chosen = λ j lines at. elim (cases_eq j k) [
          | inl here ↦
              let same =
              with_lines_same region k lines new
              (subst (λ i. slice_get (set region.choices k new) i ≡ Some lines) here at) in
              let found = chosen_line problem region places k there inside in
              let pass = passes places found.0 there keeps found.1 found.2 in
              subst (λ i. Contains (sets_of lines) (set_of i places)) (sym here)
              (subst (λ ls. Contains (sets_of ls) (set_of k places)) same
              (subst (Contains (sets_of new)) found.2 (Contains-map (λ (line : AllowedLine). line.set) new found.0 (Contains-filter test old found.0 found.1 pass))))
          | inr other ↦ there.chosen j lines (sym (with_lines_other region k j new other) ∙ at)
        ];
        left_open = there.left_open;
        flown = there.flown;
        least_open = there.least_open;
        most_open = there.most_open;
      };
      size = omega (arith, sum_by-set length region.choices k new [] inside, length-filter-le test old);
      scale = refl;
    }

-- and each roster that is left has one of them
pub passes_after : (problem : Problem) (region : Region) (k : ℕ) (test : AllowedLine → Bool) (places : List ℕ)
    → k < length region.choices → IsIn problem (with_lines region k (filter test (lines_of region k))) places
    → (line : AllowedLine) × (test line ≡ true) × (line.set ≡ set_of k places)
passes_after problem region k test places inside there =
    let new : List AllowedLine = filter test (lines_of region k) in
    let here =
    slice_get-get_or (set region.choices k new) k new (omega (arith, length-set region.choices k new))
    ∙ ap Some (get_or-set_same region.choices k new new inside) in
    let found =
    Contains-from_map (λ (line : AllowedLine). line.set) new (set_of k places)
    (there.chosen k new here) in
    (found.0, passes-from_filter test (lines_of region k) found.0 found.1, found.2)

-- fewer lines are left where one fails
pub fewer_by_filter : (region : Region) (k : ℕ) (test : AllowedLine → Bool) → k < length region.choices
    → list_all test (lines_of region k) ≡ false
    → size_of (with_lines region k (filter test (lines_of region k))) < size_of region
fewer_by_filter region k test inside fails =
    omega (arith, sum_by-set length region.choices k (filter test (lines_of region k)) [] inside, length-filter-lt test (lines_of region k) fails)

-- ---- pairings that must be open, and those that must not

-- what is so of all that are in a set is so of those in it with one more
one_more : (P : ℕ → Type 0) (set next : List ℕ) (p : ℕ)
    → ((q : ℕ) → is_among next q ≡ (is_among set q || eqb p q)) → P p
    → ((q : ℕ) → is_among set q ≡ true → P q) → (q : ℕ) → is_among next q ≡ true → P q
one_more P set next p members here rest q among = go (is_among set q) refl
  where
    go : (b : Bool) → is_among set q ≡ b → P q
    go true e = rest q e
    go false e =
        let same : eqb p q ≡ true = ap (λ b. b || eqb p q) (sym e) ∙ sym (members q) ∙ among in
        subst P (eqb-true p q same) here

pub among_last : (set next : List ℕ) (p : ℕ) → ((q : ℕ) → is_among next q ≡ (is_among set q || eqb p q))
    → is_among next p ≡ true
among_last set next p members =
    members p ∙ ap (λ b. is_among set p || b) (eq-eqb p p refl) ∙ or_true (is_among set p)
  where
    or_true : (b : Bool) → (b || true) ≡ true
    or_true true = refl
    or_true false = refl

inside_left_open : (problem : Problem) (region : Region) (p : ℕ) (next : List ℕ)
    → ((q : ℕ) → is_among next q ≡ (is_among region.left_open q || eqb p q)) → (places : List ℕ)
    → IsIn problem (record region { left_open = next }) places → IsIn problem region places
inside_left_open problem region p next members places there = record {
  legal = there.legal;
  chosen = there.chosen;
  left_open = λ q among. there.left_open q (members q ∙ ap (λ b. b || eqb p q) among);
  flown = there.flown;
  least_open = there.least_open;
  most_open = there.most_open;
}

inside_flown : (problem : Problem) (region : Region) (p : ℕ) (next : List ℕ)
    → ((q : ℕ) → is_among next q ≡ (is_among region.flown q || eqb p q)) → (places : List ℕ)
    → IsIn problem (record region { flown = next }) places → IsIn problem region places
inside_flown problem region p next members places there = record {
  legal = there.legal;
  chosen = there.chosen;
  left_open = there.left_open;
  flown = λ q among. there.flown q (members q ∙ ap (λ b. b || eqb p q) among);
  least_open = there.least_open;
  most_open = there.most_open;
}

pub narrowed_left_open : (problem : Problem) (region : Region) (p : ℕ) (next : List ℕ)
    → IsRegion problem region → ((q : ℕ) → is_among next q ≡ (is_among region.left_open q || eqb p q))
    → IsNarrowed problem (Has (open_number problem) p) region (record region { left_open = next })
narrowed_left_open problem region p next is members = record {
  region = record {
    covers = is.covers;
    each = is.each;
    idle = is.idle;
    units = λ places there. is.units places (inside_left_open problem region p next members places there);
  };
  inside = inside_left_open problem region p next members;
  kept = λ places there has. record {
    legal = there.legal;
    chosen = there.chosen;
    left_open = λ q among. one_more (λ q. slice_get places q ≡ Some (open_number problem)) region.left_open next p members has there.left_open q among;
    flown = there.flown;
    least_open = there.least_open;
    most_open = there.most_open;
  };
  size = omega (arith, undecided_left_open region.left_open region.flown next p members);
  scale = refl;
}

pub narrowed_flown : (problem : Problem) (region : Region) (p : ℕ) (next : List ℕ) → IsRegion problem region
    → ((q : ℕ) → is_among next q ≡ (is_among region.flown q || eqb p q))
    → IsNarrowed problem (HasNot (open_number problem) p) region (record region { flown = next })
narrowed_flown problem region p next is members = record {
  region = record {
    covers = is.covers;
    each = is.each;
    idle = is.idle;
    units = λ places there. is.units places (inside_flown problem region p next members places there);
  };
  inside = inside_flown problem region p next members;
  kept = λ places there hasnot. record {
    legal = there.legal;
    chosen = there.chosen;
    left_open = there.left_open;
    flown = λ q among. one_more (λ q. slice_get places q ≢ Some (open_number problem)) region.flown next p members hasnot there.flown q among;
    least_open = there.least_open;
    most_open = there.most_open;
  };
  size = omega (arith, undecided_flown region.left_open region.flown next p members);
  scale = refl;
}

-- ---- how many pairings are open

inside_most_open : (problem : Problem) (region : Region) (count : ℕ) → count ≤ region.most_open
    → (places : List ℕ) → IsIn problem (record region { most_open = count }) places → IsIn problem region places
inside_most_open problem region count less places there = record {
  legal = there.legal;
  chosen = there.chosen;
  left_open = there.left_open;
  flown = there.flown;
  least_open = there.least_open;
  most_open = let few : open_in problem places ≤ count = there.most_open in omega arith;
}

inside_least_open : (problem : Problem) (region : Region) (count : ℕ) → region.least_open ≤ count
    → (places : List ℕ) → IsIn problem (record region { least_open = count }) places → IsIn problem region places
inside_least_open problem region count more places there = record {
  legal = there.legal;
  chosen = there.chosen;
  left_open = there.left_open;
  flown = there.flown;
  least_open = let many : count ≤ open_in problem places = there.least_open in omega arith;
  most_open = there.most_open;
}

pub narrowed_most_open : (problem : Problem) (region : Region) (count : ℕ) → IsRegion problem region
    → count ≤ region.most_open
    → IsNarrowed problem (HasOpenAtMost problem count) region (record region { most_open = count })
narrowed_most_open problem region count is less = record {
  region = record {
    covers = is.covers;
    each = is.each;
    idle = is.idle;
    units = λ places there. is.units places (inside_most_open problem region count less places there);
  };
  inside = inside_most_open problem region count less;
  kept = λ places there few. record {
    legal = there.legal;
    chosen = there.chosen;
    left_open = there.left_open;
    flown = there.flown;
    least_open = there.least_open;
    most_open = few;
  };
  size = omega (arith);
  scale = refl;
}

pub narrowed_least_open : (problem : Problem) (region : Region) (count : ℕ) → IsRegion problem region
    → region.least_open ≤ count
    → IsNarrowed problem (HasOpenAtLeast problem count) region (record region { least_open = count })
narrowed_least_open problem region count is more = record {
  region = record {
    covers = is.covers;
    each = is.each;
    idle = is.idle;
    units = λ places there. is.units places (inside_least_open problem region count more places there);
  };
  inside = inside_least_open problem region count more;
  kept = λ places there many. record {
    legal = there.legal;
    chosen = there.chosen;
    left_open = there.left_open;
    flown = there.flown;
    least_open = many;
    most_open = there.most_open;
  };
  size = omega (arith);
  scale = refl;
}
