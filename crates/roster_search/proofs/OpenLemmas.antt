-- Open nodes of a search. One law says what a list of open regions has (`AreOpenOf`): of each roster of the
-- question that costs at most so much, one that costs no more is in one of them, and none from elsewhere. A visit
-- keeps it: a roster is found, or nothing there is cheap and the region goes, or its two parts take its place.
use Rattle.std.proofs.Common.{◌≡◌, ℕ, ◌+◌, ◌*◌, ◌^◌, ◌<◌, ◌≤◌, ◌⊎◌, inl, inr, All, IfSome, List, [], ◌∷◌, ◌++◌, Option, Some, None, ℤ, pos, ◌-ℤ◌, ◌≤ℤ◌, ap, sym, ◌∙◌, subst, arith}
use Rattle.std.proofs.lemmas.Int.{ints}
use Rattle.std.proofs.lemmas.List.Elements.{All-push}
use Rattle.std.proofs.Math.Nat.{one-le-pow, pow-le-pow_right, pow-succ'}
use Rattle.roster_model.specs.Costs.{cost_of}
use Rattle.roster_model.specs.Places.{open_number}
use Rattle.roster_model.specs.Problem.{Problem}
use Rattle.roster_model.specs.Rosters.{Key}
use Rattle.roster_model.specs.Settled.{CostsMore, IsWithinCost}
use Rattle.std.proofs.lemmas.Bool.{cases_lt}
use Rattle.roster_search_regions.specs.Regions.{open_in, size_of, IsIn, IsNarrowed, IsRegion, Region}
use Rattle.roster_search_fixing.specs.Bounds.{CostsAtMost}
use Rattle.roster_search_regions.specs.declared.split.Split.{Split}
use Rattle.roster_search_regions.specs.declared.split.Split.TheVariants.{Holder, Flown, Count}
use Rattle.roster_search.specs.Branches.{IsMatched, IsOnFirst, IsOnOther, IsOtherSide}
use Rattle.roster_search.specs.Open.{limit_of, weight_of, AreOpenOf, ArePartsOf, IsExplored, IsInSome, IsOver, IsParted, IsVisited}
use Rattle.roster_search.specs.declared.visiting.Visited.{Visited}
use Rattle.roster_search.specs.declared.visiting.Visited.TheVariants.{Nothing, Found, Parted}
use Rattle.roster_search_fixing.proofs.Narrowing.{narrowed_by_more, narrowed_then}
use Rattle.roster_search_least.proofs.FindLemmas.{cost_cases, has_cases, more_than_part, within_part}
use Rattle.roster_search_least.specs.Least.{IsCheapestWithin}

-- ---- which region the places are in

pub some_left : (problem : Problem) (xs ys : List Region) (places : List ℕ) → IsInSome problem xs places
    → IsInSome problem (xs ++ ys) places
some_left problem [] ys places is = absurd is
some_left problem (x ∷ xs) ys places (inl here) = inl here
some_left problem (x ∷ xs) ys places (inr there) = inr (some_left problem xs ys places there)

pub some_right : (problem : Problem) (xs ys : List Region) (places : List ℕ) → IsInSome problem ys places
    → IsInSome problem (xs ++ ys) places
some_right problem [] ys places is = is
some_right problem (x ∷ xs) ys places is = inr (some_right problem xs ys places is)

pub some_either : (problem : Problem) (xs ys : List Region) (places : List ℕ)
    → IsInSome problem (xs ++ ys) places → IsInSome problem xs places ⊎ IsInSome problem ys places
some_either problem [] ys places is = inr is
some_either problem (x ∷ xs) ys places (inl here) = inl (inl here)
some_either problem (x ∷ xs) ys places (inr there) =
    elim (some_either problem xs ys places there) [
      | inl mine ↦ inl (inr mine)
      | inr theirs ↦ inr theirs
    ]

-- a list with one region more at its end
pub some_before : (problem : Problem) (xs : List Region) (x : Region) (places : List ℕ)
    → IsInSome problem xs places → IsInSome problem (xs ++ x ∷ []) places
some_before problem xs x places is = some_left problem xs (x ∷ []) places is

pub some_last : (problem : Problem) (xs : List Region) (x : Region) (places : List ℕ) → IsIn problem x places
    → IsInSome problem (xs ++ x ∷ []) places
some_last problem xs x places is = some_right problem xs (x ∷ []) places (inl is)

pub some_cases : (problem : Problem) (xs : List Region) (x : Region) (places : List ℕ)
    → IsInSome problem (xs ++ x ∷ []) places → IsInSome problem xs places ⊎ IsIn problem x places
some_cases problem xs x places is =
    elim (some_either problem xs (x ∷ []) places is) [
      | inl before ↦ inl before
      | inr last ↦ inr (elim last [ inl here ↦ here | inr none ↦ absurd none ])
    ]

-- ---- rosters that cost no more

-- a roster costs no more than itself
pub matched_itself : (problem : Problem) (Rosters : List ℕ → Type 0) (places : List ℕ) → Rosters places
    → IsMatched problem Rosters places
matched_itself problem Rosters places is = record { roster = places; inside = is; cost = omega (arith, ints) }

-- it is one of more rosters
pub matched_in : (problem : Problem) (Rosters Wider : List ℕ → Type 0) (places : List ℕ)
    → ((roster : List ℕ) → Rosters roster → Wider roster) → IsMatched problem Rosters places
    → IsMatched problem Wider places
matched_in problem Rosters Wider places wider matched = record {
  roster = matched.roster;
  inside = wider matched.roster matched.inside;
  cost = matched.cost;
}

-- and if each of those is matched in turn
pub matched_then : (problem : Problem) (Rosters Others : List ℕ → Type 0) (most : ℤ) (places : List ℕ)
    → CostsAtMost problem most places → IsMatched problem Rosters places
    → ((roster : List ℕ) → Rosters roster → CostsAtMost problem most roster → IsMatched problem Others roster)
    → IsMatched problem Others places
matched_then problem Rosters Others most places cheap matched next =
    let cost = matched.cost in
    let then = next matched.roster matched.inside (omega (arith, ints)) in
    let more = then.cost in
    record { roster = then.roster; inside = then.inside; cost = omega (arith, ints) }

-- ---- what is left to search

-- what is left of what is left
pub open_then : (problem : Problem) (Rosters : List ℕ → Type 0) (most : ℤ) (mid new : List Region)
    → AreOpenOf problem Rosters most mid → AreOpenOf problem (IsInSome problem mid) most new
    → AreOpenOf problem Rosters most new
open_then problem Rosters most mid new first then = record {
  are = then.are;
  inside = λ places is. first.inside places (then.inside places is);
  all = λ places is cheap. matched_then problem (IsInSome problem mid) (IsInSome problem new) most places cheap (first.all places is cheap) then.all;
}

-- what costs less is left too
pub open_below : (problem : Problem) (Rosters : List ℕ → Type 0) (most lower : ℤ) (left : List Region)
    → lower ≤ℤ most → AreOpenOf problem Rosters most left → AreOpenOf problem Rosters lower left
open_below problem Rosters most lower left below are = record {
  are = are.are;
  inside = are.inside;
  all = λ places is cheap. are.all places is (omega (arith, ints));
}

-- if nothing is left, each costs more
pub none_left : (problem : Problem) (Rosters : List ℕ → Type 0) (most : ℤ) → AreOpenOf problem Rosters most []
    → CostsMore problem Rosters most
none_left problem Rosters most are =
    λ others legal inside. elim (cost_cases most (cost_of problem others)) [
      | inl cheap ↦ let left = are.all others inside cheap in absurd left.inside
      | inr more ↦ more
    ]

-- ---- the last region is visited

-- what is found there is found in the list
pub found_in_last : (problem : Problem) (most : ℤ) (old front : List Region) (node : Region) (key : Key)
    → old ≡ front ++ node ∷ [] → IsWithinCost problem (IsIn problem node) most key
    → IsWithinCost problem (IsInSome problem old) most key
found_in_last problem most old front node key same found = record {
  held = found.held;
  inside =
      subst (λ xs. IsInSome problem xs key.places) (sym same)
      (some_last problem front node key.places found.inside);
  within = found.within;
}

-- if nothing is there, the others are left
pub none_in_last : (problem : Problem) (most : ℤ) (old front : List Region) (node : Region)
    → old ≡ front ++ node ∷ [] → All (IsRegion problem) front → CostsMore problem (IsIn problem node) most
    → AreOpenOf problem (IsInSome problem old) most front
none_in_last problem most old front node same are none = record {
  are = are;
  inside = λ places is. subst (λ xs. IsInSome problem xs places) (sym same) (some_before problem front node places is);
  all = λ places is cheap. elim (some_cases problem front node places (subst (λ xs. IsInSome problem xs places) same is)) [
    | inl before ↦ matched_itself problem (IsInSome problem front) places before
    | inr here ↦ let more = none places here.legal here in absurd (omega (arith, ints))
  ];
}

-- else its parts are left
pub parts_of_last : (problem : Problem) (most : ℤ) (old front new : List Region) (node having others : Region)
    → old ≡ front ++ node ∷ [] → new ≡ (front ++ others ∷ []) ++ having ∷ [] → All (IsRegion problem) front
    → IsParted problem node most having others → AreOpenOf problem (IsInSome problem old) most new
parts_of_last problem most old front new node having others same more are parted =
    let two = front ++ others ∷ [] in
    record {
      are = subst (All (IsRegion problem)) (sym more) (All-push (IsRegion problem) two having (All-push (IsRegion problem) front others are parted.is_others) parted.is_having);
      inside = λ places is. subst (λ xs. IsInSome problem xs places) (sym same) (elim (some_cases problem two having places (subst (λ xs. IsInSome problem xs places) more is)) [
        | inl before ↦ elim (some_cases problem front others places before) [
          | inl first ↦ some_before problem front node places first
          | inr rest ↦ some_last problem front node places (parted.inside places (inr rest))
        ]
        | inr has ↦ some_last problem front node places (parted.inside places (inl has))
      ]);
      all = λ places is cheap. subst (λ xs. IsMatched problem (IsInSome problem xs) places) (sym more) (elim (some_cases problem front node places (subst (λ xs. IsInSome problem xs places) same is)) [
        | inl before ↦ matched_itself problem (IsInSome problem (two ++ having ∷ [])) places (some_before problem two having places (some_before problem front others places before))
        | inr here ↦ matched_in problem (λ roster. IsIn problem having roster ⊎ IsIn problem others roster) (IsInSome problem (two ++ having ∷ [])) places (λ roster is. elim is [
          | inl has ↦ some_last problem two having roster has
          | inr rest ↦ some_before problem two having roster (some_last problem front others roster rest)
        ]) (parted.all places here cheap)
      ]);
    }

-- else what is left of it
pub rest_of_last : (problem : Problem) (most : ℤ) (old front new : List Region) (node left : Region)
    → old ≡ front ++ node ∷ [] → new ≡ front ++ left ∷ [] → All (IsRegion problem) front
    → IsNarrowed problem (CostsAtMost problem most) node left
    → AreOpenOf problem (IsInSome problem old) most new
rest_of_last problem most old front new node left same more are narrowed = record {
  are = subst (All (IsRegion problem)) (sym more) (All-push (IsRegion problem) front left are narrowed.region);
  inside = λ places is. subst (λ xs. IsInSome problem xs places) (sym same) (elim (some_cases problem front left places (subst (λ xs. IsInSome problem xs places) more is)) [
    | inl before ↦ some_before problem front node places before
    | inr here ↦ some_last problem front node places (narrowed.inside places here)
  ]);
  all = λ places is cheap. matched_itself problem (IsInSome problem new) places (subst (λ xs. IsInSome problem xs places) (sym more) (elim (some_cases problem front node places (subst (λ xs. IsInSome problem xs places) same is)) [
    | inl before ↦ some_before problem front left places before
    | inr here ↦ some_last problem front left places (narrowed.kept places here cheap)
  ]));
}

-- ---- what comes of a visit of the last region

pub last_has_none : (problem : Problem) (most : ℤ) (old front : List Region) (node : Region)
    → old ≡ front ++ node ∷ [] → All (IsRegion problem) front → CostsMore problem (IsIn problem node) most
    → IsExplored problem (IsInSome problem old) (IsInSome problem old) most None front
last_has_none problem most old front node same are none = record {
  found = tt;
  still = none_in_last problem most old front node same are none;
}

pub last_has_one : (problem : Problem) (most : ℤ) (old front new : List Region) (node left : Region) (key : Key)
    → old ≡ front ++ node ∷ [] → new ≡ front ++ left ∷ [] → All (IsRegion problem) front
    → IsWithinCost problem (IsIn problem node) most key
    → IsNarrowed problem (CostsAtMost problem most) node left
    → IsExplored problem (IsInSome problem old) (IsInSome problem old) most (Some key) new
last_has_one problem most old front new node left key same more are found narrowed =
    let within = found.within in
    record {
      found = found_in_last problem most old front node key same found;
      still = open_below problem (IsInSome problem old) most (key.cost -ℤ pos 1) new (omega (arith, ints)) (rest_of_last problem most old front new node left same more are narrowed);
    }

pub last_is_parted : (problem : Problem) (most : ℤ) (old front new : List Region) (node having others : Region)
    → old ≡ front ++ node ∷ [] → new ≡ (front ++ others ∷ []) ++ having ∷ [] → All (IsRegion problem) front
    → IsParted problem node most having others
    → IsExplored problem (IsInSome problem old) (IsInSome problem old) most None new
last_is_parted problem most old front new node having others same more are parted = record {
  found = tt;
  still = parts_of_last problem most old front new node having others same more are parted;
}

-- ---- one visit after another

-- what is left of parts are parts
pub parts_left : (problem : Problem) (whole : Region) (nodes left : List Region) (most : ℤ)
    → ArePartsOf problem whole nodes → AreOpenOf problem (IsInSome problem nodes) most left
    → ArePartsOf problem whole left
parts_left problem whole nodes left most parts still = record {
  is_region = parts.is_region;
  are = still.are;
  inside = λ places is. parts.inside places (still.inside places is);
}

-- a roster of the whole is known, and all is left
pub known_explored : (problem : Problem) (Whole : List ℕ → Type 0) (most : ℤ) (nodes : List Region) (key : Key)
    → All (IsRegion problem) nodes → IsWithinCost problem Whole most key
    → IsExplored problem Whole (IsInSome problem nodes) most (Some key) nodes
known_explored problem Whole most nodes key are within = record {
  found = within;
  still = record {
    are = are;
    inside = λ places is. is;
    all = λ places is cheap. matched_itself problem (IsInSome problem nodes) places is;
  };
}

-- at first nothing is found, and all is left
pub nothing_explored : (problem : Problem) (most : ℤ) (nodes : List Region) → All (IsRegion problem) nodes
    → IsExplored problem (IsInSome problem nodes) (IsInSome problem nodes) most None nodes
nothing_explored problem most nodes are = record {
  found = tt;
  still = record {
    are = are;
    inside = λ places is. is;
    all = λ places is cheap. matched_itself problem (IsInSome problem nodes) places is;
  };
}

-- what is left may cost no more than any of the search
pub limit_within : (problem : Problem) (Whole : List ℕ → Type 0) (most : ℤ) (best : Option Key)
    → IfSome best (IsWithinCost problem Whole most) → limit_of most best ≤ℤ most
limit_within problem Whole most None found = omega (arith, ints)
limit_within problem Whole most (Some key) found = let within = found.within in omega (arith, ints)

-- what is found in some rosters is found in more
pub explored_in : (problem : Problem) (Narrow Whole Rosters : List ℕ → Type 0) (most : ℤ) (best : Option Key)
    (left : List Region) → ((places : List ℕ) → Narrow places → Whole places)
    → IsExplored problem Narrow Rosters most best left → IsExplored problem Whole Rosters most best left
explored_in problem Narrow Whole Rosters most None left wider explored = record {
  found = tt;
  still = explored.still;
}
explored_in problem Narrow Whole Rosters most (Some key) left wider explored = record {
  found = record {
    held = explored.found.held;
    inside = wider key.places explored.found.inside;
    within = explored.found.within;
  };
  still = explored.still;
}

-- what comes of what is left, if nothing more is found
pub explored_on : (problem : Problem) (Whole Rosters : List ℕ → Type 0) (most : ℤ) (best : Option Key)
    (mid new : List Region) → IsExplored problem Whole Rosters most best mid
    → IsExplored problem Whole (IsInSome problem mid) (limit_of most best) None new
    → IsExplored problem Whole Rosters most best new
explored_on problem Whole Rosters most best mid new first then = record {
  found = first.found;
  still = open_then problem Rosters (limit_of most best) mid new first.still then.still;
}

-- and if a roster is found there
pub explored_more : (problem : Problem) (Whole Rosters : List ℕ → Type 0) (most : ℤ) (best : Option Key)
    (key : Key) (mid new : List Region) → IsExplored problem Whole Rosters most best mid
    → IsExplored problem Whole (IsInSome problem mid) (limit_of most best) (Some key) new
    → IsExplored problem Whole Rosters most (Some key) new
explored_more problem Whole Rosters most best key mid new first then =
    let within = then.found.within in
    let limit = limit_within problem Whole most best first.found in
    record {
      found = record {
        held = then.found.held;
        inside = then.found.inside;
        within = omega (arith, ints);
      };
      still = open_then problem Rosters (key.cost -ℤ pos 1) mid new (open_below problem Rosters (limit_of most best) (key.cost -ℤ pos 1) mid (omega (arith, ints)) first.still) then.still;
    }

-- ---- the search is over

pub none_left_explored : (problem : Problem) (Whole Rosters : List ℕ → Type 0) (most enough : ℤ)
    (best : Option Key) (left : List Region) → ((places : List ℕ) → Whole places → Rosters places)
    → left ≡ [] → IsExplored problem Whole Rosters most best left
    → IsCheapestWithin problem Whole most enough best
none_left_explored problem Whole Rosters most enough None left all none explored =
    let still = subst (AreOpenOf problem Rosters most) none explored.still in
    λ others legal inside. none_left problem Rosters most still others legal (all others inside)
none_left_explored problem Whole Rosters most enough (Some key) left all none explored =
    let still = subst (AreOpenOf problem Rosters (key.cost -ℤ pos 1)) none explored.still in (
      explored.found,
      inr (λ others legal inside.
          let more = none_left problem Rosters (key.cost -ℤ pos 1) still others legal (all others inside) in
          omega (arith, ints)),
    )

pub explored_is_over : (problem : Problem) (Whole Rosters : List ℕ → Type 0) (most enough : ℤ)
    (best : Option Key) (left : List Region) → ((places : List ℕ) → Whole places → Rosters places)
    → IsOver enough best left → IsExplored problem Whole Rosters most best left
    → IsCheapestWithin problem Whole most enough best
explored_is_over problem Whole Rosters most enough None left all over explored =
    none_left_explored problem Whole Rosters most enough None left all over explored
explored_is_over problem Whole Rosters most enough (Some key) left all over explored = elim over [
  | inl none ↦ none_left_explored problem Whole Rosters most enough (Some key) left all none explored
  | inr cheap ↦ (explored.found, inl cheap)
]

-- ---- how much there is to search

pub weight_pushed : (xs : List Region) (x : Region) → weight_of (xs ++ x ∷ []) ≡ weight_of xs + 3 ^ size_of x
weight_pushed [] x = omega (arith)
weight_pushed (y ∷ ys) x = let rest = weight_pushed ys x in omega (arith, rest)

three_times : (a s : ℕ) → a < s → 3 * 3 ^ a ≤ 3 ^ s
three_times a s less =
    subst (λ n. n ≤ 3 ^ s) (pow-succ' 3 a) (pow-le-pow_right (omega (arith)) (omega (arith, less)))

-- two parts with fewer lines
pub parts_weigh_less : (a b s : ℕ) → a < s → b < s → 3 ^ a + 3 ^ b < 3 ^ s
parts_weigh_less a b s first second =
    let one = three_times a s first in
    let two = three_times b s second in
    let some : 1 ≤ 3 ^ a = one-le-pow a 3 (omega (arith)) in
    omega (arith, one, two, some)

pub weight_parted : (old front new : List Region) (node having others : Region)
    → old ≡ front ++ node ∷ [] → new ≡ (front ++ others ∷ []) ++ having ∷ []
    → size_of having < size_of node → size_of others < size_of node → weight_of new < weight_of old
weight_parted old front new node having others same more first second =
    let is_old = ap weight_of same ∙ weight_pushed front node in
    let is_new = ap weight_of more ∙ weight_pushed (front ++ others ∷ []) having in
    let is_mid = weight_pushed front others in
    let less = parts_weigh_less (size_of having) (size_of others) (size_of node) first second in
    omega (arith, is_old, is_new, is_mid, less)

pub weight_popped : (old front : List Region) (node : Region) → old ≡ front ++ node ∷ []
    → weight_of front < weight_of old
weight_popped old front node same =
    let is_old = ap weight_of same ∙ weight_pushed front node in
    let some : 1 ≤ 3 ^ size_of node = one-le-pow (size_of node) 3 (omega (arith)) in
    omega (arith, is_old, some)

pub weight_left : (old front new : List Region) (node left : Region) → old ≡ front ++ node ∷ []
    → new ≡ front ++ left ∷ [] → size_of left ≤ size_of node → weight_of new ≤ weight_of old
weight_left old front new node left same more less =
    let is_old = ap weight_of same ∙ weight_pushed front node in
    let is_new = ap weight_of more ∙ weight_pushed front left in
    let fewer : 3 ^ size_of left ≤ 3 ^ size_of node = pow-le-pow_right (omega (arith)) less in
    omega (arith, is_old, is_new, fewer)

-- ---- one region

pub of_one : (problem : Problem) (node : Region) (nodes : List Region) → nodes ≡ [] ++ node ∷ []
    → (places : List ℕ) → IsInSome problem nodes places → IsIn problem node places
of_one problem node nodes same places is =
    elim (subst (λ xs. IsInSome problem xs places) same is) [ inl here ↦ here | inr none ↦ absurd none ]

pub in_one : (problem : Problem) (node : Region) (nodes : List Region) → nodes ≡ [] ++ node ∷ []
    → (places : List ℕ) → IsIn problem node places → IsInSome problem nodes places
in_one problem node nodes same places here = subst (λ xs. IsInSome problem xs places) (sym same) (inl here)

-- a region is the one part of itself
pub one_part : (problem : Problem) (node : Region) (nodes : List Region) → IsRegion problem node
    → nodes ≡ [] ++ node ∷ [] → ArePartsOf problem node nodes
one_part problem node nodes is same = record {
  is_region = is;
  are =
      subst (All (IsRegion problem)) (sym same)
      (All-push (IsRegion problem) [] node (λ k d less. absurd (omega (arith, less))) is);
  inside = of_one problem node nodes same;
}

-- what is found in all of a region when its search is over
pub one_is_over : (problem : Problem) (node : Region) (nodes left : List Region) (most enough : ℤ)
    (best : Option Key) → nodes ≡ [] ++ node ∷ [] → IsOver enough best left
    → IsExplored problem (IsIn problem node) (IsInSome problem nodes) most best left
    → IsCheapestWithin problem (IsIn problem node) most enough best
one_is_over problem node nodes left most enough best same over explored =
    explored_is_over problem (IsIn problem node) (IsInSome problem nodes) most enough best left (in_one problem node nodes same) over explored

-- what a branch makes of it
on_a_side : (problem : Problem) (branch : Split) (places : List ℕ)
    → IsOnFirst problem branch places ⊎ IsOnOther problem branch places
on_a_side problem (Holder k p) places = has_cases k p places
on_a_side problem (Flown p) places =
    elim (has_cases (open_number problem) p places) [ inl free ↦ inr free | inr flown ↦ inl flown ]
on_a_side problem (Count count) places =
    elim (cases_lt count (open_in problem places)) [ inl more ↦ inr (omega arith) | inr few ↦ inl few ]

pub parted_by : (problem : Problem) (branch : Split) (most : ℤ) (region having others : Region)
    → IsNarrowed problem (IsOnFirst problem branch) region having
    → IsOtherSide problem branch region others
    → size_of having < size_of region → size_of others < size_of region
    → IsParted problem region most having others
parted_by problem branch most region having others given other fewer less =
    let Both : List ℕ → Type 0 = λ roster. IsIn problem having roster ⊎ IsIn problem others roster in
    record {
      is_having = given.region;
      is_others = other.is_region;
      inside = λ places is. elim is [ inl has ↦ given.inside places has | inr rest ↦ other.inside places rest ];
      all = λ places here cheap. elim (on_a_side problem branch places) [
        | inl has ↦ matched_itself problem Both places (inl (given.kept places here has))
        | inr not ↦ elim (other.all places here not) [
          | inl there ↦ matched_itself problem Both places (inr there)
          | inr same ↦ matched_in problem (λ roster. IsIn problem region roster × IsOnFirst problem branch roster) Both places (λ roster is. inl (given.kept roster is.0 is.1)) same
        ]
      ];
      fewer_having = fewer;
      fewer_others = less;
    }

-- the other side, if it lost nothing
pub other_side : (problem : Problem) (branch : Split) (region other : Region)
    → IsNarrowed problem (IsOnOther problem branch) region other → IsOtherSide problem branch region other
other_side problem branch region other narrowed = record {
  is_region = narrowed.region;
  inside = narrowed.inside;
  all = λ places here not. inl (narrowed.kept places here not);
}

-- what comes of a part that has all that is cheap
pub visited_in_part : (problem : Problem) (most : ℤ) (old mid : Region) (visited : Visited)
    → IsNarrowed problem (CostsAtMost problem most) old mid → IsVisited problem mid most visited
    → IsVisited problem old most visited
visited_in_part problem most old mid Nothing part none = more_than_part problem old mid most part none
visited_in_part problem most old mid (Found key left) part found = (
  within_part problem (CostsAtMost problem most) old mid most key part found.0,
  narrowed_then problem (CostsAtMost problem most) old mid left part found.1,
)
visited_in_part problem most old mid (Parted having others) part parted =
    let less = part.size in
    let one = parted.fewer_having in
    let two = parted.fewer_others in
    record {
      is_having = parted.is_having;
      is_others = parted.is_others;
      inside = λ places is. part.inside places (parted.inside places is);
      all = λ places is cheap. parted.all places (part.kept places is cheap) cheap;
      fewer_having = omega (arith, less, one);
      fewer_others = omega (arith, less, two);
    }

-- what comes of a node if less may be paid, where no roster costs what lies between
pub visited_at_most : (problem : Problem) (node : Region) (most least : ℤ) (visited : Visited)
    → least ≤ℤ most
    → ((places : List ℕ) → IsIn problem node places → CostsAtMost problem most places → CostsAtMost problem least places)
    → IsVisited problem node least visited → IsVisited problem node most visited
visited_at_most problem node most least Nothing below same none =
    λ others legal inside. elim (cost_cases most (cost_of problem others)) [
      | inl cheap ↦
          let few = same others inside cheap in
          let more = none others legal inside in
          absurd (omega (arith, ints))
      | inr more ↦ more
    ]
visited_at_most problem node most least (Found key left) below same found =
    let within = found.0.within in (
      record { held = found.0.held; inside = found.0.inside; within = omega (arith, ints) },
      narrowed_by_more problem (CostsAtMost problem least) (CostsAtMost problem most) node left found.1 same,
    )
visited_at_most problem node most least (Parted having others) below same parted = record {
  is_having = parted.is_having;
  is_others = parted.is_others;
  inside = parted.inside;
  all = λ places is cheap. parted.all places is (same places is cheap);
  fewer_having = parted.fewer_having;
  fewer_others = parted.fewer_others;
}
