-- Open nodes that threads explore. A share of the list in two keeps `AreOpenOf` (`AreDealt`), and its ends
-- are put together again after the join. So do rounds, since what is left of what is left is what is left.
-- An empty list says that no roster costs so little.
use Rattle.std.proofs.Common.{◌≡◌, ℕ, ◌⊎◌, inl, inr, All, Bool, true, false, if◌then◌else◌, IfSome, MatchOption, List, [], ◌∷◌, ◌++◌, reverse, Option, Some, None, ℤ, int_lt, ◌<ℤ◌, ◌≤ℤ◌, refl, sym, subst, arith}
use Rattle.std.proofs.lemmas.Int.{ints}
use Rattle.std.proofs.lemmas.List.{reverse-append, reverse-reverse}
use Rattle.std.proofs.lemmas.List.Elements.{All-append, All-pop, All-push}
use Rattle.std.proofs.lemmas.List.Sorted.{All-permutation, IsPermutation-reverse}
use Rattle.roster_model.specs.Problem.{Problem}
use Rattle.roster_model.specs.Rosters.{Key}
use Rattle.roster_model.specs.Settled.{IsWithinCost}
use Rattle.roster_search_regions.specs.Regions.{IsIn, IsRegion, Region}
use Rattle.roster_search.specs.Branches.{IsMatched}
use Rattle.roster_search.specs.Open.{limit_of, AreOpenOf, ArePartsOf, IsExplored, IsInSome}
use Rattle.roster_search.proofs.OpenLemmas.{explored_more, explored_on, limit_within, matched_in, open_below, some_before, some_cases, some_either, some_last, some_left, some_right}
use Rattle.roster_search_threads.specs.Explored.{cheaper_of, AreDealt}

-- ---- two lists

-- regions that are dealt in turn
pub record IsDealing (problem : Problem) (nodes mine theirs rest : List Region) : Type 0 where
  pub are_mine : All (IsRegion problem) mine
  pub are_theirs : All (IsRegion problem) theirs
  pub are_rest : All (IsRegion problem) rest
  pub all : (places : List ℕ) → IsInSome problem nodes places
      → (IsInSome problem mine places ⊎ IsInSome problem theirs places) ⊎ IsInSome problem rest places
  pub inside : (places : List ℕ)
      → (IsInSome problem mine places ⊎ IsInSome problem theirs places) ⊎ IsInSome problem rest places
      → IsInSome problem nodes places

pub dealing_begins : (problem : Problem) (nodes : List Region) → All (IsRegion problem) nodes
    → IsDealing problem nodes [] [] nodes
dealing_begins problem nodes are = record {
  are_mine = λ k d less. absurd (omega (arith, less));
  are_theirs = λ k d less. absurd (omega (arith, less));
  are_rest = are;
  all = λ places is. inr is;
  inside = λ places is. elim is [ inl dealt ↦ elim dealt [ inl none ↦ absurd none | inr none ↦ absurd none ] | inr rest ↦ rest ];
}

-- one more is dealt
module _ (problem : Problem) (nodes mine theirs rest left : List Region) (node : Region)
    (dealing : IsDealing problem nodes mine theirs rest) (same : rest ≡ left ++ node ∷ []) where
  still : All (IsRegion problem) left × IsRegion problem node
  still = All-pop (IsRegion problem) rest left (Some node) same dealing.are_rest

  of_rest : (places : List ℕ) → IsInSome problem rest places
      → IsInSome problem left places ⊎ IsIn problem node places
  of_rest places is = some_cases problem left node places (subst (λ xs. IsInSome problem xs places) same is)

  to_rest : (places : List ℕ) → IsInSome problem left places ⊎ IsIn problem node places
      → IsInSome problem rest places
  to_rest places is = subst (λ xs. IsInSome problem xs places) (sym same) (elim is [ inl before ↦ some_before problem left node places before | inr last ↦ some_last problem left node places last ])

  pub dealt_to_mine : (more : List Region) → more ≡ mine ++ node ∷ []
      → IsDealing problem nodes more theirs left
  dealt_to_mine more is_more = record {
    are_mine =
        subst (All (IsRegion problem)) (sym is_more)
        (All-push (IsRegion problem) mine node dealing.are_mine still.1);
    are_theirs = dealing.are_theirs;
    are_rest = still.0;
    all = λ places is. elim (dealing.all places is) [
      | inl dealt ↦ elim dealt [
        | inl here ↦ inl (inl (subst (λ xs. IsInSome problem xs places) (sym is_more) (some_before problem mine node places here)))
        | inr there ↦ inl (inr there)
      ]
      | inr later ↦ elim (of_rest places later) [
        | inl before ↦ inr before
        | inr last ↦ inl (inl (subst (λ xs. IsInSome problem xs places) (sym is_more) (some_last problem mine node places last)))
      ]
    ];
    inside = λ places is. dealing.inside places (elim is [
      | inl dealt ↦ elim dealt [
        | inl here ↦ elim (some_cases problem mine node places (subst (λ xs. IsInSome problem xs places) is_more here)) [
          | inl before ↦ inl (inl before)
          | inr last ↦ inr (to_rest places (inr last))
        ]
        | inr there ↦ inl (inr there)
      ]
      | inr later ↦ inr (to_rest places (inl later))
    ]);
  }

  pub dealt_to_theirs : (more : List Region) → more ≡ theirs ++ node ∷ []
      → IsDealing problem nodes mine more left
  dealt_to_theirs more is_more = record {
    are_mine = dealing.are_mine;
    are_theirs =
        subst (All (IsRegion problem)) (sym is_more)
        (All-push (IsRegion problem) theirs node dealing.are_theirs still.1);
    are_rest = still.0;
    all = λ places is. elim (dealing.all places is) [
      | inl dealt ↦ elim dealt [
        | inl here ↦ inl (inl here)
        | inr there ↦ inl (inr (subst (λ xs. IsInSome problem xs places) (sym is_more) (some_before problem theirs node places there)))
      ]
      | inr later ↦ elim (of_rest places later) [
        | inl before ↦ inr before
        | inr last ↦ inl (inr (subst (λ xs. IsInSome problem xs places) (sym is_more) (some_last problem theirs node places last)))
      ]
    ];
    inside = λ places is. dealing.inside places (elim is [
      | inl dealt ↦ elim dealt [
        | inl here ↦ inl (inl here)
        | inr there ↦ elim (some_cases problem theirs node places (subst (λ xs. IsInSome problem xs places) is_more there)) [
          | inl before ↦ inl (inr before)
          | inr last ↦ inr (to_rest places (inr last))
        ]
      ]
      | inr later ↦ inr (to_rest places (inl later))
    ]);
  }

-- the other way round
some_reverse : (problem : Problem) (xs : List Region) (places : List ℕ) → IsInSome problem xs places
    → IsInSome problem (reverse xs) places
some_reverse problem [] places is = absurd is
some_reverse problem (x ∷ xs) places (inl here) =
    subst (λ ys. IsInSome problem ys places) (sym (reverse-append (x ∷ []) xs))
    (some_last problem (reverse xs) x places here)
some_reverse problem (x ∷ xs) places (inr there) =
    subst (λ ys. IsInSome problem ys places) (sym (reverse-append (x ∷ []) xs))
    (some_before problem (reverse xs) x places (some_reverse problem xs places there))

some_reverse_back : (problem : Problem) (xs : List Region) (places : List ℕ)
    → IsInSome problem (reverse xs) places → IsInSome problem xs places
some_reverse_back problem xs places is =
    subst (λ ys. IsInSome problem ys places) (reverse-reverse xs)
    (some_reverse problem (reverse xs) places is)

pub dealing_ends : (problem : Problem) (nodes mine theirs rest here there : List Region)
    → IsDealing problem nodes mine theirs rest → rest ≡ [] → here ≡ reverse mine → there ≡ reverse theirs
    → AreDealt problem nodes here there
dealing_ends problem nodes mine theirs rest here there dealing none is_here is_there = record {
  are_mine =
      subst (All (IsRegion problem)) (sym is_here)
      (All-permutation (IsRegion problem) mine (reverse mine) (IsPermutation-reverse mine) dealing.are_mine);
  are_theirs = subst (All (IsRegion problem)) (sym is_there) (All-permutation (IsRegion problem) theirs (reverse theirs) (IsPermutation-reverse theirs) dealing.are_theirs);
  all = λ places is. elim (dealing.all places is) [
    | inl dealt ↦ elim dealt [
      | inl first ↦ inl (subst (λ xs. IsInSome problem xs places) (sym is_here) (some_reverse problem mine places first))
      | inr second ↦ inr (subst (λ xs. IsInSome problem xs places) (sym is_there) (some_reverse problem theirs places second))
    ]
    | inr later ↦ absurd (subst (λ xs. IsInSome problem xs places) none later)
  ];
  inside = λ places is. dealing.inside places (inl (elim is [
    | inl first ↦ inl (some_reverse_back problem mine places (subst (λ xs. IsInSome problem xs places) is_here first))
    | inr second ↦ inr (some_reverse_back problem theirs places (subst (λ xs. IsInSome problem xs places) is_there second))
  ]));
}

-- ---- the cheaper of two rosters

cheaper_cases : (P : Option Key → Type 0) (first second : Key) → (second.cost <ℤ first.cost → P (Some second))
    → (first.cost ≤ℤ second.cost → P (Some first)) → P (cheaper_of (Some first) (Some second))
cheaper_cases P first second f g = pick (int_lt second.cost first.cost) refl
  where
    pick : (t : Bool) → int_lt second.cost first.cost ≡ t → P (if t then Some second else Some first)
    pick true e = f (omega (arith, ints))
    pick false e = g (omega (arith, ints))

-- what holds of both holds of it
pub cheaper_found : (P : Key → Type 0) (first second : Option Key) → IfSome first P → IfSome second P
    → IfSome (cheaper_of first second) P
cheaper_found P None second one two = two
cheaper_found P (Some first) None one two = one
cheaper_found P (Some first) (Some second) one two =
    cheaper_cases (λ key. IfSome key P) first second (λ _. two) (λ _. one)

-- it lowers what others may cost as either does
pub below_first : (problem : Problem) (Whole : List ℕ → Type 0) (most : ℤ) (first second : Option Key)
    → IfSome second (IsWithinCost problem Whole most)
    → limit_of most (cheaper_of first second) ≤ℤ limit_of most first
below_first problem Whole most None second found = limit_within problem Whole most second found
below_first problem Whole most (Some first) None found = omega (arith, ints)
below_first problem Whole most (Some first) (Some second) found =
    cheaper_cases (λ key. limit_of most key ≤ℤ limit_of most (Some first)) first second
    (λ less. omega (arith, ints)) (λ _. omega (arith, ints))

pub below_second : (problem : Problem) (Whole : List ℕ → Type 0) (most : ℤ) (first second : Option Key)
    → IfSome first (IsWithinCost problem Whole most)
    → limit_of most (cheaper_of first second) ≤ℤ limit_of most second
below_second problem Whole most None second found = omega (arith, ints)
below_second problem Whole most (Some first) None found = limit_within problem Whole most (Some first) found
below_second problem Whole most (Some first) (Some second) found =
    cheaper_cases (λ key. limit_of most key ≤ℤ limit_of most (Some second)) first second
    (λ _. omega (arith, ints)) (λ more. omega (arith, ints))

-- ---- what two lists come to

both_open : (problem : Problem) (most : ℤ) (mine theirs first second all : List Region)
    → all ≡ first ++ second → AreOpenOf problem (IsInSome problem mine) most first
    → AreOpenOf problem (IsInSome problem theirs) most second
    → AreOpenOf problem (IsInSome problem (mine ++ theirs)) most all
both_open problem most mine theirs first second all same here there = record {
  are =
      subst (All (IsRegion problem)) (sym same)
      (All-append (IsRegion problem) first second here.are there.are);
  inside = λ places is. elim (some_either problem first second places (subst (λ xs. IsInSome problem xs places) same is)) [
    | inl one ↦ some_left problem mine theirs places (here.inside places one)
    | inr two ↦ some_right problem mine theirs places (there.inside places two)
  ];
  all = λ places is cheap. subst (λ xs. IsMatched problem (IsInSome problem xs) places) (sym same) (elim (some_either problem mine theirs places is) [
    | inl one ↦ matched_in problem (IsInSome problem first) (IsInSome problem (first ++ second)) places (some_left problem first second) (here.all places one cheap)
    | inr two ↦ matched_in problem (IsInSome problem second) (IsInSome problem (first ++ second)) places (some_right problem first second) (there.all places two cheap)
  ]);
}

pub both_explored : (problem : Problem) (Whole : List ℕ → Type 0) (most : ℤ) (mine theirs : List Region)
    (one two : Option Key) (first second all : List Region) → all ≡ first ++ second
    → IsExplored problem Whole (IsInSome problem mine) most one first
    → IsExplored problem Whole (IsInSome problem theirs) most two second
    → IsExplored problem Whole (IsInSome problem (mine ++ theirs)) most (cheaper_of one two) all
both_explored problem Whole most mine theirs one two first second all same here there =
    let limit = limit_of most (cheaper_of one two) in
    record {
      found = cheaper_found (IsWithinCost problem Whole most) one two here.found there.found;
      still = both_open problem limit mine theirs first second all same
          (open_below problem (IsInSome problem mine) (limit_of most one) limit first (below_first problem Whole most one two there.found) here.still)
          (open_below problem (IsInSome problem theirs) (limit_of most two) limit second (below_second problem Whole most one two here.found) there.still);
    }

-- what is dealt are parts
pub parts_dealt : (problem : Problem) (whole : Region) (nodes mine theirs : List Region)
    → ArePartsOf problem whole nodes → AreDealt problem nodes mine theirs
    → ArePartsOf problem whole mine × ArePartsOf problem whole theirs
parts_dealt problem whole nodes mine theirs parts dealt = (
  record {
    is_region = parts.is_region;
    are = dealt.are_mine;
    inside = λ places is. parts.inside places (dealt.inside places (inl is));
  },
  record {
    is_region = parts.is_region;
    are = dealt.are_theirs;
    inside = λ places is. parts.inside places (dealt.inside places (inr is));
  },
)

-- what is dealt has what was there
pub explored_dealt : (problem : Problem) (Whole : List ℕ → Type 0) (most : ℤ) (nodes mine theirs : List Region)
    (best : Option Key) (left : List Region) → AreDealt problem nodes mine theirs
    → IsExplored problem Whole (IsInSome problem (mine ++ theirs)) most best left
    → IsExplored problem Whole (IsInSome problem nodes) most best left
explored_dealt problem Whole most nodes mine theirs best left dealt explored = record {
  found = explored.found;
  still = record {
    are = explored.still.are;
    inside = λ places is. dealt.inside places (some_either problem mine theirs places (explored.still.inside places is));
    all = λ places is cheap. explored.still.all places (elim (dealt.all places is) [
      | inl first ↦ some_left problem mine theirs places first
      | inr second ↦ some_right problem mine theirs places second
    ]) cheap;
  };
}

-- ---- one search after another

pub explored_next : (problem : Problem) (Whole : List ℕ → Type 0) (nodes : List Region) (most : ℤ)
    (best found after : Option Key) (mid new : List Region)
    → IsExplored problem Whole (IsInSome problem nodes) most best mid
    → IsExplored problem Whole (IsInSome problem mid) (limit_of most best) found new
    → MatchOption found (after ≡ best) (λ key. after ≡ Some key)
    → IsExplored problem Whole (IsInSome problem nodes) most after new
explored_next problem Whole nodes most best None after mid new first next same =
    subst (λ best. IsExplored problem Whole (IsInSome problem nodes) most best new) (sym same)
    (explored_on problem Whole (IsInSome problem nodes) most best mid new first next)
explored_next problem Whole nodes most best (Some key) after mid new first next same =
    subst (λ best. IsExplored problem Whole (IsInSome problem nodes) most best new) (sym same)
    (explored_more problem Whole (IsInSome problem nodes) most best key mid new first next)
