-- Lists of shares and targets, element by element.
use Rattle.std.proofs.Common.{◌≡◌, ◌∙◌, ◌<◌, ◌+◌, ◌∷◌, ◌++◌, ℕ, suc, List, [], Some, ap, append_assoc, append-nil, arith, drop, get_or, length, map, sym}
use Rattle.std.specs.Prelude.{slice_get}
use Rattle.std.specs.List.{range_with_len}
use Rattle.std.proofs.Math.Seq.{drop-cons, drop-length}
use Rattle.std.proofs.lemmas.List.FromFn.{get_or-map-range_with_len, length-map-range_with_len}
use Rattle.std.proofs.lemmas.Option.{get_or_from_slice_get}
use Rattle.roster_model.specs.Problem.{Problem, target_of}
use Rattle.roster_desk_fair.specs.Fair.{IsFair, fair_target, share_of, shares_from}

-- one share more, where the weight is the first of those that are left
share-more : (flight whole before own : ℕ) (rest shares all : List ℕ)
    → shares ++ shares_from flight whole before (own ∷ rest) ≡ all
    → (shares ++ share_of flight whole before own ∷ []) ++ shares_from flight whole (before + own) rest ≡ all
unfolding shares_from
share-more flight whole before own rest shares all so_far =
    append_assoc shares (share_of flight whole before own ∷ []) (shares_from flight whole (before + own) rest) ∙ so_far

left-more : (weights : List ℕ) (i : ℕ) → i < length weights → drop i weights ≡ get_or weights i 0 ∷ drop (i + 1) weights
left-more weights i inside =
    let next : suc i ≡ i + 1 = omega arith in
    drop-cons weights i 0 inside ∙ ap (λ n. get_or weights i 0 ∷ drop n weights) next

pub one-more : (flight whole before own i : ℕ) (weights shares all : List ℕ) → i < length weights → own ≡ get_or weights i 0
    → shares ++ shares_from flight whole before (drop i weights) ≡ all
    → (shares ++ share_of flight whole before own ∷ []) ++ shares_from flight whole (before + own) (drop (i + 1) weights) ≡ all
one-more flight whole before own i weights shares all inside own-is so_far =
    rw own-is
    (share-more flight whole before (get_or weights i 0) (drop (i + 1) weights) shares all
    (ap (λ left. shares ++ shares_from flight whole before left) (sym (left-more weights i inside)) ∙ so_far))

-- all weights have their shares
none-left : (flight whole before : ℕ) (left shares : List ℕ) → left ≡ [] → shares ++ shares_from flight whole before left ≡ shares
unfolding shares_from
none-left flight whole before left shares none = rw none (append-nil shares)

pub no-more : (flight whole before : ℕ) (weights shares all : List ℕ) (i : ℕ) → i ≡ length weights
    → shares ++ shares_from flight whole before (drop i weights) ≡ all → shares ≡ all
no-more flight whole before weights shares all i end so_far =
    let none : drop i weights ≡ [] = ap (λ n. drop n weights) end ∙ drop-length weights in
    sym (none-left flight whole before (drop i weights) shares none) ∙ so_far

-- who has the numbers of the list has fair targets
pub fair-targets : (book read : Problem) (fair : List ℕ)
    → fair ≡ map (fair_target book) (range_with_len 0 (length book.persons))
    → length fair ≡ length read.persons
    → ((k : ℕ) → k < length read.persons → slice_get fair k ≡ Some (target_of read k))
    → IsFair book read
fair-targets book read fair is same at =
    let all : length fair ≡ length book.persons = ap length is ∙ length-map-range_with_len (fair_target book) 0 (length book.persons) in
    record {
      persons = sym same ∙ all;
      targets = λ k inside.
          let known : get_or fair k 0 ≡ target_of read k = get_or_from_slice_get fair k (target_of read k) 0 (at k (omega (arith, inside, same, all))) in
          let wanted = get_or-map-range_with_len (fair_target book) 0 (length book.persons) k k 0 inside (omega arith) in
          sym known ∙ (ap (λ list. get_or list k 0) is ∙ wanted);
    }
