-- The lines before a mark, as the mark moves on.
use Rattle.std.proofs.Common.{◌≡◌, ℕ, ◌+◌, ◌<◌, ◌≤◌, true, false, List, [], ◌∷◌, ◌++◌, length, Some, refl, sym, ap, ◌∙◌, subst, inl, inr, arith}
use Rattle.std.specs.Prelude.{All, slice_get}
use Rattle.std.proofs.lemmas.Bool.{both_ways, cases_Bool}
use Rattle.std.proofs.lemmas.List.{append_assoc, length_push, get_or_append_left, get_or_push}
use Rattle.std.proofs.lemmas.List.Elements.{All-nil, All-cons, All-push, All-weaker}
use Rattle.std.proofs.lemmas.List.Kept.{AllPairs-cons}
use Rattle.std.proofs.lemmas.Option.{slice_get_within, slice_get-get_or, get_or_from_slice_get}
use Rattle.roster_model.specs.Lines.{AreSomeLines, IsLine}
use Rattle.roster_model.specs.Problem.{Problem}
use Rattle.roster_model.specs.Places.{places_le}
use Rattle.roster_model.proofs.PlacesOrder.{before-trans_right, between_marks, front_at_most, front_before, marks_at_most, nothing_between, places_le-append, places_le-trans, by_less}
use Rattle.roster_lines_table.proofs.Cuts.{before_count}
use Rattle.roster_lines_table.proofs.Fronts.{All-behind}
use Rattle.roster_lines_table.proofs.Lists.{IsLine-empty}
use Rattle.roster_lines_table.proofs.TreeLemmas.{AreOrdered-push}
use Rattle.roster_lines.specs.Listing.{IsUpTo}
use Rattle.roster_lines.specs.SomeLines.{AreWantedLines, HasMoreLines}

-- ---- one set more

pub get_push_old : (sets : List (List ℕ)) (set s : List ℕ) (i : ℕ) → slice_get sets i ≡ Some s
    → slice_get (sets ++ set ∷ []) i ≡ Some s
get_push_old sets set s i at =
    let inside = slice_get_within sets i s at in
    slice_get-get_or (sets ++ set ∷ []) i [] (omega (arith, length_push sets set))
    ∙ ap Some (get_or_append_left sets (set ∷ []) [] i inside ∙ get_or_from_slice_get sets i s [] at)

pub get_push_new : (sets : List (List ℕ)) (set : List ℕ)
    → slice_get (sets ++ set ∷ []) (length sets) ≡ Some set
get_push_new sets set =
    slice_get-get_or (sets ++ set ∷ []) (length sets) [] (omega (arith, length_push sets set))
    ∙ ap Some (get_or_push sets set [] (length sets) refl)

module _ (problem : Problem) (k : ℕ) (wants : List ℕ → Type 0) where
  some-push : (sets : List (List ℕ)) (set : List ℕ) → IsUpTo problem k wants set sets → IsLine problem k set
      → AreSomeLines problem k (sets ++ set ∷ [])
  some-push sets set up line = record {
    lines = All-push (IsLine problem k) sets set up.some.lines line;
    ordered = AreOrdered-push sets set up.some.ordered up.before;
  }

  -- with one line more than so many
  pub HasMoreLines-push : (sets : List (List ℕ)) (set : List ℕ) (most : ℕ) → IsUpTo problem k wants set sets
      → IsLine problem k set → most ≤ length sets → HasMoreLines problem k most
  HasMoreLines-push sets set most up line full = record {
    sets = sets ++ set ∷ [];
    some = some-push sets set up line;
    many = omega (arith, length_push sets set);
  }

  -- with the line at the mark, up to what follows it
  pub IsUpTo-push : (sets : List (List ℕ)) (set : List ℕ) → IsUpTo problem k wants set sets
      → IsLine problem k set → IsUpTo problem k wants (set ++ 0 ∷ []) (sets ++ set ∷ [])
  IsUpTo-push sets set up line = record {
    some = some-push sets set up line;
    before = All-push (λ s. places_le (set ++ 0 ∷ []) s ≡ false) sets set
        (All-weaker (λ s. places_le set s ≡ false) (λ s. places_le (set ++ 0 ∷ []) s ≡ false) (λ s b. before-trans_right s set (set ++ 0 ∷ []) b (front_at_most set (0 ∷ []))) sets up.before)
        (front_before set 0 []);
    every = λ s is wanted before. elim (cases_Bool (places_le set s)) [
      | inl on ↦
          let same = nothing_between set s on before in
          (length sets, subst (λ x. slice_get (sets ++ set ∷ []) (length sets) ≡ Some x) (sym same) (get_push_new sets set))
      | inr off ↦ let found = up.every s is wanted off in (found.0, get_push_old sets set s found.0 found.1)
    ];
  }

  -- over what has no line that is wanted
  pub IsUpTo-move : (sets : List (List ℕ)) (old new : List ℕ) → IsUpTo problem k wants old sets → places_le old new ≡ true → ((set : List ℕ) → IsLine problem k set → wants set → places_le old set ≡ true → places_le new set ≡ false → ⊥) → IsUpTo problem k wants new sets
  IsUpTo-move sets old new up later none = record {
    some = up.some;
    before =
        All-weaker (λ s. places_le old s ≡ false) (λ s. places_le new s ≡ false)
        (λ s b. before-trans_right s old new b later) sets up.before;
    every = λ s is wanted before. elim (cases_Bool (places_le old s)) [
      | inl on ↦ absurd (none s is wanted on before)
      | inr off ↦ up.every s is wanted off
    ];
  }

  -- over places with none of which a line goes on that is wanted
  pub IsUpTo-skip : (sets : List (List ℕ)) (set : List ℕ) (a b : ℕ) → IsUpTo problem k wants (set ++ a ∷ []) sets → a ≤ b → ((p : ℕ) (rest : List ℕ) → a ≤ p → p < b → IsLine problem k (set ++ p ∷ rest) → wants (set ++ p ∷ rest) → ⊥) → IsUpTo problem k wants (set ++ b ∷ []) sets
  IsUpTo-skip sets set a b up later none =
      IsUpTo-move sets (set ++ a ∷ []) (set ++ b ∷ []) up (marks_at_most set a b [] later)
      (λ s is wanted on before.
      let found = between_marks set a b s on before in
      none found.0 found.1 found.3 found.4 (subst (IsLine problem k) found.2 is) (subst wants found.2 wanted))

  -- from all that go on from a line to the next
  pub IsUpTo-return : (sets : List (List ℕ)) (set : List ℕ) (p : ℕ)
      → IsUpTo problem k wants (set ++ p ∷ [] ++ length problem.pairings ∷ []) sets
      → IsUpTo problem k wants (set ++ (p + 1) ∷ []) sets
  IsUpTo-return sets set p up =
      let count : ℕ = length problem.pairings in
      let line : List ℕ = set ++ p ∷ [] in
      let joined : line ++ count ∷ [] ≡ set ++ p ∷ count ∷ [] = append_assoc set (p ∷ []) (count ∷ []) in
      let later : places_le (line ++ count ∷ []) (set ++ (p + 1) ∷ []) ≡ true =
      ap (λ mark. places_le mark (set ++ (p + 1) ∷ [])) joined
      ∙ places_le-append set (p ∷ count ∷ []) ((p + 1) ∷ [])
      ∙ by_less p (p + 1) (count ∷ []) [] (omega arith) in
      IsUpTo-move sets (line ++ count ∷ []) (set ++ (p + 1) ∷ []) up later (λ s is wanted on before.
      let found =
      between_marks set p (p + 1) s
      (places_le-trans line (line ++ count ∷ []) s (front_at_most line (count ∷ [])) on) before in
      let here : found.0 ≡ p = omega (arith, found.3, found.4) in
      let on_line : s ≡ line ++ found.1 =
      found.2 ∙ ap (λ q. set ++ q ∷ found.1) here ∙ sym (append_assoc set (p ∷ []) found.1) in
      let places =
      All-behind (λ q. q < count) line found.1 (subst (All (λ q. q < count)) on_line is.places) in
      both_ways _ (before_count count found.1 places) (sym (places_le-append line (count ∷ []) found.1) ∙ ap (places_le (line ++ count ∷ [])) (sym on_line) ∙ on))

  -- the lines before the first place: the empty one
  pub IsUpTo-empty : IsUpTo problem k wants (0 ∷ []) ([] ∷ [])
  IsUpTo-empty = record {
    some = record {
      lines = All-cons (IsLine problem k) [] [] (IsLine-empty problem k) (All-nil (IsLine problem k));
      ordered =
          AllPairs-cons (λ a b. places_le b a ≡ false) [] [] (All-nil (λ b. places_le b [] ≡ false))
          (λ i j d l inside. absurd (omega arith));
    };
    before =
        All-cons (λ s. places_le (0 ∷ []) s ≡ false) [] [] refl (All-nil (λ s. places_le (0 ∷ []) s ≡ false));
    every = λ s is wanted before. (0, ap Some (sym (nothing_between [] s refl before)));
  }

  -- the lines before a place that is none: all that are wanted
  pub AreWantedLines-up_to : (sets : List (List ℕ)) → slice_get sets 0 ≡ Some []
      → IsUpTo problem k wants (length problem.pairings ∷ []) sets → AreWantedLines problem k wants sets
  AreWantedLines-up_to sets first up = record {
    some = up.some;
    first = first;
    every = λ s is wanted. up.every s is wanted (before_count (length problem.pairings) s is.places);
  }
