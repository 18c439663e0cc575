-- The rows of a person's lines in the table, read as choices.
use Rattle.std.proofs.Common.{◌≡◌, ℕ, ◌+◌, ◌-◌, Bool, true, false, ◌&&◌, ◌||◌, eqb, eq-eqb, List, [], ◌∷◌, map, take, drop, ℤ, pos, ◌-ℤ◌, ◌*ℤ◌, Some, SFits, w64, to_z, of_z, refl, sym, ap, ap₂, ◌∙◌, subst, inl, inr, arith}
use Rattle.std.specs.Prelude.{All, slice_get}
use Rattle.std.specs.List.{list_all}
use Rattle.std.proofs.lemmas.Bool.{both_ways, cases_Bool, cases_lt, ne_eqb}
use Rattle.std.proofs.lemmas.Int.{to_z-of_z}
use Rattle.std.proofs.lemmas.List.{take-append-drop}
use Rattle.std.proofs.lemmas.List.Elements.{All-cons, All-head, All-nil, All-tail}
use Rattle.std.proofs.lemmas.Option.{get_or_from_slice_get, none-some, same_Some}
use Rattle.roster_model.specs.Rules.{is_among}
use Rattle.roster_model.proofs.SetLemmas.{is_among-append}
use Rattle.roster_cost.specs.Amounts.{IsWithin, most_extra}
use Rattle.roster_lines_table.specs.declared.lines.Row.{Row}
use Rattle.roster_lines_table.specs.Entries.{Entry, costs_of, sets_of}
use Rattle.roster_lines_table.specs.Rows.{entries_after, set_after, IsWithinLimits}
use Rattle.roster_search_regions.specs.declared.choice.Choice.{Choice}
use Rattle.roster_search_regions.specs.declared.choice.TheConstants.{MOST_EXTRA}
use Rattle.roster_search_regions.specs.Building.{allowed_in, extra_in, AreCounted}
use Rattle.roster_search_regions.specs.Regions.{AllowedLine, allowed}
use Rattle.roster_search_regions.specs.Rows.{choice_of, choices_of, AreReadable}
use Rattle.roster_search_regions.specs.Trees.{has_last, lines_after, lines_in, next_path, path_after, ArePossible, IsLimited}
use Rattle.roster_search_regions.proofs.MarkLemmas.{limited-remarked}
use Rattle.roster_search_regions.proofs.TreeLemmas.{lines_at-live, next_path-deep, next_path-root, or_false, path_at, possible_more}

-- ---- what rows are

-- a difference in words of 64 bits
pub difference-words : (a b r : ℤ) → SFits w64 a → SFits w64 b → SFits w64 r
    → r ≡ to_z w64 (of_z w64 a) -ℤ to_z w64 (of_z w64 b) → to_z w64 (of_z w64 r) ≡ a -ℤ b
difference-words a b r first second fits is =
    to_z-of_z w64 r fits ∙ is ∙ ap₂ (λ (x y : ℤ). x -ℤ y) (to_z-of_z w64 a first) (to_z-of_z w64 b second)

-- an entry, with what it costs more than so much
abbrev counted_above : ℕ → ℤ → Entry → AllowedLine
counted_above scale empty entry = allowed entry.set (pos scale *ℤ (entry.cost -ℤ empty))

-- the lines of rows are their entries
lines_after-rows : (scale : ℕ) (empty : ℤ) (path : List ℕ) (rows : List Row) → lines_after path (choices_of scale empty rows) ≡ map (counted_above scale empty) (entries_after path rows)
unfolding lines_after entries_after
lines_after-rows scale empty path [] = refl
lines_after-rows scale empty path (row ∷ rows) =
    ap (λ lines. allowed (set_after path row) (pos scale *ℤ (row.cost -ℤ empty)) ∷ lines)
    (lines_after-rows scale empty (set_after path row) rows)

pub lines_in-rows : (scale : ℕ) (empty : ℤ) (rows : List Row) (entries : List Entry)
    → entries_after [] rows ≡ entries → slice_get (costs_of entries) 0 ≡ Some empty
    → lines_in (choices_of scale empty rows) ≡ map (allowed_in scale entries) entries
unfolding lines_in
lines_in-rows scale empty rows entries read first =
    lines_after-rows scale empty [] rows
    ∙ ap (map (counted_above scale empty)) read
    ∙ ap (λ z. map (counted_above scale z) entries) (sym (get_or_from_slice_get (costs_of entries) 0 empty (pos 0) first))

-- what is so of the costs of entries is so of those of their rows
All-rows : (P : ℤ → Type 0) (path : List ℕ) (rows : List Row)
    → All (λ entry. P entry.cost) (entries_after path rows) → All (λ row. P row.cost) rows
unfolding entries_after
All-rows P path [] all = All-nil (λ row. P row.cost)
All-rows P path (row ∷ rows) all =
    All-cons (λ (r : Row). P r.cost) row rows (All-head (λ (e : Entry). P e.cost) _ _ all)
    (All-rows P (set_after path row) rows (All-tail (λ (e : Entry). P e.cost) _ _ all))

limited-rows : (scale : ℕ) (empty : ℤ) (rows : List Row) → All IsWithinLimits rows
    → All (λ row. IsWithin MOST_EXTRA (pos scale *ℤ (row.cost -ℤ empty))) rows
    → All IsLimited (choices_of scale empty rows)
limited-rows scale empty [] limits counted = All-nil IsLimited
limited-rows scale empty (row ∷ rows) limits counted =
    let P : Row → Type 0 = λ r. IsWithin MOST_EXTRA (pos scale *ℤ (r.cost -ℤ empty)) in
    let here = All-head IsWithinLimits row rows limits in
    All-cons IsLimited (choice_of scale empty row) (choices_of scale empty rows)
    (record { depth = here.depth; last = here.last; extra = All-head P row rows counted })
    (limited-rows scale empty rows (All-tail IsWithinLimits row rows limits) (All-tail P row rows counted))

pub readable-rows : (scale : ℕ) (empty : ℤ) (marks : List Bool) (rows : List Row) (entries : List Entry)
    → entries_after [] rows ≡ entries → slice_get (costs_of entries) 0 ≡ Some empty → All IsWithinLimits rows
    → AreCounted scale entries → All (λ entry. IsWithin most_extra (extra_in entries entry)) entries
    → AreReadable scale empty marks rows
readable-rows scale empty marks rows entries read first limits counted near =
    let is = get_or_from_slice_get (costs_of entries) 0 empty (pos 0) first in
    let near' : All (λ entry. IsWithin most_extra (entry.cost -ℤ empty)) entries =
    subst (λ z. All (λ (entry : Entry). IsWithin most_extra (entry.cost -ℤ z)) entries) is near in
    let counted' : All (λ entry. IsWithin MOST_EXTRA (pos scale *ℤ (entry.cost -ℤ empty))) entries = subst (λ z. All (λ (entry : Entry). IsWithin MOST_EXTRA (pos scale *ℤ (entry.cost -ℤ z))) entries) is counted in
    record {
      near =
          All-rows (λ z. IsWithin most_extra (z -ℤ empty)) [] rows
          (subst (All (λ (entry : Entry). IsWithin most_extra (entry.cost -ℤ empty))) (sym read) near');
      limited = limited-remarked marks (choices_of scale empty rows) (limited-rows scale empty rows limits (All-rows (λ z. IsWithin MOST_EXTRA (pos scale *ℤ (z -ℤ empty))) [] rows (subst (All (λ (entry : Entry). IsWithin MOST_EXTRA (pos scale *ℤ (entry.cost -ℤ empty)))) (sym read) counted')));
    }

-- ---- the pairings that some of the lines have

is_among-take : (n p : ℕ) (path : List ℕ) → is_among (take n path) p ≡ true → is_among path p ≡ true
is_among-take n p path h =
    ap (λ set. is_among set p) (sym (take-append-drop n path))
    ∙ is_among-append (take n path) (drop n path) p
    ∙ ap (λ b. b || is_among (drop n path) p) h

-- where all pairings of the path before are in already, those of the next one are in with its last one
last-or : (path : List ℕ) (choice : Choice) (p : ℕ) (b : Bool) → (is_among path p ≡ true → b ≡ true)
    → (b || has_last choice p) ≡ (b || is_among (next_path path choice) p)
last-or path choice p true within = refl
last-or path choice p false within =
    elim (cases_lt 0 choice.depth) [
      | inl deep ↦
          let none : is_among (take (choice.depth - 1) path) p ≡ false = elim (cases_Bool (is_among (take (choice.depth - 1) path) p)) [
            | inl there ↦ absurd (both_ways _ refl (within (is_among-take (choice.depth - 1) p path there)))
            | inr not ↦ not
          ] in
          let last : has_last choice p ≡ eqb choice.last p =
          rw (ne_eqb choice.depth 0 (λ e. omega arith)) refl in
          last ∙ or_false (eqb choice.last p)
          ∙ ap (λ b. b || (eqb choice.last p || false)) (sym none)
          ∙ sym (is_among-append (take (choice.depth - 1) path) (choice.last ∷ []) p)
          ∙ ap (λ set. is_among set p) (sym (next_path-deep path choice deep))
      | inr root ↦
          let none : choice.depth ≡ 0 = omega arith in
          let last : has_last choice p ≡ false = rw (eq-eqb choice.depth 0 none) refl in
          last ∙ ap (λ set. is_among set p) (sym (next_path-root path choice none))
    ]

pub possible-next : (choices : List Choice) (i : ℕ) (item : Choice) (possible next : List ℕ) → slice_get choices i ≡ Some item → item.live ≡ true → ArePossible (lines_in (take i choices)) possible → ((p : ℕ) → is_among (path_after [] (take i choices)) p ≡ true → is_among possible p ≡ true) → ((p : ℕ) → is_among next p ≡ (is_among possible p || has_last item p)) → ArePossible (lines_in (take (i + 1) choices)) next × ((p : ℕ) → is_among (path_after [] (take (i + 1) choices)) p ≡ true → is_among next p ≡ true)
possible-next choices i item possible next at live are within joined =
    let path : List ℕ = path_after [] (take i choices) in
    let new : List ℕ = next_path path item in
    let both : (p : ℕ) → is_among next p ≡ (is_among possible p || is_among new p) = λ p. joined p ∙ last-or path item p (is_among possible p) (within p) in (
      subst (λ lines. ArePossible lines next) (sym (lines_at-live choices i item at live))
          (possible_more (lines_in (take i choices)) (allowed new item.extra) possible next are both),
      λ p h. both p ∙ ap (λ b. is_among possible p || b) (ap (λ set. is_among set p) (sym (path_at choices i item at)) ∙ h) ∙ or_true (is_among possible p),
    )
  where
    or_true : (b : Bool) → (b || true) ≡ true
    or_true true = refl
    or_true false = refl

-- the first of the lines is the empty one, so they have no pairing in common
pub nothing-certain : (scale : ℕ) (all entries : List Entry) (p : ℕ) → slice_get (sets_of entries) 0 ≡ Some []
    → list_all (λ line. is_among line.set p) (map (allowed_in scale all) entries) ≡ false
nothing-certain scale all [] p first = absurd (none-some _ first)
nothing-certain scale all (entry ∷ entries) p first =
    ap (λ set. is_among set p && list_all (λ line. is_among line.set p) (map (allowed_in scale all) entries))
    (same_Some entry.set [] first)
