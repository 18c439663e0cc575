-- Lines without their parents: what each has behind the one before it.
use Rattle.std.proofs.Common.{◌≡◌, ℕ, ◌+◌, ◌-◌, ◌<◌, ◌≤◌, true, false, List, [], ◌∷◌, ◌++◌, length, get_or, take, refl, ap, ◌∙◌, subst, inl, inr, arith}
use Rattle.std.specs.Prelude.{All}
use Rattle.std.proofs.Math.Seq.{take-append_seam, take-length}
use Rattle.std.proofs.lemmas.Bool.{cases_Bool, cases_lt, ne_eqb}
use Rattle.roster_model.specs.Lines.{AreOrdered}
use Rattle.roster_model.specs.Places.{places_le}
use Rattle.roster_model.proofs.PlacesOrder.{places_le-refl, at_most_from_before, between_marks, nothing_between}
use Rattle.roster_lines_table.specs.declared.lines.Row.{Row}
use Rattle.roster_lines_table.specs.Entries.{entry_of, set_at}
use Rattle.roster_lines_table.specs.Rows.{entries_after, set_after}

-- a row more, read from the last one before it
more_after : (set : List ℕ) (first : Row) (rows : List Row) (row : Row) → entries_after set ((first ∷ rows) ++ row ∷ []) ≡ entries_after set (first ∷ rows) ++ entry_of (set_after (set_at (entries_after set (first ∷ rows)) (length rows)) row) row.cost ∷ []
unfolding entries_after
more_after set first [] row = refl
more_after set first (next ∷ rows) row =
    ap (λ entries. entry_of (set_after set first) first.cost ∷ entries)
    (more_after (set_after set first) next rows row)

pub entries_after-push : (rows : List Row) (row : Row) → 0 < length rows → entries_after [] (rows ++ row ∷ []) ≡ entries_after [] rows ++ entry_of (set_after (set_at (entries_after [] rows) (length rows - 1)) row) row.cost ∷ []
entries_after-push [] row some = absurd (omega arith)
entries_after-push (first ∷ rows) row some =
    let last : length rows ≡ length (first ∷ rows) - 1 = omega arith in
    more_after [] first rows row
    ∙ ap (λ i. entries_after [] (first ∷ rows) ++ entry_of (set_after (set_at (entries_after [] (first ∷ rows)) i) row) row.cost ∷ []) last

-- what stands between a set and the same with one more place begins with the set
begins_between : (front xs : List ℕ) (p : ℕ) → places_le front xs ≡ true
    → places_le (front ++ p ∷ []) xs ≡ false → take (length front) xs ≡ front
begins_between front xs p on before =
    elim (cases_Bool (places_le (front ++ 0 ∷ []) xs)) [
      | inl more ↦
          let found = between_marks front 0 p xs more before in
          ap (take (length front)) found.2 ∙ take-append_seam front (found.0 ∷ found.1)
      | inr none ↦ ap (take (length front)) (nothing_between front xs on none) ∙ take-length front
    ]

-- so the last of some lines in order begins with the set of each from which a line still goes on
pub begins_last : (sets : List (List ℕ)) (parent last p : ℕ) → AreOrdered sets → parent ≤ last
    → last < length sets → All (λ set. places_le (get_or sets parent [] ++ p ∷ []) set ≡ false) sets
    → take (length (get_or sets parent [])) (get_or sets last []) ≡ get_or sets parent []
begins_last sets parent last p ordered most inside before =
    let front : List ℕ = get_or sets parent [] in
    let at_most : places_le front (get_or sets last []) ≡ true = elim (cases_lt parent last) [
      | inl less ↦ at_most_from_before front (get_or sets last []) (ordered parent last [] less inside)
      | inr here ↦
          let same : parent ≡ last = omega arith in
          subst (λ i. places_le front (get_or sets i []) ≡ true) same (places_le-refl front)
    ] in
    begins_between front (get_or sets last []) p at_most (before last [] inside)

-- a row whose depth is that of the longer set is read as that set
pub set_after-longer : (set front : List ℕ) (row : Row) → row.depth ≡ length front + 1
    → take (length front) set ≡ front → set_after set row ≡ front ++ row.last ∷ []
set_after-longer set front row deep begins =
    let above : row.depth - 1 ≡ length front = omega arith in
    rw (ne_eqb row.depth 0 (λ e. omega arith), above, begins) refl
