-- From a line to its parents.
use Rattle.std.proofs.Common.{◌≡◌, ℕ, ◌<◌, List, [], ◌∷◌, ◌++◌, length, Some, sym, ap, ◌∙◌, subst, arith}
use Rattle.std.specs.Prelude.{All, slice_get}
use Rattle.std.proofs.lemmas.List.{append_assoc}
use Rattle.std.proofs.lemmas.List.Elements.{All-head}
use Rattle.std.proofs.lemmas.Option.{slice_get_within}
use Rattle.roster_model.specs.declared.limits.TheConstants.{MOST_PAIRINGS}
use Rattle.roster_model.proofs.SetLemmas.{Ascends, Ascends-from_rising}
use Rattle.roster_values.specs.Set.{with_place}
use Rattle.roster_values.proofs.SetParts.{with_place-first}
use Rattle.roster_lines_table.specs.declared.lines.Row.{Row}
use Rattle.roster_lines_table.specs.Entries.{longer, set_at, sets_of}
use Rattle.roster_lines_table.specs.Tree.{entries_in, IsTree}
use Rattle.roster_lines_table.proofs.Fronts.{All-behind, Ascends-parts}
use Rattle.roster_lines_table.proofs.TreeLemmas.{length-entries_in, length-sets_of, set_at_later}

module _ (lines : List Row) (tree : IsTree lines) (at : ℕ) (line : Row)
    (there : slice_get lines at ≡ Some line) (later : 0 < at) where
  behind_parent : set_at (entries_in lines) at ≡ longer (entries_in lines) line.parent line.last
  behind_parent = set_at_later lines at line there later (tree.parents at line there later)

  within : (i : ℕ) → i < length lines → i < length (sets_of (entries_in lines))
  within i inside = let long = length-sets_of (entries_in lines) in let also = length-entries_in lines in omega arith

  pub last_below : line.last < MOST_PAIRINGS
  last_below =
      let places = tree.places at [] (within at (slice_get_within lines at line there)) in
      All-head (λ p. p < MOST_PAIRINGS) line.last [] (All-behind (λ p. p < MOST_PAIRINGS) (set_at (entries_in lines) line.parent) (line.last ∷ []) (subst (All (λ p. p < MOST_PAIRINGS)) behind_parent places))

  -- the last pairing of a line, put before those that are behind it
  pub walked : (i : ℕ) (set next : List ℕ) → i < length lines
      → set_at (entries_in lines) i ≡ set_at (entries_in lines) at ++ set → next ≡ with_place line.last set
      → set_at (entries_in lines) i ≡ set_at (entries_in lines) line.parent ++ next
  walked i set next inside so_far put =
      let front : List ℕ = set_at (entries_in lines) line.parent in
      let split = so_far ∙ ap (λ s. s ++ set) behind_parent ∙ append_assoc front (line.last ∷ []) set in
      let up = subst Ascends split (Ascends-from_rising _ (tree.ascending i [] (within i inside))) in
      let rest = (Ascends-parts front line.last set up).2 in
      split ∙ ap (λ s. front ++ s) (sym (put ∙ with_place-first line.last set rest.1 rest.0))
