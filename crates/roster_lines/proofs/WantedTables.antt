-- Tables of the lines that are wanted, one person after another.
use Rattle.std.proofs.Common.{◌≡◌, ℕ, List, [], ◌∷◌, ◌++◌, length, Some, sym, subst, ◌∙◌}
use Rattle.std.specs.Prelude.{slice_get}
use Rattle.std.proofs.lemmas.Option.{same_Some}
use Rattle.roster_model.specs.Problem.{Problem}
use Rattle.roster_model.proofs.PushLemmas.{each-push}
use Rattle.roster_lines_table.specs.Entries.{Entry, sets_of}
use Rattle.roster_lines_table.specs.Person.{AreListedOf}
use Rattle.roster_lines.specs.SomeLines.{AreWantedLines}
use Rattle.roster_lines.specs.WantedTables.{AreAllWanted, AreListedSoFar}

-- with lines of one person more
pub AreListedSoFar-push : (problem : Problem) (table : List (List Entry)) (lines : List Entry)
    → AreListedSoFar problem table → AreListedOf problem (length table) lines
    → AreListedSoFar problem (table ++ lines ∷ [])
AreListedSoFar-push problem table lines each here = each-push (AreListedOf problem) table lines each here

-- if they are those that are wanted
pub AreAllWanted-push : {X : Type 0} (wants : X → Problem → ℕ → List ℕ → Type 0) (problem : Problem) (wanted : List X) (table : List (List Entry)) (lines : List Entry) (x : X) → AreAllWanted wants problem wanted table → slice_get wanted (length table) ≡ Some x → AreWantedLines problem (length table) (wants x problem (length table)) (sets_of lines) → AreAllWanted wants problem wanted (table ++ lines ∷ [])
AreAllWanted-push {X} wants problem wanted table lines x all at here = record {
  each = λ k some y there mine.
      each-push (λ k some. (y : X) → slice_get wanted k ≡ Some y → AreWantedLines problem k (wants y problem k) (sets_of some)) table lines
      (λ k some there y mine. all.each k some y there mine)
      (λ y mine. subst (λ z. AreWantedLines problem (length table) (wants z problem (length table)) (sets_of lines)) (same_Some _ _ (sym at ∙ mine)) here)
      k some there y mine;
}
