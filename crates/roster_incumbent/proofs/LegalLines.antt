-- A person's set is legal where it is a line of the table.
use Rattle.std.proofs.Common.{◌≡◌, ℕ, ◌<◌, List, [], length, Option, Some, None, refl, subst}
use Rattle.std.specs.Prelude.{All, ◌↔◌, IsTrue, is_some, slice_get}
use Rattle.std.proofs.lemmas.Option.{get_or_from_slice_get, none-some, slice_get_within}
use Rattle.std.proofs.lemmas.Bool.{false≢true}
use Rattle.roster_model.specs.Problem.{Problem}
use Rattle.roster_model.specs.Places.{set_of}
use Rattle.roster_model.specs.Rules.{IsLegal}
use Rattle.roster_model.specs.Lines.{IsLine}
use Rattle.roster_model.proofs.SetLemmas.{Ascends-set_of, places_of_number, rising_from_Ascends}
use Rattle.roster_lines_table.specs.Entries.{Entry, sets_of}
use Rattle.roster_lines_table.specs.Person.{lines_at, IsTableOf}
use Rattle.roster_lines_table.proofs.TableLemmas.{all_lines_in_table}

-- what a table finds
abbrev pub Finds : List (List Entry) → ℕ → List ℕ → Option ℕ → Type 0
Finds table k set found = (i : ℕ) → (found ≡ Some i) ↔ (slice_get (sets_of (lines_at table k)) i ≡ Some set)

legal_line : (problem : Problem) (k : ℕ) (places : List ℕ) → length places ≡ length problem.pairings
    → IsLegal problem k (set_of k places) → IsLine problem k (set_of k places)
legal_line problem k places covers legal = record {
  ascending = rising_from_Ascends (set_of k places) (Ascends-set_of k places);
  places = subst (λ n. All (λ p. p < n) (set_of k places)) covers (places_of_number k places);
  legal = legal;
}

pub found_is_legal : (problem : Problem) (table : List (List Entry)) (k : ℕ) (places : List ℕ) (found : Option ℕ) → IsTableOf problem table → k < length problem.persons → length places ≡ length problem.pairings → Finds table k (set_of k places) found
    → (IsTrue (is_some found) → IsLegal problem k (set_of k places)) × (IsLegal problem k (set_of k places) → IsTrue (is_some found))
found_is_legal problem table k places (Some i) is person covers finds =
    let at = (finds i).0 refl in
    let sets = sets_of (lines_at table k) in
    let line =
    subst (IsLine problem k) (get_or_from_slice_get sets i (set_of k places) [] at)
    ((all_lines_in_table problem table k is person).some.lines i [] (slice_get_within sets i (set_of k places) at)) in
    ((λ yes. line.legal), λ legal. refl)
found_is_legal problem table k places None is person covers finds = (
  (λ no. absurd (false≢true no)),
  λ legal.
      let there =
      (all_lines_in_table problem table k is person).every (set_of k places)
      (legal_line problem k places covers legal) in
      absurd (none-some there.0 ((finds there.0).1 there.1)),
)
