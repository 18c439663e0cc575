-- The lines of a roster.
use Rattle.std.proofs.Common.{ℕ, ◌<◌, List, length, subst}
use Rattle.std.specs.Prelude.{All}
use Rattle.roster_model.specs.Lines.{IsLine}
use Rattle.roster_model.specs.Places.{set_of}
use Rattle.roster_model.specs.Problem.{Problem}
use Rattle.roster_model.specs.Rosters.{IsLegalRoster}
use Rattle.roster_model.proofs.SetLemmas.{Ascends-set_of, places_of_number, rising_from_Ascends}

-- what a legal roster gives a person is a line
pub given_line : (problem : Problem) (k : ℕ) (places : List ℕ) → IsLegalRoster problem places
    → k < length problem.persons → IsLine problem k (set_of k places)
given_line problem k places legal person = record {
  ascending = rising_from_Ascends (set_of k places) (Ascends-set_of k places);
  places = subst (λ n. All (λ p. p < n) (set_of k places)) legal.covers (places_of_number k places);
  legal = legal.legal k person;
}
