-- The roster that leaves all open.
use Rattle.std.proofs.Common.{◌≡◌, ℕ, ◌+◌, ◌<◌, ◌≤◌, eqb, suc, zero, [], length, replicate, refl, inl, ◌∙◌, arith}
use Rattle.std.proofs.lemmas.Bool.{ne_eqb, cond-false}
use Rattle.std.proofs.lemmas.List.{length-replicate}
use Rattle.std.proofs.lemmas.List.Elements.{All-replicate}
use Rattle.roster_model.specs.Problem.{Problem}
use Rattle.roster_model.specs.Places.{places_with}
use Rattle.roster_model.specs.Rosters.{IsLegalRoster}

-- a lesser number has no place among equal ones
nowhere : (k p m n : ℕ) → k < n → places_with k p (replicate m n) ≡ []
nowhere k p zero n h = refl
nowhere k p (suc m) n h = cond-false (eqb n k) _ _ (ne_eqb n k (λ e. omega arith)) ∙ nowhere k (p + 1) m n h

-- no person is given a pairing, and the empty set is legal
pub all_open_legal : (problem : Problem)
    → IsLegalRoster problem (replicate (length problem.pairings) (length problem.persons))
all_open_legal problem =
    let count : ℕ = length problem.pairings in
    let nobody : ℕ = length problem.persons in
    record {
      covers = length-replicate count nobody;
      numbers = All-replicate (λ x. x ≤ nobody) count nobody (omega arith);
      legal = λ k person. inl (nowhere k 0 count nobody person);
    }
