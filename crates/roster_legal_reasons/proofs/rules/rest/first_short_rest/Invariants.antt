use Rattle.std.proofs.Common.{◌≡◌, ℕ, ◌+◌, ◌<◌, ◌||◌, true, Some}
use Rattle.std.specs.Prelude.{slice_get}
use Rattle.roster_model.specs.records.Duty.{Duty}
use Rattle.roster_model.specs.Rules.Rest.{is_of_pairing, IsRested}
use Rattle.roster_legal_reasons.proofs.rules.rest.first_short_rest.Given as goal

-- the neighbours so far keep their rest
abbrev pub invariant-loop-i : goal.invariant-loop-i
invariant-loop-i l =
    (j : ℕ) (a b : Duty) → j + 1 < l.i → slice_get l.list j ≡ Some a → slice_get l.list (j + 1) ≡ Some b
    → (is_of_pairing a.holder || is_of_pairing b.holder) ≡ true → IsRested l.home a b
