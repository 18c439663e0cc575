use Rattle.std.proofs.Common.{◌≡◌, ℕ, ◌-◌, ◌<◌, true, Some}
use Rattle.std.specs.Prelude.{slice_get}
use Rattle.roster_model.specs.declared.limits.TheConstants.{MOST_PAIRINGS}
use Rattle.roster_model.specs.records.Pairing.{Pairing}
use Rattle.roster_model.specs.Rules.{is_among}
use Rattle.roster_legal_reasons.proofs.rules.base.first_off_base.Given as goal

-- the pairings so far have the base
abbrev pub invariant-loop-p : goal.invariant-loop-p
invariant-loop-p l =
    (q : ℕ) (pairing : Pairing) → q < l.from → is_among l.set q ≡ true → slice_get l.problem.pairings q ≡ Some pairing → pairing.base ≡ l.base

abbrev pub decreases-loop-p : goal.decreases-loop-p
decreases-loop-p l = MOST_PAIRINGS - l.from
