-- What a roster comes to for one person.
use Rattle.std.specs.Prelude.{◌≡◌, ℕ, List}
use Rattle.roster_model.specs.Costs.{cost_of}
use Rattle.roster_model.specs.Places.{set_of}
use Rattle.roster_model.specs.Problem.{Problem}
use Rattle.roster_model.specs.Rules.{Holds, Rule}
use Rattle.roster_legal_reasons.specs.Reasons.{IsReason}
use Rattle.roster_desk_given.specs.declared.outcome.Outcome.{Outcome}
use Rattle.roster_desk_given.specs.declared.outcome.Outcome.TheVariants.{Broken, Costs}

-- the person breaks a rule, and this breaks the first one first; or keeps every rule, and the roster costs
-- what is told
abbrev pub IsOutcome : Problem → List ℕ → ℕ → Outcome → Type 0
IsOutcome problem places k (Broken reason) = IsReason problem k (set_of k places) reason
IsOutcome problem places k (Costs cost) =
    ((rule : Rule) → Holds problem k (set_of k places) rule) × (cost ≡ cost_of problem places)
