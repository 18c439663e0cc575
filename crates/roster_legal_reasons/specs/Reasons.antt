-- Why a person mustn't have a set.
pub mod Base
pub mod Overlap
pub mod Leave
pub mod Rest
pub mod Recovery
pub mod DaysOff
use Rattle.std.specs.Prelude.{◌≡◌, ◌⊎◌, ℕ, ◌+◌, ◌≤◌, List, Some}
use Rattle.roster_model.specs.Problem.{Problem, home_of, year_of, eleven_of}
use Rattle.roster_model.specs.Rules.{duty_list, Rule, BaseRule, OverlapRule, LeaveRule, RestRule, RecoveryRule, LimitRule, DaysOffRule, IsFirstBroken}
use Rattle.roster_model.specs.records.Duty.{Duty}
use Rattle.roster_values.specs.View.{limit_of}
use Rattle.roster_legal_reasons.specs.declared.rules.Reason.{Reason}
use Rattle.roster_legal_reasons.specs.declared.rules.Reason.TheVariants as reasons
use Rattle.roster_legal_reasons.specs.Amounts.{IsOver}
use Rattle.roster_legal_reasons.specs.Reasons.Base.{IsFirstOffBase}
use Rattle.roster_legal_reasons.specs.Bounds.{bound_of}
use Rattle.roster_legal_reasons.specs.Reasons.DaysOff.{IsFewDaysOff}
use Rattle.roster_legal_reasons.specs.Reasons.Leave.{IsFirstDutyInLeave}
use Rattle.roster_legal_reasons.specs.Reasons.Overlap.{IsFirstOverlap}
use Rattle.roster_legal_reasons.specs.Reasons.Recovery.{IsFirstLongBlock}
use Rattle.roster_legal_reasons.specs.Reasons.Rest.{IsFirstShortRest}

-- the rule that the reason speaks of
abbrev pub rule_told : Reason → Rule
rule_told (reasons.Base p) = BaseRule
rule_told (reasons.Overlap shared) = OverlapRule
rule_told (reasons.Leave told) = LeaveRule
rule_told (reasons.Rest short) = RestRule
rule_told (reasons.Recovery block) = RecoveryRule
rule_told (reasons.Limit limit amount) = LimitRule (limit_of limit)
rule_told (reasons.DaysOff few) = DaysOffRule

-- What the reason tells is so of person k with the set and the duties of the list.
abbrev pub TellsOn : Problem → ℕ → List ℕ → List Duty → Reason → Type 0
TellsOn problem k set list (reasons.Base p) = IsFirstOffBase problem k set p
TellsOn problem k set list (reasons.Overlap shared) = IsFirstOverlap list shared
TellsOn problem k set list (reasons.Leave told) = IsFirstDutyInLeave problem k list told
TellsOn problem k set list (reasons.Rest short) = IsFirstShortRest (home_of problem k) list short
TellsOn problem k set list (reasons.Recovery block) = IsFirstLongBlock (home_of problem k).days list block
TellsOn problem k set list (reasons.Limit limit amount) =
    IsOver (home_of problem k).days list
    (bound_of (year_of problem k) (eleven_of problem k) (limit_of limit)) amount
TellsOn problem k set list (reasons.DaysOff few) = IsFewDaysOff (home_of problem k).days list few

-- The reason tells of the duty at place i of the list: of both that overlap, of those before and after a
-- rest, of all from the first to the last. A pairing, a run of days or days off are no single duty.
abbrev pub IsTold : Reason → ℕ → Type 0
IsTold (reasons.Base p) i = ⊥
IsTold (reasons.Overlap shared) i = (i ≡ shared.first) ⊎ (i ≡ shared.second)
IsTold (reasons.Leave told) i = i ≡ told.duty
IsTold (reasons.Rest short) i = (i ≡ short.before) ⊎ (i ≡ short.before + 1)
IsTold (reasons.Recovery block) i = (block.first ≤ i) × (i ≤ block.last)
IsTold (reasons.Limit limit amount) i = ⊥
IsTold (reasons.DaysOff few) i = ⊥

-- The reason speaks of the rule, and what it tells is so.
pub record IsReasonOn (problem : Problem) (k : ℕ) (set : List ℕ) (list : List Duty) (law : Rule)
    (reason : Reason) : Type 0 where
  pub rule : rule_told reason ≡ law
  pub tells : TellsOn problem k set list reason

-- The reason speaks of the first rule that person k breaks with the set, and what it tells is so.
pub record IsReason (problem : Problem) (k : ℕ) (set : List ℕ) (reason : Reason) : Type 0 where
  pub first : IsFirstBroken problem k set (Some (rule_told reason))
  pub tells : TellsOn problem k set (duty_list problem k set) reason
