-- When a pairing begins and ends, and since when no recurrent rest lies before its end.
use Rattle.std.specs.Prelude.{◌≡◌, ℕ, ◌+◌, ◌-◌, ◌<◌, ◌≤◌, ◌↔◌, if◌then◌else◌, IsTrue, List, length, Some, filter, slice_get}
use Rattle.roster_model.specs.declared.limits.TheConstants.{LAST_INSTANT}
use Rattle.roster_model.specs.declared.profile.TheConstants.{RECURRENT_REST}
use Rattle.roster_model.specs.Problem.{Problem, home_of}
use Rattle.roster_model.specs.records.Duty.{Duty}
use Rattle.roster_model.specs.Rules.{duty_list}
use Rattle.roster_problem.specs.Duties.{is_of_pairing}
use Rattle.roster_plan_bound.specs.declared.span.Span.{Span}
use Rattle.roster_plan_bound.specs.Unrested.{IsUnrested}

-- a duty reports after another one's release, but before a recurrent rest is over
abbrev pub GoesOn : ℕ → ℕ → Type 0
GoesOn release report = (release ≤ report) × (report < release + RECURRENT_REST)

-- so does each duty of the list after the one before it
abbrev pub IsSolid : List Duty → Type 0
IsSolid list =
    (i : ℕ) (a b : Duty) → slice_get list i ≡ Some a → slice_get list (i + 1) ≡ Some b
    → GoesOn a.release b.report

-- the duties of the pairing at place p, in their order in time
abbrev pub own_duties : Problem → ℕ → List Duty
own_duties problem p = filter (is_of_pairing p) problem.duties

-- it is the last duty of the pairing at place p
abbrev pub IsLastDuty : Problem → ℕ → Duty → Type 0
IsLastDuty problem p duty =
    slice_get (own_duties problem p) (length (own_duties problem p) - 1) ≡ Some duty

-- The span of the pairing at place p. No recurrent rest lies between `begin` and the release, since either no
-- two neighbours of its duties have room for one, or it is the report of the last duty.
pub record IsSpan (problem : Problem) (p : ℕ) (span : Span) : Type 0 where
  pub first : Duty
  pub last : Duty
  pub begins : slice_get (own_duties problem p) 0 ≡ Some first
  pub ends : IsLastDuty problem p last
  pub report : span.report ≡ first.report
  pub release : span.release ≡ last.release
  pub solid : IsTrue span.solid ↔ IsSolid (own_duties problem p)
  pub begin : span.begin ≡ (if span.solid then first.report else last.report)
  pub early : span.release ≤ LAST_INSTANT

-- On the list of person k with the set no recurrent rest lies between a duty that reports at `begin` and the
-- last one of the pairing at place p.
pub record IsBegun (problem : Problem) (k : ℕ) (set : List ℕ) (p begin : ℕ) : Type 0 where
  pub last : Duty
  pub ends : IsLastDuty problem p last
  pub unrested : IsUnrested (home_of problem k).days (duty_list problem k set) begin last
