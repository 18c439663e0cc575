-- What is told of a limit, and what a limit says.
use Rattle.std.proofs.Common.{◌≡◌, ℕ, List, Option, Some, None, subst}
use Rattle.std.specs.Prelude.{MatchOption}
use Rattle.roster_model.specs.Calendar.{Days}
use Rattle.roster_model.specs.Problem.{Problem, home_of, year_of, eleven_of}
use Rattle.roster_model.specs.records.Duty.{Duty}
use Rattle.roster_model.specs.Rules.{Limit, Duty7, Duty14, Duty28, Flight28, FlightYear, Flight12, LimitRule, duty_list, Holds, HoldsLimit}
use Rattle.roster_legal_reasons.specs.Bounds.{bound_of, KeepsBound}
use Rattle.roster_legal_reasons.specs.Reasons.{IsReasonOn}
use Rattle.roster_legal_reasons.specs.declared.rules.Reason.{Reason}

-- a limit is what it looks at
HoldsLimit-from_bound : (days : Days) (list : List Duty) (year eleven : ℕ) (limit : Limit)
    → KeepsBound days list (bound_of year eleven limit) → HoldsLimit days list year eleven limit
HoldsLimit-from_bound days list year eleven Duty7 keeps = keeps
HoldsLimit-from_bound days list year eleven Duty14 keeps = keeps
HoldsLimit-from_bound days list year eleven Duty28 keeps = keeps
HoldsLimit-from_bound days list year eleven Flight28 keeps = keeps
HoldsLimit-from_bound days list year eleven FlightYear keeps = keeps
HoldsLimit-from_bound days list year eleven Flight12 keeps = keeps

-- so what is told of the one is told of the other
pub limit_told : (problem : Problem) (k : ℕ) (set : List ℕ) (list : List Duty) (limit : Limit) (told : Option Reason) → list ≡ duty_list problem k set → MatchOption told (KeepsBound (home_of problem k).days list (bound_of (year_of problem k) (eleven_of problem k) limit)) (λ reason. (any : List ℕ) → IsReasonOn problem k any list (LimitRule limit) reason) → MatchOption told (Holds problem k set (LimitRule limit)) (IsReasonOn problem k set list (LimitRule limit))
limit_told problem k set list limit None same keeps =
    subst (λ (l : List Duty). HoldsLimit (home_of problem k).days l (year_of problem k) (eleven_of problem k) limit) same
    (HoldsLimit-from_bound (home_of problem k).days list (year_of problem k) (eleven_of problem k) limit keeps)
limit_told problem k set list limit (Some reason) same told = told set
