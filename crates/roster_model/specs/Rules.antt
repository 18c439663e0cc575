-- Which sets of pairings are legal for a person. A set is the ascending list of the places of its
-- pairings. Each rule stands in a file of its own, and the limits in one.
pub mod Base
pub mod Overlap
pub mod Leave
pub mod Rest
pub mod Recovery
pub mod Limits
pub mod DaysOff
use Rattle.std.specs.Prelude.{◌≡◌, ◌+◌, ◌<◌, ◌⊎◌, ℕ, Bool, ◌==◌, List, [], ◌∷◌, ◌++◌, length, map, option_map, Option, Some, None, slice_get, codes}
use Rattle.std.specs.List.{filter, list_any}
use Rattle.roster_model.specs.records.Duty.{Duty, Holder, OfPairing, OfPerson}
use Rattle.roster_model.specs.Calendar.{Days}
use Rattle.roster_model.specs.Problem.{Problem, home_of, leaves_of, year_of, eleven_of}
use Rattle.roster_model.specs.Rules.Base.{KeepsBase}
use Rattle.roster_model.specs.Rules.Overlap.{NoOverlap}
use Rattle.roster_model.specs.Rules.Leave.{KeepsLeave}
use Rattle.roster_model.specs.Rules.Rest.{KeepsRest}
use Rattle.roster_model.specs.Rules.Recovery.{KeepsRecovery}
use Rattle.roster_model.specs.Rules.Limits.{KeepsDuty7, KeepsDuty14, KeepsDuty28, KeepsFlight28, KeepsFlightYear, KeepsFlight12}
use Rattle.roster_model.specs.Rules.DaysOff.{KeepsDaysOff}

-- whether the pairing at place p is in the set
abbrev pub is_among : List ℕ → ℕ → Bool
is_among set p = list_any (λ q. q == p) set

-- whether a duty of this holder is on the list of person k with this set
abbrev pub is_listed : ℕ → List ℕ → Holder → Bool
is_listed k set (OfPairing p) = is_among set p
is_listed k set (OfPerson j) = j == k

-- The duty list of person k with a set: the fixed duties of k and the duties of the pairings in the
-- set, by report, release and row.
abbrev pub duty_list : Problem → ℕ → List ℕ → List Duty
duty_list problem k set = filter (λ duty. is_listed k set duty.holder) problem.duties

-- the limits of duty and flight, in the order in which they are judged
pub data Limit : Type 0 where
  Duty7 : Limit
  Duty14 : Limit
  Duty28 : Limit
  Flight28 : Limit
  FlightYear : Limit
  Flight12 : Limit

-- the rules, in the order in which they are judged
pub data Rule : Type 0 where
  BaseRule : Rule
  OverlapRule : Rule
  LeaveRule : Rule
  RestRule : Rule
  RecoveryRule : Rule
  LimitRule : Limit → Rule
  DaysOffRule : Rule

-- how many limits are judged before it
abbrev pub rank_of_limit : Limit → ℕ
rank_of_limit Duty7 = 0
rank_of_limit Duty14 = 1
rank_of_limit Duty28 = 2
rank_of_limit Flight28 = 3
rank_of_limit FlightYear = 4
rank_of_limit Flight12 = 5

-- all limits, in the order in which they are judged
abbrev pub limits_by_rank : List Limit
limits_by_rank = Duty7 ∷ Duty14 ∷ Duty28 ∷ Flight28 ∷ FlightYear ∷ Flight12 ∷ []

-- how many rules are judged before it
abbrev pub rank_of : Rule → ℕ
rank_of BaseRule = 0
rank_of OverlapRule = 1
rank_of LeaveRule = 2
rank_of RestRule = 3
rank_of RecoveryRule = 4
rank_of (LimitRule limit) = 5 + rank_of_limit limit
rank_of DaysOffRule = 11

-- all rules, in the order in which they are judged
abbrev pub by_rank : List Rule
by_rank =
    BaseRule ∷ OverlapRule ∷ LeaveRule ∷ RestRule ∷ RecoveryRule ∷ map LimitRule limits_by_rank
    ++ DaysOffRule ∷ []

-- The names of all that is ranked, in the order in which they are judged.
abbrev pub AreByRank : {X : Type 0} → {R : Type 0} → List R → (X → R) → List X → Type 0
AreByRank ranked seen names = map seen names ≡ ranked

-- the word that tells it
abbrev pub word_of_limit : Limit → List ℕ
word_of_limit Duty7 = codes "DUTY7"
word_of_limit Duty14 = codes "DUTY14"
word_of_limit Duty28 = codes "DUTY28"
word_of_limit Flight28 = codes "FLIGHT28"
word_of_limit FlightYear = codes "FLIGHTYEAR"
word_of_limit Flight12 = codes "FLIGHT12"

abbrev pub word_of_rule : Rule → List ℕ
word_of_rule BaseRule = codes "BASE"
word_of_rule OverlapRule = codes "OVERLAP"
word_of_rule LeaveRule = codes "LEAVE"
word_of_rule RestRule = codes "REST"
word_of_rule RecoveryRule = codes "RECOVERY"
word_of_rule (LimitRule limit) = word_of_limit limit
word_of_rule DaysOffRule = codes "DAYS2"

-- What a limit says of a duty list, if so much was flown before the month, in its calendar year and
-- in the eleven months before it.
abbrev pub HoldsLimit : Days → List Duty → ℕ → ℕ → Limit → Type 0
HoldsLimit days list year eleven Duty7 = KeepsDuty7 days list
HoldsLimit days list year eleven Duty14 = KeepsDuty14 days list
HoldsLimit days list year eleven Duty28 = KeepsDuty28 days list
HoldsLimit days list year eleven Flight28 = KeepsFlight28 days list
HoldsLimit days list year eleven FlightYear = KeepsFlightYear days list year
HoldsLimit days list year eleven Flight12 = KeepsFlight12 days list eleven

-- what the rule says of person k with the set
abbrev pub Holds : Problem → ℕ → List ℕ → Rule → Type 0
Holds problem k set BaseRule = KeepsBase problem k set
Holds problem k set OverlapRule = NoOverlap (duty_list problem k set)
Holds problem k set LeaveRule = KeepsLeave (leaves_of problem k) (duty_list problem k set)
Holds problem k set RestRule = KeepsRest (home_of problem k) (duty_list problem k set)
Holds problem k set RecoveryRule = KeepsRecovery (home_of problem k).days (duty_list problem k set)
Holds problem k set (LimitRule limit) =
    HoldsLimit (home_of problem k).days (duty_list problem k set) (year_of problem k)
    (eleven_of problem k) limit
Holds problem k set DaysOffRule = KeepsDaysOff (home_of problem k).days (duty_list problem k set)

-- A set is legal for a person if it is empty or no rule is broken.
abbrev pub IsLegal : Problem → ℕ → List ℕ → Type 0
IsLegal problem k set = (set ≡ []) ⊎ ((rule : Rule) → Holds problem k set rule)

-- The first of what is ranked that doesn't hold, if there is one, where each says something: those before
-- it hold. Rules are facts, so this is a relation.
abbrev pub IsFirstFailing : {R : Type 0} → (R → ℕ) → (R → Type 0) → Option R → Type 0
IsFirstFailing {R} rank Says None = (rule : R) → Says rule
IsFirstFailing {R} rank Says (Some broken) =
    (¬ Says broken) × ((rule : R) → rank rule < rank broken → Says rule)

-- the first rule that person k breaks with the set, if there is one
abbrev pub IsFirstBroken : Problem → ℕ → List ℕ → Option Rule → Type 0
IsFirstBroken problem k set broken = IsFirstFailing rank_of (Holds problem k set) broken

-- the first limit that a duty list breaks, if there is one, as a rule
pub record IsFirstLimit (days : Days) (list : List Duty) (year eleven : ℕ)
    (broken : Option Rule) : Type 0 where
  pub limit : Option Limit
  pub rule : broken ≡ option_map LimitRule limit
  pub first : IsFirstFailing rank_of_limit (HoldsLimit days list year eleven) limit

-- What is said of person k with the set: nothing if the set is legal, and else the first rule that is
-- broken.
abbrev pub IsVerdict : Problem → ℕ → List ℕ → Option Rule → Type 0
IsVerdict problem k [] verdict = verdict ≡ None
IsVerdict problem k (p ∷ set) verdict = IsFirstBroken problem k (p ∷ set) verdict

-- What locks person k: the first rule that is broken without any pairing. A locked person can only be
-- left without pairings.
abbrev pub IsLock : Problem → ℕ → Option Rule → Type 0
IsLock problem k lock = IsFirstBroken problem k [] lock

-- for each person, in book order, a rule or none, of which this is said
pub record AreOfEach (Says : ℕ → Option Rule → Type 0) (problem : Problem)
    (rules : List (Option Rule)) : Type 0 where
  pub covers : length rules ≡ length problem.persons
  pub each : (k : ℕ) (rule : Option Rule) → slice_get rules k ≡ Some rule → Says k rule

-- what locks each person
abbrev pub AreLocks : Problem → List (Option Rule) → Type 0
AreLocks problem locks = AreOfEach (IsLock problem) problem locks
