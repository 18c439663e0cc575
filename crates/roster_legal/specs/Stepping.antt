-- Legal sets that are made longer by one pairing after another.
use Rattle.std.specs.Prelude.{◌≡◌, ℕ, ◌<◌, ◌≤◌, ◌++◌, ◌∷◌, [], true, List, Some, filter, length, map, slice_get, All}
use Rattle.std.specs.List.Sorted.{IsStrictlyIncreasing}
use Rattle.roster_model.specs.declared.limits.TheConstants.{MOST_PAIRINGS}
use Rattle.roster_model.specs.Problem.{Problem, home_of, year_of, eleven_of}
use Rattle.roster_model.specs.Rules.{duty_list, is_among, is_listed, Holds, IsLegal, rank_of, RecoveryRule, Rule}
use Rattle.roster_problem.specs.Duties.{AreTimed, IsInOrder, is_of_pairing, passes_at}
use Rattle.roster_restrules.specs.Busy.{AreBusyDays}
use Rattle.roster_restrules.specs.Times.{Timed}
use Rattle.roster_cumulative.specs.Judged.{judged_sums, load_of, room_of}
use Rattle.roster_legal.specs.declared.loads.Load.{Load}

-- a person of a problem, and the pairings whose loads are known
pub record Loaded : Type 0 where
  pub problem : Problem
  pub person : ℕ
  pub among : List ℕ

-- what pairing p takes of the judged sums of person k
abbrev pub IsLoadOf : Problem → ℕ → ℕ → List ℕ → Type 0
IsLoadOf problem k p minutes =
    minutes ≡ map (load_of (home_of problem k).days (filter (is_of_pairing p) problem.duties)) (judged_sums (home_of problem k).days)

-- and the days of the month that it makes busy
pub record IsLoad (problem : Problem) (k p : ℕ) (load : Load) : Type 0 where
  pub minutes : IsLoadOf problem k p load.minutes.items
  pub busy : AreBusyDays (home_of problem k).days (filter (is_of_pairing p) problem.duties) load.busy

-- what each of these pairings takes; of others nothing is said
pub record AreLoads (loaded : Loaded) (loads : List Load) : Type 0 where
  pub covers : length loads ≡ length loaded.problem.pairings
  pub each : (p : ℕ) (load : Load) → slice_get loads p ≡ Some load → is_among loaded.among p ≡ true
      → IsLoad loaded.problem loaded.person p load

-- the person is one of a problem's, whose duties are in order
pub record IsPlaced (loaded : Loaded) : Type 0 where
  pub person : loaded.person < length loaded.problem.persons
  pub few : length loaded.problem.pairings ≤ MOST_PAIRINGS
  pub ordered : IsInOrder loaded.problem.duties
  pub timed : AreTimed loaded.problem.duties

-- what is known of them, and of the pairings
pub record IsLoaded (loaded : Loaded) (times : Timed) (items : List Load) : Type 0 where
  pub placed : IsPlaced loaded
  pub days : times.days ≡ (home_of loaded.problem loaded.person).days
  pub duties : times.duties ≡ loaded.problem.duties
  pub loads : AreLoads loaded items

-- a set of the person
pub record Stepped : Type 0 where
  pub loads : Loaded
  pub set : List ℕ

-- the positions are those of the person's duties with the set
pub record AreDutiesOf (problem : Problem) (k : ℕ) (set positions : List ℕ) : Type 0 where
  pub rising : IsStrictlyIncreasing positions
  pub members : (i : ℕ)
      → is_among positions i ≡ passes_at (λ duty. is_listed k set duty.holder) problem.duties i

-- what they leave of the judged sums
abbrev pub AreRoomsOf : Problem → ℕ → List ℕ → List ℕ → Type 0
AreRoomsOf problem k set rooms =
    rooms ≡ map (room_of (home_of problem k).days (duty_list problem k set) (year_of problem k) (eleven_of problem k)) (judged_sums (home_of problem k).days)

-- the days of the month that they make busy
abbrev pub AreBusyDaysOf : Problem → ℕ → List ℕ → ℕ → Type 0
AreBusyDaysOf problem k set word = AreBusyDays (home_of problem k).days (duty_list problem k set) word

-- what is known of a legal set
pub record IsStepped (loaded : Loaded) (set : List ℕ) (pairings : ℕ) (positions left : List ℕ)
    (word : ℕ) : Type 0 where
  pub ascending : IsStrictlyIncreasing set
  pub legal : IsLegal loaded.problem loaded.person set
  pub depth : pairings ≡ length set
  pub duties : AreDutiesOf loaded.problem loaded.person set positions
  pub rooms : AreRoomsOf loaded.problem loaded.person set left
  pub busy : AreBusyDaysOf loaded.problem loaded.person set word

-- The pairing comes behind those of the set, and is known to be legal alone and with each of them.
pub record IsNext (stepped : Stepped) (p : ℕ) : Type 0 where
  pub place : p < length stepped.loads.problem.pairings
  pub alone : is_among stepped.loads.among p ≡ true
  pub behind : All (λ q. q < p) stepped.set
  pub single : IsLegal stepped.loads.problem stepped.loads.person (p ∷ [])
  pub pairs : (q : ℕ) → is_among stepped.set q ≡ true
      → IsLegal stepped.loads.problem stepped.loads.person (q ∷ p ∷ [])

-- the set with the pairing behind
abbrev pub with_next : Stepped → ℕ → Stepped
with_next stepped p = record { loads = stepped.loads; set = stepped.set ++ p ∷ [] }

abbrev pub IsLegalNext : Stepped → ℕ → Type 0
IsLegalNext stepped p = IsLegal stepped.loads.problem stepped.loads.person (stepped.set ++ p ∷ [])

-- The rules behind Recovery, which count days or minutes, hold of person k with the set.
abbrev pub HoldCounted : Problem → ℕ → List ℕ → Type 0
HoldCounted problem k set = (rule : Rule) → rank_of RecoveryRule < rank_of rule → Holds problem k set rule
