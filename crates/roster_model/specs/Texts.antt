-- The lines that the program writes. Each ends with a line feed; words are parted by one space.
use Rattle.std.specs.Prelude.{◌≡◌, ℕ, ◌/◌, ◌%◌, List, [], ◌∷◌, ◌++◌, Option, Some, None, map, slice_get, unwrap_or, codes, ℤ}
use Rattle.std.specs.List.{flat_map, join_with_byte, enumerate_from}
use Rattle.std.specs.Fmt.{decimal, signed_decimal}
use Rattle.roster_model.specs.declared.profile.TheConstants.{SHORT_RUN, MIDDLE_RUN, LONG_RUN}
use Rattle.roster_model.specs.Calendar.{Days, Period}
use Rattle.roster_model.specs.records.Crew.{Person}
use Rattle.roster_model.specs.records.Duty.{Duty}
use Rattle.roster_model.specs.Problem.{Problem, home_of, pairing_name}
use Rattle.roster_model.specs.Faults.{Fault}
use Rattle.roster_model.specs.Rules.{Rule, AreLocks, duty_list, word_of_rule}
use Rattle.roster_model.specs.Places.{set_of, open_number}
use Rattle.roster_model.specs.Costs.{cost_of}
use Rattle.roster_model.specs.Rosters.{AreVerdicts}
use Rattle.roster_model.specs.Sums.{greatest_duty, greatest_flight, month_flight}

abbrev pub line_of : List (List ℕ) → List ℕ
line_of words = join_with_byte 32 words ++ 10 ∷ []

-- `YYYY-MM`
abbrev pub period_text : Period → List ℕ
period_text period =
    decimal period.year ++ codes "-" ++ decimal (period.month / 10) ++ decimal (period.month % 10)

-- the names of the pairings in a set, or a dash
abbrev pub names_of : Problem → List ℕ → List (List ℕ)
names_of problem [] = codes "-" ∷ []
names_of problem (p ∷ set) = pairing_name problem p ∷ map (pairing_name problem) set

-- The numbers of a person's line, in minutes: the month's flight, the greatest duty of a judged short,
-- middle and long run of days, and the greatest flight of a long one.
abbrev pub numbers_of : Days → List Duty → List ℕ
numbers_of days list =
    month_flight days list ∷ greatest_duty days list SHORT_RUN ∷ greatest_duty days list MIDDLE_RUN
    ∷ greatest_duty days list LONG_RUN ∷ greatest_flight days list LONG_RUN ∷ []

-- the line of the person at place k, with their set
unfoldable pub crew_line : Problem → List ℕ → ℕ → Person → List ℕ
crew_line problem set k person =
    line_of (codes "CREW" ∷ person.id
    ∷ (map decimal (numbers_of (home_of problem k).days (duty_list problem k set)) ++ names_of problem set))

-- the line of the rule that locks a person, and of a person who isn't locked none
abbrev pub lock_line : Person → Option Rule → List ℕ
lock_line person None = []
lock_line person (Some rule) = line_of (codes "LOCKED" ∷ person.id ∷ word_of_rule rule ∷ [])

-- the rule that a list tells of the person at place k, if it tells one
abbrev pub rule_at : List (Option Rule) → ℕ → Option Rule
rule_at rules k = unwrap_or (slice_get rules k) None

-- a line for each person, and behind that of a locked one a line that says so
abbrev pub person_lines : (ℕ → Person → List ℕ) → Problem → List (Option Rule) → List ℕ
person_lines line problem locks =
    flat_map (λ (entry : ℕ × Person). line entry.0 entry.1 ++ lock_line entry.1 (rule_at locks entry.0))
    (enumerate_from 0 problem.persons)

-- the line of the month, behind the word that tells the report, and the line of a roster's cost
abbrev pub heading : List ℕ → Problem → List ℕ → List ℕ
heading word problem places =
    line_of (word ∷ period_text problem.period ∷ [])
    ++ line_of (codes "COST" ∷ signed_decimal (cost_of problem places) ∷ [])

-- ---- the report of a roster

-- the lines of all persons, each with what locks them and with their set of a roster
unfoldable pub crew_lines : Problem → List (Option Rule) → List ℕ → List ℕ
crew_lines problem locks places =
    person_lines (λ k person. crew_line problem (set_of k places) k person) problem locks

-- who flies what: the lines of all persons, and the line of the pairings that are left open
abbrev pub roster_lines : Problem → List (Option Rule) → List ℕ → List ℕ
roster_lines problem locks places =
    crew_lines problem locks places
    ++ line_of (codes "OPEN" ∷ names_of problem (set_of (open_number problem) places))

-- the report of a roster, with what locks each person
unfoldable pub report_text : Problem → List (Option Rule) → List ℕ → List ℕ
report_text problem locks places =
    heading (codes "ROSTER") problem places ++ roster_lines problem locks places

-- the text is the report of the roster, with what locks each person
pub record IsReportOf (problem : Problem) (places : List ℕ) (text : List ℕ) : Type 0 where
  pub locks : List (Option Rule)
  pub locked : AreLocks problem locks
  pub written : text ≡ report_text problem locks places

-- ---- a plan

-- A roster that needn't be the best, with a number that no roster costs less than: the lines of a report,
-- and the bound behind the cost.
unfoldable pub plan_text : Problem → ℤ → List (Option Rule) → List ℕ → List ℕ
plan_text problem bound locks places =
    heading (codes "PLAN") problem places
    ++ line_of (codes "BOUND" ∷ signed_decimal bound ∷ [])
    ++ roster_lines problem locks places

-- the text is the plan of the roster and the bound, with what locks each person
pub record IsPlanOf (problem : Problem) (bound : ℤ) (places : List ℕ) (text : List ℕ) : Type 0 where
  pub locks : List (Option Rule)
  pub locked : AreLocks problem locks
  pub written : text ≡ plan_text problem bound locks places

-- ---- what a check says of a roster

-- the word of the rule that a person breaks, and of one who breaks none
abbrev pub verdict_word : Option Rule → List ℕ
verdict_word None = codes "OK"
verdict_word (Some rule) = word_of_rule rule

-- the line of a person
abbrev pub verdict_line : Person → Option Rule → List ℕ
verdict_line person verdict = line_of (codes "CREW" ∷ person.id ∷ verdict_word verdict ∷ [])

-- the lines of all persons, each with what locks them and with what they break
unfoldable pub verdict_lines : Problem → List (Option Rule) → List (Option Rule) → List ℕ
verdict_lines problem locks verdicts =
    person_lines (λ k person. verdict_line person (rule_at verdicts k)) problem locks

-- what is said of a roster, with what locks each person and what their sets break
unfoldable pub check_text : Problem → List (Option Rule) → List (Option Rule) → List ℕ → List ℕ
check_text problem locks verdicts places =
    heading (codes "CHECK") problem places ++ verdict_lines problem locks verdicts

-- the text says of the roster what locks each person and what they break
pub record IsCheckOf (problem : Problem) (places : List ℕ) (text : List ℕ) : Type 0 where
  pub locks : List (Option Rule)
  pub locked : AreLocks problem locks
  pub verdicts : List (Option Rule)
  pub judged : AreVerdicts problem places verdicts
  pub written : text ≡ check_text problem locks verdicts places

-- ---- the line of a fault

unfoldable pub fault_text : Fault → List ℕ
fault_text fault = line_of (codes "FAULT" ∷ decimal fault.row ∷ decimal fault.code ∷ [])
