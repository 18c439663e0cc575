-- What is wrong with a report, line by line, and with its roster of a book. The first line that has something
-- wrong is told: of those that can't be of any report before those that aren't of the book.
use Rattle.std.specs.Prelude.{ℕ, Bool, true, false, List, [], ◌∷◌, ◌++◌, ◌+◌, ◌==◌, ◌&&◌, ◌||◌, if◌then◌else◌, not, Option, Some, None, option_map, is_some, is_none, length, codes, take, drop, nat_lt, ⊤, ◌≡◌}
use Rattle.std.specs.Borrow.{Bor}
use Rattle.std.specs.List.{list_all, list_any}
use Rattle.std.specs.Char.{is_ascii_digit}
use Rattle.std.specs.Option.{option_or}
use Rattle.std.specs.Str.{bytes_eq}
use Rattle.roster_model.specs.Calendar.{Period, period_of}
use Rattle.roster_model.specs.Form.{is_identifier}
use Rattle.roster_model.specs.Problem.{Problem}
use Rattle.roster_model.specs.Record.{place_named}
use Rattle.roster_model.specs.declared.limits.TheConstants.{MOST_PAIRINGS}
use Rattle.roster_desk_reports.specs.Text.{Given, is_crew, lines_of, names_of, numbered_by_text, text_of, texts, word_at, words_of}
use Rattle.roster_desk_reports.specs.declared.report.CrewLine.{CrewLine}
use Rattle.roster_desk_reports.specs.declared.fault.ReportFault.{ReportFault}
use Rattle.roster_desk_reports.specs.declared.fault.ReportFault.TheVariants.{At, Memory}
use Rattle.roster_desk_reports.specs.declared.fault.Wrong.{Wrong}
use Rattle.roster_desk_reports.specs.declared.fault.Wrong.TheVariants.{NoReport, OtherMonth, UnknownLine, CrewForm, TooMany, GivenTwice, UnknownPerson, UnknownPairing}

-- The number of a line, from 1, and what is wrong with it.
abbrev pub Told : Type 0
Told = ℕ × Wrong

-- what is wrong with the line of this number, or else what is told of later ones
abbrev pub told_or : ℕ → Option Wrong → Option Told → Option Told
told_or number (Some wrong) later = Some (number, wrong)
told_or number None later = later

-- the fault is what is told; memory may run out wherever
abbrev pub IsTold : Option Told → ReportFault → Type 0
IsTold told (At line wrong) = told ≡ Some (line, wrong)
IsTold told Memory = ⊤

-- so it is with what is wrong with the line of this number
abbrev pub IsWrongAt : ℕ → Option Wrong → ReportFault → Type 0
IsWrongAt number told (At line wrong) = (line ≡ number) × (told ≡ Some wrong)
IsWrongAt number told Memory = ⊤

-- ---- the month

-- the month that the words of a first line give, if they are those of a report or a plan
abbrev pub month_in : List (List ℕ) → Option Period
month_in words =
    if (bytes_eq (word_at words 0) (codes "ROSTER") || bytes_eq (word_at words 0) (codes "PLAN")) && (length words == 2)
    then period_of (word_at words 1) else None

-- A month, and the number of its line.
abbrev pub Heading : Type 0
Heading = Period × ℕ

-- that of the words of this line, or else of later ones: a blank line is passed over
abbrev pub heading_at : List (List ℕ) → ℕ → Option Heading → Option Heading
heading_at [] number later = later
heading_at (word ∷ rest) number later = option_map (λ month. (month, number)) (month_in (word ∷ rest))

-- that of the lines from this number on
abbrev pub heading_from : ℕ → List (List ℕ) → Option Heading
heading_from number [] = None
heading_from number (line ∷ rest) = heading_at (words_of line) number (heading_from (number + 1) rest)

abbrev pub heading_of : List ℕ → Option Heading
heading_of text = heading_from 1 (lines_of (text_of text))

-- ---- lines that can't be of any report

abbrev pub is_blank : List (List ℕ) → Bool
is_blank words = length words == 0

-- behind the person's name are five numbers
abbrev pub has_numbers : List (List ℕ) → Bool
has_numbers words = nat_lt 7 (length words) && list_all (list_all is_ascii_digit) (take 5 (drop 2 words))

-- so it is, and the person and the pairings have names
abbrev pub is_crew_form : List (List ℕ) → Bool
is_crew_form words =
    has_numbers words && (is_identifier (word_at words 1) && list_all is_identifier (names_of (drop 7 words)))

-- what is wrong if the form isn't met
abbrev pub form_fault : Bool → Option Wrong
form_fault form = if form then None else Some CrewForm

-- the first words of lines that say nothing of who has what
abbrev pub is_known : List ℕ → Bool
is_known word =
    bytes_eq word (codes "COST") || bytes_eq word (codes "BOUND") || bytes_eq word (codes "LOCKED") || bytes_eq word (codes "OPEN")

-- how many pairings the words of a line give
abbrev pub pairings_in : List (List ℕ) → ℕ
pairings_in words = if is_crew words then length (names_of (drop 7 words)) else 0

-- what is wrong with the words of a `CREW` line, where the lines before give so many pairings
abbrev pub crew_fault : ℕ → List (List ℕ) → Option Wrong
crew_fault count words =
    option_or (form_fault (is_crew_form words))
    (if nat_lt MOST_PAIRINGS (count + pairings_in words) then Some TooMany else None)

abbrev pub other_fault : List (List ℕ) → Option Wrong
other_fault words = if is_known (word_at words 0) then None else Some UnknownLine

-- what is wrong with the words of a line that isn't blank, behind the one that gives the month or as that one
abbrev pub fault_in : Bool → ℕ → List (List ℕ) → Option Wrong
fault_in true count words = if is_crew words then crew_fault count words else other_fault words
fault_in false count words = if is_some (month_in words) then None else Some NoReport

-- so it is behind lines that gave this month, if one did, and so many pairings
abbrev pub fault_behind : Option Heading → ℕ → List (Bor (List ℕ)) → Option Wrong
fault_behind heading count words = fault_in (is_some heading) count (texts words)

abbrev pub line_fault : Bool → ℕ → List (List ℕ) → Option Wrong
line_fault begun count words = if is_blank words then None else fault_in begun count words

-- the first of the lines from this number on; no line gives a month if none is left to
abbrev pub first_fault : Bool → ℕ → ℕ → List (List ℕ) → Option Told
first_fault begun count number [] = if begun then None else Some (1, NoReport)
first_fault begun count number (line ∷ rest) =
    told_or number (line_fault begun count (words_of line))
    (first_fault (begun || not (is_blank (words_of line))) (count + pairings_in (words_of line)) (number + 1) rest)

abbrev pub fault_of_text : List ℕ → Option Told
fault_of_text text = first_fault false 0 1 (lines_of (text_of text))

-- ---- lines that aren't of the book

abbrev pub is_month_of : Problem → Period → Bool
is_month_of problem month = (month.year == problem.period.year) && (month.month == problem.period.month)

abbrev pub month_fault : Problem → Option Heading → Option Told
month_fault problem None = None
month_fault problem (Some heading) = if is_month_of problem heading.0 then None else Some (heading.1, OtherMonth)

-- what is wrong with a pairing's name behind those before
abbrev pub name_fault : Problem → List (List ℕ) → List ℕ → Option Wrong
name_fault problem before name =
    if is_none (place_named (λ pairing. pairing.id) name problem.pairings) then Some UnknownPairing
    else (if list_any (bytes_eq name) before then Some GivenTwice else None)

abbrev pub names_fault : Problem → List (List ℕ) → List (List ℕ) → Option Wrong
names_fault problem before [] = None
names_fault problem before (name ∷ rest) =
    option_or (name_fault problem before name) (names_fault problem (before ++ name ∷ []) rest)

-- what is wrong with what a person is given
abbrev pub given_fault : Problem → List (List ℕ) → Given → Option Wrong
given_fault problem before given =
    if is_none (place_named (λ person. person.id) given.0 problem.persons) then Some UnknownPerson
    else names_fault problem before given.1

-- the first of the lines that give something, behind the names before
abbrev pub placing_fault : Problem → List (List ℕ) → List (ℕ × Given) → Option Told
placing_fault problem before [] = None
placing_fault problem before (numbered ∷ rest) =
    told_or numbered.0 (given_fault problem before numbered.1)
    (placing_fault problem (before ++ numbered.1.1) rest)

-- ---- all of them

-- what is wrong with the report as one of the book
abbrev pub fault_of_report : Problem → List ℕ → Option Told
fault_of_report problem text =
    option_or (fault_of_text text)
    (option_or (month_fault problem (heading_of text)) (placing_fault problem [] (numbered_by_text text)))

-- ---- lines that can't be made records

-- one of the lines gives the name
abbrev pub is_given : List CrewLine → List ℕ → Bool
is_given lines name = list_any (λ crew. list_any (bytes_eq name) crew.pairings.items) lines

-- what is wrong with the names of a line behind lines and names before: one is given a second time
abbrev pub twice_fault : List CrewLine → List (List ℕ) → List (List ℕ) → Option Wrong
twice_fault lines before [] = None
twice_fault lines before (name ∷ rest) =
    if is_given lines name || list_any (bytes_eq name) before then Some GivenTwice
    else twice_fault lines (before ++ name ∷ []) rest

-- the first of the lines behind those before
abbrev pub records_fault : List CrewLine → List CrewLine → Option Told
records_fault before [] = None
records_fault before (crew ∷ rest) =
    told_or crew.line (twice_fault before [] crew.pairings.items) (records_fault (before ++ crew ∷ []) rest)
