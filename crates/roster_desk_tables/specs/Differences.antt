-- What differs between two rosters, line by line.
use Rattle.std.specs.Prelude.{◌≡◌, ◌==◌, ◌++◌, ◌∷◌, ℕ, ℤ, Bool, List, [], codes, if◌then◌else◌, length, not, option_map, slice_get, slice_index, unsigned_abs, unwrap_or}
use Rattle.std.specs.Fmt.{decimal, signed_decimal}
use Rattle.std.specs.Ordering.{int_eq}
use Rattle.std.specs.List.{count_by, flat_map, list_any, range_with_len}
use Rattle.roster_model.specs.Costs.{cost_of}
use Rattle.roster_model.specs.Problem.{Problem}
use Rattle.roster_desk_words.specs.Words.{name_at, time_text}
use Rattle.roster_desk_tables.specs.Having.{Have}
use Rattle.roster_desk_tables.specs.Sums.{AreSums}
use Rattle.roster_desk_tables.specs.declared.sums.Sums.{Sums}

-- the name of the person of the number, or the word for nobody
abbrev pub holder_name : Problem → ℕ → List ℕ
holder_name problem number =
    unwrap_or (option_map (λ person. person.id) (slice_get problem.persons number)) (codes "nobody")

-- another person has the pairing at place p
abbrev pub is_other : List ℕ → List ℕ → ℕ → Bool
is_other before after p = not (slice_index before p == slice_index after p)

-- its line if so
abbrev pub move_line : Problem → List ℕ → List ℕ → ℕ → List ℕ
move_line problem before after p =
    if is_other before after p then name_at problem p ++ codes " moves from "
    ++ holder_name problem (slice_index before p) ++ codes " to " ++ holder_name problem (slice_index after p) ++ 10 ∷ []
    else []

-- ---- how many change

-- person k has the pairing at place p by one of the rosters only
abbrev pub is_moved_at : List ℕ → List ℕ → ℕ → ℕ → Bool
is_moved_at before after k p =
    if slice_index before p == k then not (slice_index after p == k) else (slice_index after p == k)

abbrev pub is_moved : List ℕ → List ℕ → ℕ → Bool
is_moved before after k = list_any (is_moved_at before after k) (range_with_len 0 (length before))

abbrev pub moved_pairings : List ℕ → List ℕ → ℕ
moved_pairings before after = count_by (is_other before after) (range_with_len 0 (length before))

abbrev pub moved_persons : ℕ → List ℕ → List ℕ → ℕ
moved_persons persons before after = count_by (is_moved before after) (range_with_len 0 persons)

abbrev pub counts_line : Problem → List ℕ → List ℕ → List ℕ
counts_line problem before after =
    decimal (moved_pairings before after) ++ codes " pairings and "
    ++ decimal (moved_persons (length problem.persons) before after) ++ codes " persons change\n"

-- ---- amounts

-- an amount before and after
abbrev pub change_line : List ℕ → List ℕ → List ℕ → List ℕ → List ℕ
change_line whose what before after =
    whose ++ codes " " ++ what ++ codes ": " ++ before ++ codes " to " ++ after ++ 10 ∷ []

-- of cost units, if it differs
abbrev pub cost_line : List ℕ → ℤ → ℤ → List ℕ
cost_line whose before after =
    if int_eq before after then []
    else change_line whose (codes "COST") (signed_decimal before) (signed_decimal after)

-- of minutes, if it differs
abbrev pub minutes_line : List ℕ → List ℕ → ℤ → ℤ → List ℕ
minutes_line whose what before after =
    if int_eq before after then []
    else change_line whose what (time_text (unsigned_abs before)) (time_text (unsigned_abs after))

-- the text, and behind it a line for each that differs
abbrev pub with_sums : List ℕ → List ℕ → Sums → Sums → List ℕ
with_sums old whose before after =
    (((((old ++ cost_line whose before.cost after.cost)
    ++ minutes_line whose (codes "FLIGHT") before.flight after.flight)
    ++ minutes_line whose (codes "DUTY7") before.duty7 after.duty7)
    ++ minutes_line whose (codes "DUTY14") before.duty14 after.duty14)
    ++ minutes_line whose (codes "DUTY28") before.duty28 after.duty28)
    ++ minutes_line whose (codes "FLIGHT28") before.flight28 after.flight28

-- the new text is the old one and the lines of person k
pub record HasPerson (problem : Problem) (before after : List ℕ) (k : ℕ) (old new : List ℕ) : Type 0 where
  pub first : Sums
  pub second : Sums
  pub had : AreSums problem before k first
  pub has : AreSums problem after k second
  pub text : new ≡ with_sums old (holder_name problem k) first second

-- and those of the first n persons
abbrev pub HavePersons : Problem → List ℕ → List ℕ → ℕ → List ℕ → List ℕ → Type 0
HavePersons problem before after n old new = Have (HasPerson problem before after) n old new

-- what both rosters cost
abbrev pub costs_line : Problem → List ℕ → List ℕ → List ℕ
costs_line problem before after =
    change_line (codes "ROSTER") (codes "COST") (signed_decimal (cost_of problem before))
    (signed_decimal (cost_of problem after))

-- ---- the whole text

pub record IsDifference (problem : Problem) (before after all : List ℕ) : Type 0 where
  pub persons : List ℕ
  pub are : HavePersons problem before after (length problem.persons)
      (flat_map (move_line problem before after) (range_with_len 0 (length before))) persons
  pub text : all ≡ (persons ++ costs_line problem before after) ++ counts_line problem before after
