-- A table of lines, person by person.
use Rattle.std.proofs.Common.{◌≡◌, ℕ, ◌<◌, List, [], length, Some, refl, ap, ◌∙◌, arith}
use Rattle.std.specs.Prelude.{map, option_map, slice_get}
use Rattle.std.proofs.lemmas.Option.{slice_get-get_or, slice_get-map}
use Rattle.roster_model.specs.Lines.{AreLines, IsCrowded}
use Rattle.roster_model.specs.Problem.{Problem}
use Rattle.roster_lines_table.specs.Entries.{Entry, sets_of}
use Rattle.roster_lines_table.specs.Person.{lines_at, AreListed, AreListedOf, IsTableOf}
use Rattle.roster_lines_table.proofs.Lists.{AreListed-all, not_crowded}
use Rattle.roster_lines_table.proofs.TreeLemmas.{length-sets_of}

-- each person has lines
pub table-at : (problem : Problem) (table : List (List Entry)) (k : ℕ) → AreListed problem table
    → k < length problem.persons → slice_get table k ≡ Some (lines_at table k)
table-at problem table k is person =
    let none : List Entry = [] in
    slice_get-get_or table k none (omega (arith, is.covers))

-- the lines of a person in the table
pub lines_in_table : (problem : Problem) (table : List (List Entry)) (k : ℕ) → AreListed problem table
    → k < length problem.persons → AreListedOf problem k (lines_at table k)
lines_in_table problem table k is person = is.each k (lines_at table k) (table-at problem table k is person)

-- the first line is the empty one
pub first_line : (problem : Problem) (table : List (List Entry)) (k : ℕ) → AreListed problem table
    → k < length problem.persons → slice_get (sets_of (lines_at table k)) 0 ≡ Some []
first_line problem table k is person = (lines_in_table problem table k is person).first

-- the same of a table of all lines: each person has lines,
pub whole_table-at : (problem : Problem) (table : List (List Entry)) (k : ℕ) → IsTableOf problem table
    → k < length problem.persons → slice_get table k ≡ Some (lines_at table k)
whole_table-at problem table k is person = table-at problem table k (AreListed-all problem table is) person

-- they are all lines of the person,
pub all_lines_in_table : (problem : Problem) (table : List (List Entry)) (k : ℕ) → IsTableOf problem table
    → k < length problem.persons → AreLines problem k (sets_of (lines_at table k))
all_lines_in_table problem table k is person =
    is.sets.each k (sets_of (lines_at table k))
    (slice_get-map sets_of table k ∙ rw (whole_table-at problem table k is person) refl)

-- and no more than there may be
pub nobody_crowded : (problem : Problem) (table : List (List Entry)) (k : ℕ) → IsTableOf problem table
    → k < length problem.persons → IsCrowded problem k → ⊥
nobody_crowded problem table k is person =
    let lines = lines_at table k in
    let few = (lines_in_table problem table k (AreListed-all problem table is) person).few in
    not_crowded problem k (sets_of lines) (all_lines_in_table problem table k is person)
    (omega (arith, length-sets_of lines, few))

-- the sets of a list of the table
pub sets_at : (table : List (List Entry)) (k : ℕ) → k < length table
    → slice_get (map sets_of table) k ≡ Some (sets_of (lines_at table k))
sets_at table k inside =
    let none : List Entry = [] in
    slice_get-map sets_of table k ∙ ap (option_map sets_of) (slice_get-get_or table k none inside)
