-- What lines of a table cost.
use Rattle.std.proofs.Common.{◌≡◌, ℕ, ◌<◌, List, [], length, get_or, ℤ, pos, ◌-ℤ◌, sym, ap, ap₂, ◌∙◌, subst, arith}
use Rattle.std.specs.Prelude.{All, Some, slice_get, option_map}
use Rattle.std.proofs.lemmas.List.{length-map}
use Rattle.std.proofs.lemmas.Option.{get_or_from_slice_get, slice_get-get_or, slice_get-map, slice_get_within}
use Rattle.roster_model.specs.Costs.{line_cost}
use Rattle.roster_model.specs.Lines.{IsLine}
use Rattle.roster_model.specs.Problem.{Problem}
use Rattle.roster_cost.specs.Amounts.{IsWithin, most_extra}
use Rattle.roster_lines_table.specs.Entries.{Entry, costs_of, sets_of}
use Rattle.roster_lines_table.specs.Person.{lines_at, AreListed}
use Rattle.roster_search_regions.specs.Building.{extra_in}
use Rattle.roster_search_regions.specs.Regions.{extra_of}
use Rattle.roster_lines_table.proofs.TableLemmas.{first_line, lines_in_table}
use Rattle.roster_search_regions.proofs.Copied.{no_entry}

-- a person's entry is a line, and costs what its set does
pub entry-costs : (problem : Problem) (table : List (List Entry)) (k i : ℕ) (entry : Entry)
    → AreListed problem table → k < length problem.persons → slice_get (lines_at table k) i ≡ Some entry
    → entry.cost ≡ line_cost problem k entry.set
entry-costs problem table k i entry is person at =
    let entries : List Entry = lines_at table k in
    let same = get_or_from_slice_get entries i entry no_entry at in
    let costed =
    (lines_in_table problem table k is person).costs i no_entry (slice_get_within entries i entry at) in
    subst (λ (e : Entry). e.cost ≡ line_cost problem k e.set) same costed

pub entry-line : (problem : Problem) (table : List (List Entry)) (k i : ℕ) (entry : Entry)
    → AreListed problem table → k < length problem.persons → slice_get (lines_at table k) i ≡ Some entry
    → IsLine problem k entry.set
entry-line problem table k i entry is person at =
    let sets : List (List ℕ) = sets_of (lines_at table k) in
    let set_at =
    slice_get-map (λ (e : Entry). e.set) (lines_at table k) i
    ∙ ap (option_map (λ (e : Entry). e.set)) at in
    subst (IsLine problem k) (get_or_from_slice_get sets i entry.set [] set_at)
    ((lines_in_table problem table k is person).some.lines i [] (slice_get_within sets i entry.set set_at))

-- the first entry costs what the empty line does
first-costs : (problem : Problem) (table : List (List Entry)) (k : ℕ) → AreListed problem table
    → k < length problem.persons → get_or (costs_of (lines_at table k)) 0 (pos 0) ≡ line_cost problem k []
first-costs problem table k is person =
    let entries : List Entry = lines_at table k in
    let inside : 0 < length entries = omega (arith, slice_get_within (sets_of entries) 0 [] (first_line problem table k is person), length-map entries (λ (e : Entry). e.set)) in
    let entry : Entry = get_or entries 0 no_entry in
    let at = slice_get-get_or entries 0 no_entry inside in
    let costs =
    slice_get-map (λ (e : Entry). e.cost) entries 0 ∙ ap (option_map (λ (e : Entry). e.cost)) at in
    let sets : Some entry.set ≡ Some [] =
    sym (slice_get-map (λ (e : Entry). e.set) entries 0 ∙ ap (option_map (λ (e : Entry). e.set)) at)
    ∙ first_line problem table k is person in
    let none : entry.set ≡ [] = cc in
    get_or_from_slice_get (costs_of entries) 0 entry.cost (pos 0) costs
    ∙ entry-costs problem table k 0 entry is person at ∙ ap (line_cost problem k) none

-- what an entry costs more than the first one is what its set costs more than no pairings
pub entry-extra : (problem : Problem) (table : List (List Entry)) (k i : ℕ) (entry : Entry)
    → AreListed problem table → k < length problem.persons → slice_get (lines_at table k) i ≡ Some entry
    → extra_in (lines_at table k) entry ≡ extra_of problem k entry.set
entry-extra problem table k i entry is person at =
    ap₂ (λ (a b : ℤ). a -ℤ b) (entry-costs problem table k i entry is person at)
    (first-costs problem table k is person)

-- no line costs much more or less than the first one
pub table-near : (problem : Problem) (table : List (List Entry)) (k : ℕ)
    → ((set : List ℕ) → IsLine problem k set → IsWithin most_extra (extra_of problem k set))
    → AreListed problem table → k < length problem.persons
    → All (λ entry. IsWithin most_extra (extra_in (lines_at table k) entry)) (lines_at table k)
table-near problem table k near is person i d inside =
    let entries : List Entry = lines_at table k in
    let entry : Entry = get_or entries i d in
    let at = slice_get-get_or entries i d inside in
    subst (IsWithin most_extra) (sym (entry-extra problem table k i entry is person at))
    (near entry.set (entry-line problem table k i entry is person at))
