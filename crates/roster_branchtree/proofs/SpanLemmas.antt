-- A span as ranges of lines, and the rosters of its path.
use Rattle.std.proofs.Common.{◌≡◌, ℕ, ◌+◌, ◌<◌, ◌≤◌, eqb, eq-eqb, cond, List, length, take, get_or, Option, Some, refl, sym, ap, ◌∙◌, subst, inl, inr, arith}
use Rattle.std.specs.Prelude.{slice_get, map}
use Rattle.std.proofs.lemmas.Bool.{cases_order, ne_eqb}
use Rattle.std.proofs.lemmas.List.{get_or-take, length-map, length-take-le}
use Rattle.std.proofs.lemmas.Option.{same_Some, slice_get_past, slice_get_within, slice_get-get_or, get_or_from_slice_get}
use Rattle.roster_model.specs.Problem.{Problem}
use Rattle.roster_model.specs.Places.{set_of}
use Rattle.roster_model.specs.Rosters.{IsLegalRoster, Key}
use Rattle.roster_model.specs.Settled.{Settles}
use Rattle.roster_model.proofs.SettledLemmas.{Settles-wider, Settles-within}
use Rattle.roster_lines_table.specs.Entries.{Entry, sets_of}
use Rattle.roster_lines_table.specs.Person.{lines_at, IsTableOf}
use Rattle.roster_bounds.specs.Chosen.{line_set, HasLines, Meets}
use Rattle.roster_lines_table.proofs.Cuts.{one_place}
use Rattle.roster_lines_table.proofs.Numbers.{AreNumbersOf-exist}
use Rattle.roster_search_regions.specs.Regions.{IsInRanges}
use Rattle.roster_lines_table.proofs.TableLemmas.{all_lines_in_table, sets_at}
use Rattle.roster_bounds.proofs.OfNode.{has_line, later_is_apart}
use Rattle.roster_branchtree.specs.Spans.{range_at, range_or, AreRangesOf}
use Rattle.roster_subtreepool_spans.specs.Spans.{IsInSpan, Span}

-- ---- ranges

pub range_of_path : (table : List (List Entry)) (span : Span) (k i : ℕ) → slice_get span.path k ≡ Some i
    → range_at table span k ≡ (i, i + 1)
range_of_path table span k i at =
    ap (λ (number : Option ℕ). range_or number (cond (eqb k (length span.path)) (span.lo, span.hi) (0, length (lines_at table k)))) at

pub range_of_next : (table : List (List Entry)) (span : Span) (k : ℕ) → k ≡ length span.path
    → range_at table span k ≡ (span.lo, span.hi)
range_of_next table span k is =
    let past = slice_get_past span.path k (omega (arith, is)) in
    let same = eq-eqb k (length span.path) is in
    rw (past, same) refl

pub range_of_later : (table : List (List Entry)) (span : Span) (k : ℕ) → length span.path < k
    → range_at table span k ≡ (0, length (lines_at table k))
range_of_later table span k later =
    let past = slice_get_past span.path k (omega arith) in
    let other = ne_eqb k (length span.path) (λ e. omega (arith, e)) in
    rw (past, other) refl

-- ---- rosters of the path

-- the number of a line that a roster has is below the width
pub number_within : (table : List (List Entry)) (path places : List ℕ) (k i : ℕ) → HasLines table path places
    → slice_get path k ≡ Some i → i < length (lines_at table k)
number_within table path places k i has at =
    omega (arith, slice_get_within (sets_of (lines_at table k)) i (set_of k places) (has k i at), length-map (lines_at table k) (λ entry. entry.set))

-- a roster that has the lines of the path has those of its front,
has_front : (table : List (List Entry)) (path places : List ℕ) (k : ℕ) → HasLines table path places
    → k ≤ length path → HasLines table (take k path) places
has_front table path places k has few j i at =
    let front : length (take k path) ≡ k = length-take-le k path few in
    let inside : j < k = omega (arith, front, slice_get_within (take k path) j i at) in
    let here = sym (get_or-take k path j 0 inside) ∙ get_or_from_slice_get (take k path) j i 0 at in
    has j i (slice_get-get_or path j 0 (omega arith) ∙ ap (λ n. Some n) here)

-- and its next line shares no pairing with them
pub meets_none : (table : List (List Entry)) (path places : List ℕ) (k : ℕ) → HasLines table path places
    → k < length path → Meets table (take k path) (line_set table k (get_or path k 0)) → ⊥
meets_none table path places k has inside meets =
    let line = has_line table path places k (get_or path k 0) has (slice_get-get_or path k 0 inside) in
    let front : length (take k path) ≡ k = length-take-le k path (omega arith) in
    later_is_apart table (take k path) places k (has_front table path places k has (omega arith))
    (omega (arith, front)) (subst (Meets table (take k path)) line meets)

-- ---- rosters of a span

pub in_span_has_lines : (table : List (List Entry)) (span : Span) (places : List ℕ)
    → IsInSpan table span places → HasLines table span.path places
in_span_has_lines table span places inside k i at =
    let number = inside.2.front k i at in
    let few : k < length table =
    omega (arith, slice_get_within inside.0 k i number, inside.1.box.covers, length-map table sets_of) in
    inside.1.sets k i (sets_of (lines_at table k)) number (sets_at table k few)

pub in_span_short : (table : List (List Entry)) (span : Span) (places : List ℕ) → IsInSpan table span places
    → length span.path < length table
in_span_short table span places inside =
    omega (arith, slice_get_within inside.0 (length span.path) inside.2.next.0 inside.2.next.1, inside.1.box.covers, length-map table sets_of)

-- a line in the range that has the person's set
abbrev pub HasInRange : List (List Entry) → List ℕ → ℕ → ℕ × ℕ → Type 0
HasInRange table places k range =
    (i : ℕ) × (range.0 ≤ i) × (i < range.1)
    × (slice_get (sets_of (lines_at table k)) i ≡ Some (set_of k places))

in_range : (table : List (List Entry)) (span : Span) (places : List ℕ) (k : ℕ) → IsInSpan table span places
    → k < length table → HasInRange table places k (range_at table span k)
in_range table span places k inside few =
    let numbers = inside.0 in
    let long : length numbers ≡ length table = inside.1.box.covers ∙ length-map table sets_of in
    elim (cases_order k (length span.path)) [
      | inl here ↦
          let next = inside.2.next in
          let number : slice_get numbers k ≡ Some next.0 = ap (slice_get numbers) here ∙ next.1 in
          subst (HasInRange table places k) (sym (range_of_next table span k here))
          (next.0, next.2, next.3, inside.1.sets k next.0 (sets_of (lines_at table k)) number (sets_at table k few))
      | inr apart ↦ elim apart [
        | inl before ↦
            let i : ℕ = get_or span.path k 0 in
            let at = slice_get-get_or span.path k 0 before in
            subst (HasInRange table places k) (sym (range_of_path table span k i at))
            (i, omega arith, omega arith, in_span_has_lines table span places inside k i at)
        | inr later ↦
            let j : ℕ = get_or numbers k 0 in
            let found =
            inside.1.sets k j (sets_of (lines_at table k))
            (slice_get-get_or numbers k 0 (omega (arith, long))) (sets_at table k few) in
            let below : j < length (lines_at table k) = omega (arith, slice_get_within (sets_of (lines_at table k)) j (set_of k places) found, length-map (lines_at table k) (λ entry. entry.set)) in
            subst (HasInRange table places k) (sym (range_of_later table span k later))
            (j, omega arith, below, found)
      ]
    ]

-- what lies in the span is in its ranges,
pub in_ranges : (table : List (List Entry)) (span : Span) (ranges : List (ℕ × ℕ)) (places : List ℕ)
    → AreRangesOf table span (length table) ranges → IsInSpan table span places
    → IsInRanges table ranges places
in_ranges table span ranges places are inside k range at =
    let few : k < length table = omega (arith, slice_get_within ranges k range at, are.covers) in
    subst (HasInRange table places k) (same_Some _ _ (sym (are.each k few) ∙ at))
    (in_range table span places k inside few)

-- and a legal roster in them lies in the span
pub in_span : (problem : Problem) (table : List (List Entry)) (span : Span) (ranges : List (ℕ × ℕ)) (places : List ℕ) → IsTableOf problem table → IsLegalRoster problem places → length span.path < length problem.persons → AreRangesOf table span (length table) ranges → IsInRanges table ranges places → IsInSpan table span places
in_span problem table span ranges places is legal short are inside =
    let found = AreNumbersOf-exist problem (map sets_of table) places is.sets legal in
    let numbers = found.0 in
    let many : length table ≡ length problem.persons = sym (length-map table sets_of) ∙ is.sets.covers in
    let long : length numbers ≡ length table = found.1.box.covers ∙ length-map table sets_of in
    let one : (k i : ℕ) → k < length table → slice_get (sets_of (lines_at table k)) i ≡ Some (set_of k places)
    → slice_get numbers k ≡ Some i =
    λ k i few at.
    let number = slice_get-get_or numbers k 0 (omega (arith, long)) in
    let also =
    found.1.sets k (get_or numbers k 0) (sets_of (lines_at table k)) number (sets_at table k few) in
    let ordered = (all_lines_in_table problem table k is (omega (arith, many))).some.ordered in
    number ∙ ap (λ (n : ℕ). Some n) (one_place (sets_of (lines_at table k)) ordered (get_or numbers k 0) i (set_of k places) also at) in
    let front : (k i : ℕ) → slice_get span.path k ≡ Some i → slice_get numbers k ≡ Some i = λ k i at.
    let few : k < length table = omega (arith, slice_get_within span.path k i at, many, short) in
    let there =
    subst (HasInRange table places k) (range_of_path table span k i at)
    (inside k (range_at table span k) (are.each k few)) in
    let same : there.0 ≡ i = omega (arith, there.1, there.2) in
    one k i few
    (subst (λ n. slice_get (sets_of (lines_at table k)) n ≡ Some (set_of k places)) same there.3) in
    let k : ℕ = length span.path in
    let few : k < length table = omega (arith, many, short) in
    let there =
    subst (HasInRange table places k) (range_of_next table span k refl)
    (inside k (range_at table span k) (are.each k few)) in
    (numbers, found.1, record { front = front; next = (there.0, one k there.0 few there.3, there.1, there.2) })

-- so what settles the ranges settles the span
pub settles_span : (problem : Problem) (table : List (List Entry)) (span : Span) (ranges : List (ℕ × ℕ)) (Own : List ℕ → Type 0) (old new : Key) → IsTableOf problem table → length span.path < length problem.persons → AreRangesOf table span (length table) ranges
    → Settles problem (IsInRanges table ranges) Own (Some old) new
    → Settles problem (IsInSpan table span) Own (Some old) new
settles_span problem table span ranges Own old new is short are settled =
    Settles-within problem (IsInRanges table ranges) (IsInSpan table span) Own (Some old) new settled
    (λ others legal inside. in_ranges table span ranges others are inside)

-- and what lies in the ranges lies in the span
pub settles_in_span : (problem : Problem) (table : List (List Entry)) (span : Span) (ranges : List (ℕ × ℕ)) (Own : List ℕ → Type 0) (old new : Key) → IsTableOf problem table → length span.path < length problem.persons → AreRangesOf table span (length table) ranges
    → ((places : List ℕ) → IsInSpan table span places → Own places)
    → Settles problem (IsInRanges table ranges) (IsInRanges table ranges) (Some old) new
    → Settles problem (IsInSpan table span) Own (Some old) new
settles_in_span problem table span ranges Own old new is short are wider settled =
    Settles-wider problem (IsInSpan table span) (IsInRanges table ranges) Own (Some old) new
    (settles_span problem table span ranges (IsInRanges table ranges) old new is short are settled)
    (λ places legal inside. wider places (in_span problem table span ranges places is legal short are inside))
