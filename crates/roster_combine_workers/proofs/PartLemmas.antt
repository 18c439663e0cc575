-- What parts that agree with a closed pool are together, and how they come to agree. If the lists agree with
-- a closed pool (`Agree`), each legal roster's list of line numbers lies in a finished span, whose part
-- stands in some worker's list and comes no later: so the least of all parts is the best roster. Only the
-- clause of `SpanSearch::search` settles a part, so what was seen meanwhile doesn't occur.
use Rattle.std.proofs.Common.{◌≡◌, ℕ, zero, suc, ◌+◌, ◌<◌, ◌==◌, Bool, true, false, List, [], ◌∷◌, ◌++◌, length, map, get_or, refl, sym, ap, ◌∙◌, subst, arith, Some, inl, inr}
use Rattle.std.specs.Prelude.{All, slice_get, slice_index, slice_index_or}
use Rattle.std.proofs.lemmas.Bool.{cases_lt, eq-eqb}
use Rattle.std.proofs.lemmas.List.{get_or-map, length-map}
use Rattle.std.proofs.lemmas.List.Elements.{All-get_or, All-weaker}
use Rattle.std.proofs.lemmas.Option.{get_or_from_slice_get, none-some, same_Some, slice_get-get_or, slice_get_within}
use Rattle.roster_model.specs.Problem.{Problem}
use Rattle.roster_model.specs.Rosters.{IsLegalRoster, Key, key_le, key_of}
use Rattle.roster_model.specs.Settled.{IsHeld}
use Rattle.roster_model.specs.Lines.{AreNumbersOf}
use Rattle.roster_model.proofs.KeyLemmas.{key_le-trans}
use Rattle.roster_model.proofs.SettledLemmas.{held-key}
use Rattle.roster_lines_table.specs.Entries.{Entry, sets_of}
use Rattle.roster_lines_table.specs.Person.{IsTableOf, lines_at}
use Rattle.roster_lines_table.proofs.Numbers.{AreNumbersOf-exist}
use Rattle.roster_subtreepool_spans.specs.Spans.{LiesIn, Span}
use Rattle.roster_lines_table.proofs.TableLemmas.{sets_at}
use Rattle.roster_subtreepool.specs.Coverage.{IsInWidths}
use Rattle.roster_subtreepool.specs.States.{Ended, SettledSpan}
use Rattle.roster_combine_workers.specs.Parts.{Agree, AreSettled, IsBestKey, IsLeastOf, IsLeastOfAll, IsSettled, span_of, spans_by, spans_if}

-- ---- the spans of one worker

has_later : (b : Bool) (first : Span) (spans : List Span) (span : Span)
    → ((k : ℕ) × (slice_get spans k ≡ Some span))
    → (k : ℕ) × (slice_get (spans_if b first spans) k ≡ Some span)
has_later true first spans span found = (suc found.0, found.1)
has_later false first spans span found = found

-- a finished span is among those of its worker
spans_by-has : (finished : List (ℕ × Span)) (place worker : ℕ) (span : Span)
    → slice_get finished place ≡ Some (worker, span)
    → (k : ℕ) × (slice_get (spans_by worker finished) k ≡ Some span)
spans_by-has [] place worker span at = absurd (none-some (worker, span) at)
spans_by-has (entry ∷ rest) zero worker span at =
    let same : entry ≡ (worker, span) = same_Some entry (worker, span) at in
    let by : (entry.0 == worker) ≡ true =
    ap (λ (e : ℕ × Span). e.0 == worker) same ∙ eq-eqb worker worker refl in
    (0, ap (λ b. slice_get (spans_if b entry.1 (spans_by worker rest)) 0) by ∙ ap (λ (e : ℕ × Span). Some e.1) same)
spans_by-has (entry ∷ rest) (suc place) worker span at =
    has_later (entry.0 == worker) entry.1 (spans_by worker rest) span (spans_by-has rest place worker span at)

spans_if-append : (b : Bool) (span : Span) (xs ys : List Span)
    → spans_if b span (xs ++ ys) ≡ spans_if b span xs ++ ys
spans_if-append true span xs ys = refl
spans_if-append false span xs ys = refl

-- one more is finished
pub spans_by-more : (finished : List (ℕ × Span)) (worker by : ℕ) (span : Span) → spans_by worker (finished ++ (by, span) ∷ []) ≡ spans_by worker finished ++ spans_if (by == worker) span []
spans_by-more [] worker by span = refl
spans_by-more (entry ∷ rest) worker by span =
    ap (spans_if (entry.0 == worker) entry.1) (spans_by-more rest worker by span)
    ∙ spans_if-append (entry.0 == worker) entry.1 (spans_by worker rest) (spans_if (by == worker) span [])

part_at : (parts : List SettledSpan) (k : ℕ) (span : Span) → slice_get (map span_of parts) k ≡ Some span
    → (part : SettledSpan) × (slice_get parts k ≡ Some part) × (part.span ≡ span)
part_at [] k span at = absurd (none-some span at)
part_at (part ∷ rest) zero span at = (part, refl, same_Some part.span span at)
part_at (part ∷ rest) (suc k) span at = part_at rest k span at

-- ---- the least of all

-- one part more
pub least-more : (parts : List SettledSpan) (count : ℕ) (part : SettledSpan) (old mid new : Key)
    → IsLeastOf parts count old mid → slice_get parts count ≡ Some part
    → key_le new mid ≡ true → key_le new part.best ≡ true
    → ((problem : Problem) → IsHeld problem mid → IsHeld problem part.best → IsHeld problem new)
    → IsLeastOf parts (count + 1) old new
least-more parts count part old mid new before at earlier first held = record {
  kept = key_le-trans new mid old earlier before.kept;
  least = least;
  held = λ problem known all. held problem (before.held problem known all) (one problem all);
} where
  least : (k : ℕ) (other : SettledSpan) → k < count + 1 → slice_get parts k ≡ Some other
      → key_le new other.best ≡ true
  least k other below there = elim (cases_lt k count) [
    | inl inside ↦ key_le-trans new mid other.best earlier (before.least k other inside there)
    | inr past ↦
        let here : k ≡ count = omega (arith, below, past) in
        let same : part ≡ other = same_Some part other (sym at ∙ ap (slice_get parts) (sym here) ∙ there) in
        subst (λ (p : SettledSpan). key_le new p.best ≡ true) same first
  ]

  one : (problem : Problem) → All (λ (p : SettledSpan). IsHeld problem p.best) parts → IsHeld problem part.best
  one problem all =
      subst (λ (p : SettledSpan). IsHeld problem p.best) (get_or_from_slice_get parts count part part at)
      (All-get_or (λ (p : SettledSpan). IsHeld problem p.best) parts count part (slice_get_within parts count part at) all)

-- the parts of one worker more
pub least_of_all-more : (lists : List (List SettledSpan)) (count : ℕ) (old mid new : Key) → count < length lists
    → IsLeastOfAll lists count old mid
    → IsLeastOf (slice_index_or lists count []) (length (slice_index_or lists count [])) mid new
    → IsLeastOfAll lists (count + 1) old new
least_of_all-more lists count old mid new within before one = record {
  kept = key_le-trans new mid old one.kept before.kept;
  least = least;
  held = λ problem known all. one.held problem (before.held problem known all)
      (All-get_or (λ (parts : List SettledSpan). All (λ (p : SettledSpan). IsHeld problem p.best) parts) lists count [] within all);
} where
  least : (worker k : ℕ) (part : SettledSpan) → worker < count + 1
      → slice_get (slice_index_or lists worker []) k ≡ Some part → key_le new part.best ≡ true
  least worker k part below at = elim (cases_lt worker count) [
    | inl inside ↦ key_le-trans new mid part.best one.kept (before.least worker k part inside at)
    | inr past ↦
        let here : worker ≡ count = omega (arith, below, past) in
        let there : slice_get (slice_index_or lists count []) k ≡ Some part =
        subst (λ w. slice_get (slice_index_or lists w []) k ≡ Some part) here at in
        one.least k part (slice_get_within (slice_index_or lists count []) k part there) there
  ]

in_widths : (table : List (List Entry)) (places numbers : List ℕ)
    → AreNumbersOf (map sets_of table) places numbers → IsInWidths (map length table) numbers
in_widths table places numbers are = record {
  covers = are.box.covers ∙ length-map table sets_of ∙ sym (length-map table length);
  each = each;
} where
  each : (k : ℕ) → k < length (map length table) → slice_index numbers k < slice_index (map length table) k
  each k within =
      let there : k < length table = omega (arith, within, length-map table length) in
      let number =
      slice_get-get_or numbers k 0 (omega (arith, there, are.box.covers, length-map table sets_of)) in
      let below =
      are.box.numbered k (get_or numbers k 0) (sets_of (lines_at table k)) number
      (sets_at table k there) in
      omega
      (arith, below, length-map (lines_at table k) (λ entry. entry.set), get_or-map length table k [] 0 there)

-- The least of parts that are settled and agree with the pool is the least of all: the list of each legal roster
-- lies in a finished span, whose part comes no later.
pub least_is_best : (problem : Problem) (table : List (List Entry)) (lists : List (List SettledSpan)) (ended : Ended)
    (known new : Key)
    → IsTableOf problem table → All (AreSettled problem table) lists → Agree (map length table) lists ended
    → ((numbers : List ℕ) → IsInWidths ended.widths numbers → (place worker : ℕ) × (span : Span) × (slice_get ended.finished place ≡ Some (worker, span)) × LiesIn span numbers)
    → IsHeld problem known → IsLeastOfAll lists (length lists) known new → IsBestKey problem new
least_is_best problem table lists ended known new is settled agree found held_known least = record {
  best = record {
    is_legal = held.legal;
    inside = tt;
    least = λ others legal _. subst (λ key. key_le key (key_of problem others) ≡ true) (held-key problem new held) (first others legal);
  };
  cost = held.cost;
} where
  held : IsHeld problem new
  held =
      least.held problem held_known
      (All-weaker (AreSettled problem table) (λ parts. All (λ (part : SettledSpan). IsHeld problem part.best) parts)
      (λ parts all. All-weaker (IsSettled problem table) (λ (part : SettledSpan). IsHeld problem part.best) (λ part one. one.held) parts all) lists settled)

  first : (others : List ℕ) → IsLegalRoster problem others → key_le new (key_of problem others) ≡ true
  first others legal =
      let numbers = AreNumbersOf-exist problem (map sets_of table) others is.sets legal in
      let at = found numbers.0 (subst (λ widths. IsInWidths widths numbers.0) (sym agree.covers) (in_widths table others numbers.0 numbers.1)) in
      let worker = at.1 in
      let span = at.2 in
      let entry : ℕ × Span = (worker, span) in
      let there : worker < length lists =
      subst (λ (e : ℕ × Span). e.0 < length lists)
      (get_or_from_slice_get ended.finished at.0 entry entry at.3)
      (All-get_or (λ (e : ℕ × Span). e.0 < length lists) ended.finished at.0 entry (slice_get_within ended.finished at.0 entry at.3) agree.workers) in
      let listed = spans_by-has ended.finished at.0 worker span at.3 in
      let parts = slice_index_or lists worker [] in
      let part =
      part_at parts listed.0 span
      (ap (λ spans. slice_get spans listed.0) (agree.spans worker there) ∙ listed.1) in
      let inside = slice_get_within parts listed.0 part.0 part.1 in
      let is_part = get_or_from_slice_get parts listed.0 part.0 part.0 part.1 in
      let one : IsSettled problem table part.0 = subst (IsSettled problem table) is_part
      (All-get_or (IsSettled problem table) parts listed.0 part.0 inside (All-get_or (AreSettled problem table) lists worker [] there settled)) in
      let before = least.least worker listed.0 part.0 there part.1 in
      let lies : LiesIn part.0.span numbers.0 = subst (λ s. LiesIn s numbers.0) (sym part.2) at.4 in
      key_le-trans new part.0.best (key_of problem others) before
      (one.least others legal (numbers.0, numbers.1, lies))
