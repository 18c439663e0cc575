-- What it means that a list lies in a span, and in just one of the finished ones.
use Rattle.std.proofs.Common.{◌≡◌, ℕ, zero, suc, ◌+◌, ◌<◌, ◌≤◌, ◌↔◌, Bool, true, false, List, [], ◌∷◌, refl, sym, ap, ◌∙◌, subst, arith, Option, Some, None, All}
use Rattle.std.specs.Prelude.{slice_get}
use Rattle.std.specs.List.{sum_by}
use Rattle.std.proofs.lemmas.Bool.Decides.{nat_tests}
use Rattle.std.proofs.lemmas.List.Sums.{sum_by-cons, sum_by-le}
use Rattle.roster_subtreepool_spans.specs.Spans.{LiesIn, Span}
use Rattle.roster_subtreepool.specs.Coverage.{IsInWidths, goes_on, times_finished, times_in, times_in_hand}
use Rattle.roster_subtreepool.specs.States.{Ended, IsEnd}
use Rattle.roster_subtreepool.proofs.SpanParts.{one}
use Rattle.roster_subtreepool.proofs.TimesLemmas.{after-times}

abbrev span_of : List ℕ → ℕ → ℕ → Span
span_of path lo hi = record { path = path; lo = lo; hi = hi }

in_longer : (p : ℕ) (path rest : List ℕ) (lo hi : ℕ) → LiesIn (span_of path lo hi) rest
    → LiesIn (span_of (p ∷ path) lo hi) (p ∷ rest)
in_longer p path rest lo hi lies = record {
  front = in_front;
  next = lies.next;
} where
  in_front : (k i : ℕ) → slice_get (p ∷ path) k ≡ Some i → slice_get (p ∷ rest) k ≡ Some i
  in_front zero i at = at
  in_front (suc k) i at = lies.front k i at

lies-same : (p i : ℕ) (path rest : List ℕ) (lo hi : ℕ) → p ≡ i → LiesIn (span_of path lo hi) rest
    → LiesIn (span_of (p ∷ path) lo hi) (i ∷ rest)
lies-same p i path rest lo hi same lies =
    subst (λ j. LiesIn (span_of (p ∷ path) lo hi) (j ∷ rest)) same (in_longer p path rest lo hi lies)

-- what goes on lies in the span
lies_from : (path : List ℕ) (lo hi : ℕ) (numbers : List ℕ) → goes_on path lo hi numbers ≡ true
    → LiesIn (span_of path lo hi) numbers
lies_from [] lo hi [] goes = absurd (cc)
lies_from [] lo hi (i ∷ rest) goes =
    let low : lo ≤ i = grind (arith, nat_tests) in
    let high : i < hi = grind (arith, nat_tests) in
    record { front = λ k j at. absurd (cc); next = (i, refl, low, high) }
lies_from (p ∷ path) lo hi [] goes = absurd (cc)
lies_from (p ∷ path) lo hi (i ∷ rest) goes =
    let same : p ≡ i = grind (arith, nat_tests) in
    let later : goes_on path lo hi rest ≡ true = grind (arith, nat_tests) in
    lies-same p i path rest lo hi same (lies_from path lo hi rest later)

-- and the other way round
shorter : (p i : ℕ) (path rest : List ℕ) (lo hi : ℕ) → LiesIn (span_of (p ∷ path) lo hi) (i ∷ rest)
    → LiesIn (span_of path lo hi) rest
shorter p i path rest lo hi lies = record { front = λ k j at. lies.front (suc k) j at; next = lies.next }

goes_from : (path : List ℕ) (lo hi : ℕ) (numbers : List ℕ) → LiesIn (span_of path lo hi) numbers
    → goes_on path lo hi numbers ≡ true
goes_from [] lo hi [] lies = let at = lies.next.1 in absurd (cc)
goes_from [] lo hi (i ∷ rest) lies =
    let at : i ≡ lies.next.0 = (let found = lies.next.1 in cc) in
    grind (arith, nat_tests, at, lies.next.2, lies.next.3)
goes_from (p ∷ path) lo hi [] lies = let at = lies.front 0 p refl in absurd (cc)
goes_from (p ∷ path) lo hi (i ∷ rest) lies =
    let found : Some i ≡ Some p = lies.front 0 p refl in
    let same : p ≡ i = cc in
    let later = goes_from path lo hi rest (shorter p i path rest lo hi lies) in
    grind (arith, nat_tests)

pub counts-lies : (span : Span) (numbers : List ℕ) → (times_in numbers span ≡ 1) ↔ LiesIn span numbers
counts-lies span numbers = (
  λ once. lies_from span.path span.lo span.hi numbers (is_one (goes_on span.path span.lo span.hi numbers) once),
  λ lies. ap one (goes_from span.path span.lo span.hi numbers lies),
) where
  is_one : (b : Bool) → one b ≡ 1 → b ≡ true
  is_one true once = refl
  is_one false once = absurd (omega arith)

-- ---- at rest

no_hands : (numbers : List ℕ) (hands : List (Option Span)) → All (λ hand. hand ≡ None) hands
    → sum_by (times_in_hand numbers) hands ≡ 0
no_hands numbers hands empty =
    let none = sum_by-le (times_in_hand numbers) 0 hands (λ k d within. subst (λ hand. times_in_hand numbers hand ≤ 0) (sym (empty k d within)) (omega arith)) in
    omega (arith, none)

-- each list of the box lies in one finished span
pub end-times : (ended : Ended) (numbers : List ℕ) → IsEnd ended → IsInWidths ended.widths numbers
    → times_finished numbers ended.finished ≡ 1
end-times ended numbers end box =
    let once = after-times ended.widths end.workers end.events end.state numbers end.persons end.replay box in
    let hands = no_hands numbers end.state.hands end.rest.hands in
    let pending = ap (sum_by (times_in numbers)) end.rest.pending in
    ap (times_finished numbers) end.finished ∙ omega (arith, once, hands, pending)

-- an entry whose span has the numbers
pub record Finds (numbers : List ℕ) (finished : List (ℕ × Span)) : Type 0 where
  pub place : ℕ
  pub worker : ℕ
  pub span : Span
  pub at : slice_get finished place ≡ Some (worker, span)
  pub lies : LiesIn span numbers

finds_later : (numbers : List ℕ) (entry : ℕ × Span) (rest : List (ℕ × Span)) → Finds numbers rest
    → Finds numbers (entry ∷ rest)
finds_later numbers entry rest found = record { place = suc found.place; worker = found.worker; span = found.span; at = found.at; lies = found.lies }

finds_if : (numbers : List ℕ) (worker : ℕ) (span : Span) (rest : List (ℕ × Span)) (b : Bool)
    → goes_on span.path span.lo span.hi numbers ≡ b
    → (0 < times_finished numbers rest → Finds numbers rest) → 0 < one b + times_finished numbers rest
    → Finds numbers ((worker, span) ∷ rest)
finds_if numbers worker span rest true is later some = record { place = 0; worker = worker; span = span; at = refl; lies = lies_from span.path span.lo span.hi numbers is }
finds_if numbers worker span rest false is later some =
    finds_later numbers (worker, span) rest (later (omega arith))

pub finds : (numbers : List ℕ) (finished : List (ℕ × Span)) → 0 < times_finished numbers finished
    → Finds numbers finished
finds numbers [] some = absurd (omega arith)
finds numbers (entry ∷ rest) some =
    let parts = sum_by-cons (λ (e : ℕ × Span). times_in numbers e.1) entry rest in
    finds_if numbers entry.0 entry.1 rest (goes_on entry.1.path entry.1.lo entry.1.hi numbers) refl
    (finds numbers rest) (omega (arith, parts))
