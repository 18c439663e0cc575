-- No event changes in how many spans a list of the box lies. It is a count: 1 in the opening state, and kept
-- by each event, with the spans of hands and of finished parts in it. The pool's type keeps that the state
-- is the replay of the history, so that holds whatever threads do (`each_list_in_one_span`).
use Rattle.std.proofs.Common.{◌≡◌, ℕ, suc, ◌+◌, ◌-◌, ◌<◌, ◌≤◌, Bool, true, false, List, [], ◌∷◌, ◌++◌, length, refl, sym, ap, ◌∙◌, subst, arith, Option, Some, None, inl, inr}
use Rattle.std.specs.Prelude.{nat_le, if◌then◌else◌, slice_get, slice_index, slice_set}
use Rattle.std.specs.List.{sum_by}
use Rattle.std.proofs.lemmas.Bool.{cases_lt}
use Rattle.std.proofs.lemmas.Bool.Decides.{nat_tests}
use Rattle.std.proofs.lemmas.List.{get_or_past}
use Rattle.std.proofs.lemmas.List.Folds.{sum_by-replicate}
use Rattle.std.proofs.lemmas.List.Sums.{sum_by-remove, sum_by-set, sum_by_push}
use Rattle.std.proofs.lemmas.Option.{get_or_from_slice_get, slice_get_within}
use Rattle.roster_subtreepool_spans.specs.Spans.{Span}
use Rattle.roster_subtreepool.specs.Coverage.{IsInWidths, goes_on, times, times_in, times_in_hand}
use Rattle.roster_subtreepool.specs.States.{State, after, back_in, can_descend, can_halve, descend_in, descended, finish_in, halve_in, held, lower, middle, opening, play, root, step, take_in, upper}
use Rattle.roster_subtreepool.specs.declared.event.Event.{Event}
use Rattle.roster_subtreepool.specs.declared.event.Event.TheVariants.{Take, Halve, Descend, Back, Finish}
use Rattle.roster_subtreepool.proofs.SpanParts.{goes_on-down, goes_on-halves, one}
use Rattle.roster_subtreepool.proofs.StepLemmas.{play-none, step-keeps}

-- a hand with a span is there
pub held_within : (s : State) (worker : ℕ) (span : Span) → held s worker ≡ Some span → worker < length s.hands
held_within s worker span has = elim (cases_lt worker (length s.hands)) [
  | inl within ↦ within
  | inr past ↦ let none : held s worker ≡ None = get_or_past s.hands worker None past in absurd (cc)
]

-- another span in a hand
hand_set : (numbers : List ℕ) (s : State) (worker : ℕ) (old new : Option Span) → held s worker ≡ old
    → worker < length s.hands
    → sum_by (times_in_hand numbers) (slice_set s.hands worker new) + times_in_hand numbers old ≡ sum_by (times_in_hand numbers) s.hands + times_in_hand numbers new
hand_set numbers s worker old new has within =
    let changed = sum_by-set (times_in_hand numbers) s.hands worker new None within in
    subst (λ hand. sum_by (times_in_hand numbers) (slice_set s.hands worker new) + times_in_hand numbers hand ≡ sum_by (times_in_hand numbers) s.hands + times_in_hand numbers new) has changed

same_some : (numbers : List ℕ) (s made next : State) → times numbers made ≡ times numbers s
    → Some made ≡ Some next → times numbers next ≡ times numbers s
same_some numbers s made next kept is = let same : made ≡ next = cc in ap (times numbers) (sym same) ∙ kept

take-times : (numbers : List ℕ) (s next : State) (worker place : ℕ) (hand : Option (Option Span))
    (there : Option Span)
    → slice_get s.hands worker ≡ hand → slice_get s.pending place ≡ there
    → take_in s worker place hand there ≡ Some next → times numbers next ≡ times numbers s
take-times numbers s next worker place (Some None) (Some span) hands pending is =
    let empty : held s worker ≡ None = get_or_from_slice_get s.hands worker None None hands in
    let in_hand =
    hand_set numbers s worker None (Some span) empty (slice_get_within s.hands worker None hands) in
    let left =
    sum_by-remove (times_in numbers) s.pending place span
    (slice_get_within s.pending place span pending) in
    let taken = ap (times_in numbers) (get_or_from_slice_get s.pending place span span pending) in
    same_some numbers s _ next (omega (arith, in_hand, left, taken)) is
take-times numbers s next worker place (Some None) None hands pending is = absurd (cc)
take-times numbers s next worker place (Some (Some span)) there hands pending is = absurd (cc)
take-times numbers s next worker place None there hands pending is = absurd (cc)

back-times : (numbers : List ℕ) (s next : State) (worker : ℕ) (hand : Option Span) → held s worker ≡ hand
    → back_in s worker hand ≡ Some next → times numbers next ≡ times numbers s
back-times numbers s next worker (Some span) has is =
    let in_hand = hand_set numbers s worker (Some span) None has (held_within s worker span has) in
    let more = sum_by_push (times_in numbers) s.pending span in
    same_some numbers s _ next (omega (arith, in_hand, more)) is
back-times numbers s next worker None has is = absurd (cc)

finish-times : (numbers : List ℕ) (s next : State) (worker : ℕ) (hand : Option Span) → held s worker ≡ hand
    → finish_in s worker hand ≡ Some next → times numbers next ≡ times numbers s
finish-times numbers s next worker (Some span) has is =
    let in_hand = hand_set numbers s worker (Some span) None has (held_within s worker span has) in
    let entry : ℕ × Span = (worker, span) in
    let more = sum_by_push (λ (e : ℕ × Span). times_in numbers e.1) s.finished entry in
    same_some numbers s _ next (omega (arith, in_hand, more)) is
finish-times numbers s next worker None has is = absurd (cc)

halve-times-if : (numbers : List ℕ) (s next : State) (worker : ℕ) (span : Span) (b : Bool)
    → held s worker ≡ Some span → nat_le 2 (span.hi - span.lo) ≡ b
    → (if b then Some (record s { pending = s.pending ++ upper span ∷ []; hands = slice_set s.hands worker (Some (lower span)) }) else None) ≡ Some next → times numbers next ≡ times numbers s
halve-times-if numbers s next worker span true has wide is =
    let range : 2 ≤ span.hi - span.lo = grind (arith, nat_tests) in
    let in_hand =
    hand_set numbers s worker (Some span) (Some (lower span)) has (held_within s worker span has) in
    let more = sum_by_push (times_in numbers) s.pending (upper span) in
    let halves = goes_on-halves span.path span.lo (middle span) span.hi numbers (omega arith) (omega arith) in
    same_some numbers s _ next (omega (arith, in_hand, more, halves)) is
halve-times-if numbers s next worker span false has wide is = absurd (cc)

halve-times : (numbers : List ℕ) (s next : State) (worker : ℕ) (hand : Option Span) → held s worker ≡ hand
    → halve_in s worker hand ≡ Some next → times numbers next ≡ times numbers s
halve-times numbers s next worker (Some span) has is =
    halve-times-if numbers s next worker span (can_halve span) has refl is
halve-times numbers s next worker None has is = absurd (cc)

descend-times-if : (numbers : List ℕ) (s next : State) (worker : ℕ) (span : Span) (b : Bool)
    → IsInWidths s.widths numbers → held s worker ≡ Some span → can_descend s.widths span ≡ b
    → (if b then Some (record s { hands = slice_set s.hands worker (Some (descended s.widths span)) }) else None) ≡ Some next → times numbers next ≡ times numbers s
descend-times-if numbers s next worker span true box has can is =
    let later : length span.path + 1 < length s.widths = grind (arith, nat_tests) in
    let single : span.hi ≡ span.lo + 1 = grind (arith, nat_tests) in
    let in_hand =
    hand_set numbers s worker (Some span) (Some (descended s.widths span)) has
    (held_within s worker span has) in
    let at : suc (length span.path) ≡ length span.path + 1 = omega arith in
    let within : slice_index numbers (suc (length span.path)) < slice_index s.widths (length span.path + 1) =
    subst (λ k. slice_index numbers k < slice_index s.widths (length span.path + 1)) (sym at)
    (box.each (length span.path + 1) later) in
    let down = ap one (ap (λ hi. goes_on span.path span.lo hi numbers) single ∙ goes_on-down span.path span.lo (slice_index s.widths (length span.path + 1)) numbers (omega (arith, box.covers, later)) within) in
    same_some numbers s _ next (omega (arith, in_hand, down)) is
descend-times-if numbers s next worker span false box has can is = absurd (cc)

descend-times : (numbers : List ℕ) (s next : State) (worker : ℕ) (hand : Option Span)
    → IsInWidths s.widths numbers → held s worker ≡ hand → descend_in s worker hand ≡ Some next
    → times numbers next ≡ times numbers s
descend-times numbers s next worker (Some span) box has is =
    descend-times-if numbers s next worker span (can_descend s.widths span) box has refl is
descend-times numbers s next worker None box has is = absurd (cc)

pub step-times : (numbers : List ℕ) (s next : State) (event : Event) → IsInWidths s.widths numbers
    → step s event ≡ Some next → times numbers next ≡ times numbers s
step-times numbers s next (Take worker place) box is =
    take-times numbers s next worker place (slice_get s.hands worker) (slice_get s.pending place) refl refl is
step-times numbers s next (Halve worker) box is = halve-times numbers s next worker (held s worker) refl is
step-times numbers s next (Descend worker) box is =
    descend-times numbers s next worker (held s worker) box refl is
step-times numbers s next (Back worker) box is = back-times numbers s next worker (held s worker) refl is
step-times numbers s next (Finish worker) box is = finish-times numbers s next worker (held s worker) refl is

-- nor do several, where those behind the first one don't
then-times : (events : List Event) (numbers : List ℕ) (s final : State) (event : Event) (next : Option State)
    → ((t : State) → IsInWidths t.widths numbers → play (Some t) events ≡ Some final → times numbers final ≡ times numbers t)
    → IsInWidths s.widths numbers → step s event ≡ next → play next events ≡ Some final
    → times numbers final ≡ times numbers s
then-times events numbers s final event None later box stepped is = let none = play-none events in absurd (cc)
then-times events numbers s final event (Some next) later box stepped is =
    let box' =
    subst (λ widths. IsInWidths widths numbers) (sym (step-keeps s next event stepped).widths) box in
    later next box' is ∙ step-times numbers s next event box stepped

pub play-times : (events : List Event) (numbers : List ℕ) (s final : State) → IsInWidths s.widths numbers
    → play (Some s) events ≡ Some final → times numbers final ≡ times numbers s
play-times [] numbers s final box is = let same : s ≡ final = cc in ap (times numbers) (sym same)
play-times (event ∷ events) numbers s final box is =
    then-times events numbers s final event (step s event)
    (λ t. play-times events numbers t final) box refl is

-- ---- the opening state

root-times : (widths numbers : List ℕ) → 0 < length widths → IsInWidths widths numbers
    → times_in numbers (root widths) ≡ 1
root-times widths [] some box = absurd (omega (arith, box.covers))
root-times widths (i ∷ rest) some box = let within : i < slice_index widths 0 = box.each 0 some in grind (arith, nat_tests)

opening-times : (widths : List ℕ) (workers : ℕ) (numbers : List ℕ) → 0 < length widths
    → IsInWidths widths numbers → times numbers (opening widths workers) ≡ 1
opening-times widths workers numbers some box =
    omega (arith, root-times widths numbers some box, sum_by-replicate (times_in_hand numbers) workers None)

pub after-times : (widths : List ℕ) (workers : ℕ) (events : List Event) (state : State) (numbers : List ℕ)
    → 0 < length widths → after widths workers events ≡ Some state
    → IsInWidths widths numbers → times numbers state ≡ 1
after-times widths workers events state numbers some is box =
    play-times events numbers (opening widths workers) state box is
    ∙ opening-times widths workers numbers some box
