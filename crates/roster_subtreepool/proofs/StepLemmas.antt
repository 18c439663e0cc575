-- What each event keeps and what it changes.
use Rattle.std.proofs.Common.{length-append, ◌≡◌, ℕ, ◌+◌, Bool, true, false, List, [], ◌∷◌, ◌++◌, length, refl, sym, ap, ◌∙◌, subst, arith, Option, Some, None}
use Rattle.std.specs.Prelude.{if◌then◌else◌, option_and_then, slice_get, slice_set}
use Rattle.std.proofs.lemmas.List.Sums.{sum_by-cons, sum_by_push}
use Rattle.std.proofs.Math.ListN.{length-set}
use Rattle.roster_subtreepool_spans.specs.Spans.{Span}
use Rattle.roster_subtreepool.specs.States.{IsKept, State, after, back_in, can_descend, can_halve, descend_in, finish_in, finished_by, finishes, halve_in, held, opening, play, step, take_in}
use Rattle.roster_subtreepool.specs.declared.event.Event.{Event}
use Rattle.roster_subtreepool.specs.declared.event.Event.TheVariants.{Take, Halve, Descend, Back, Finish}

-- the widths stay, and so does the number of hands
pub record Keeps (old new : State) : Type 0 where
  pub widths : new.widths ≡ old.widths
  pub hands : length new.hands ≡ length old.hands

keeps_if : (old made new : State) (b : Bool) → Keeps old made → (if b then Some made else None) ≡ Some new
    → Keeps old new
keeps_if old made new true kept is = let same : made ≡ new = cc in subst (Keeps old) same kept
keeps_if old made new false kept is = absurd (cc)

keeps_some : (old made new : State) → Keeps old made → Some made ≡ Some new → Keeps old new
keeps_some old made new kept is = let same : made ≡ new = cc in subst (Keeps old) same kept

-- with the hand and the pending span as they are found
take-keeps : (s next : State) (worker place : ℕ) (hand : Option (Option Span)) (there : Option Span)
    → take_in s worker place hand there ≡ Some next → Keeps s next
take-keeps s next worker place (Some None) (Some span) is =
    keeps_some s _ next (record { widths = refl; hands = length-set s.hands worker (Some span) }) is
take-keeps s next worker place (Some None) None is = absurd (cc)
take-keeps s next worker place (Some (Some span)) there is = absurd (cc)
take-keeps s next worker place None there is = absurd (cc)

halve-keeps : (s next : State) (worker : ℕ) (hand : Option Span) → halve_in s worker hand ≡ Some next
    → Keeps s next
halve-keeps s next worker (Some span) is =
    keeps_if s _ next (can_halve span) (record { widths = refl; hands = length-set s.hands worker _ }) is
halve-keeps s next worker None is = absurd (cc)

descend-keeps : (s next : State) (worker : ℕ) (hand : Option Span) → descend_in s worker hand ≡ Some next
    → Keeps s next
descend-keeps s next worker (Some span) is =
    keeps_if s _ next (can_descend s.widths span)
    (record { widths = refl; hands = length-set s.hands worker _ }) is
descend-keeps s next worker None is = absurd (cc)

back-keeps : (s next : State) (worker : ℕ) (hand : Option Span) → back_in s worker hand ≡ Some next
    → Keeps s next
back-keeps s next worker (Some span) is =
    keeps_some s _ next (record { widths = refl; hands = length-set s.hands worker None }) is
back-keeps s next worker None is = absurd (cc)

finish-keeps : (s next : State) (worker : ℕ) (hand : Option Span) → finish_in s worker hand ≡ Some next
    → Keeps s next
finish-keeps s next worker (Some span) is =
    keeps_some s _ next (record { widths = refl; hands = length-set s.hands worker None }) is
finish-keeps s next worker None is = absurd (cc)

pub step-keeps : (s next : State) (event : Event) → step s event ≡ Some next → Keeps s next
step-keeps s next (Take worker place) is =
    take-keeps s next worker place (slice_get s.hands worker) (slice_get s.pending place) is
step-keeps s next (Halve worker) is = halve-keeps s next worker (held s worker) is
step-keeps s next (Descend worker) is = descend-keeps s next worker (held s worker) is
step-keeps s next (Back worker) is = back-keeps s next worker (held s worker) is
step-keeps s next (Finish worker) is = finish-keeps s next worker (held s worker) is

-- ---- one event after others

pub play-none : (events : List Event) → play None events ≡ None
play-none [] = refl
play-none (event ∷ events) = play-none events

pub play-more : (s : Option State) (events : List Event) (event : Event)
    → play s (events ++ event ∷ []) ≡ option_and_then (λ t. step t event) (play s events)
play-more s [] event = refl
play-more s (first ∷ events) event = play-more (option_and_then (λ t. step t first) s) events event

-- the state stays the replay of what happened
pub after-more : (s next : State) (events : List Event) (event : Event)
    → after s.widths (length s.hands) events ≡ Some s → step s event ≡ Some next
    → after next.widths (length next.hands) (events ++ event ∷ []) ≡ Some next
after-more s next events event replay is =
    let kept = step-keeps s next event is in
    ap (λ widths. after widths (length next.hands) (events ++ event ∷ [])) kept.widths
    ∙ ap (λ workers. after s.widths workers (events ++ event ∷ [])) kept.hands
    ∙ play-more _ events event
    ∙ ap (option_and_then (λ t. step t event)) replay
    ∙ is

-- ---- what a pool keeps

-- one event more, and the ledger's total with it
pub pool-more : (s next : State) (before same events : List Event) (event : Event) (total later : ℕ)
    → IsKept (record { state = s; events = before }) total
    → step s event ≡ Some next → same ≡ before → events ≡ same ++ event ∷ []
    → later ≡ total + finished_by event
    → IsKept (record { state = next; events = events }) later
pool-more s next before same events event total later kept is kept_events longer counted =
    let added : events ≡ before ++ event ∷ [] =
    longer ∙ ap (λ (es : List Event). es ++ event ∷ []) kept_events in
    let replay = after-more s next before event kept.replay is in
    record {
      replay = subst (λ es. after next.widths (length next.hands) es ≡ Some next) (sym added) replay;
      counted =
          counted ∙ ap (λ n. n + finished_by event) kept.counted ∙ sym (sum_by_push finished_by before event)
          ∙ ap finishes (sym added);
      persons =
          omega (arith, kept.persons, ap (λ (xs : List ℕ). length xs) (step-keeps s next event is).widths);
    }

-- ---- what is finished

same_some : (s made next : State) → made.finished ≡ s.finished → Some made ≡ Some next
    → next.finished ≡ s.finished
same_some s made next kept is = let same : made ≡ next = cc in subst (λ (t : State). t.finished ≡ s.finished) same kept

same_if : (s made next : State) (b : Bool) → made.finished ≡ s.finished
    → (if b then Some made else None) ≡ Some next → next.finished ≡ s.finished
same_if s made next true kept is = same_some s made next kept is
same_if s made next false kept is = absurd (cc)

take-same : (s next : State) (worker place : ℕ) (hand : Option (Option Span)) (there : Option Span)
    → take_in s worker place hand there ≡ Some next → next.finished ≡ s.finished
take-same s next worker place (Some None) (Some span) is = same_some s _ next refl is
take-same s next worker place (Some None) None is = absurd (cc)
take-same s next worker place (Some (Some span)) there is = absurd (cc)
take-same s next worker place None there is = absurd (cc)

halve-same : (s next : State) (worker : ℕ) (hand : Option Span) → halve_in s worker hand ≡ Some next
    → next.finished ≡ s.finished
halve-same s next worker (Some span) is = same_if s _ next (can_halve span) refl is
halve-same s next worker None is = absurd (cc)

descend-same : (s next : State) (worker : ℕ) (hand : Option Span) → descend_in s worker hand ≡ Some next
    → next.finished ≡ s.finished
descend-same s next worker (Some span) is = same_if s _ next (can_descend s.widths span) refl is
descend-same s next worker None is = absurd (cc)

back-same : (s next : State) (worker : ℕ) (hand : Option Span) → back_in s worker hand ≡ Some next
    → next.finished ≡ s.finished
back-same s next worker (Some span) is = same_some s _ next refl is
back-same s next worker None is = absurd (cc)

-- an event that finishes no span lists none
pub step-same : (s next : State) (event : Event) → finished_by event ≡ 0 → step s event ≡ Some next
    → next.finished ≡ s.finished
step-same s next (Take worker place) none is =
    take-same s next worker place (slice_get s.hands worker) (slice_get s.pending place) is
step-same s next (Halve worker) none is = halve-same s next worker (held s worker) is
step-same s next (Descend worker) none is = descend-same s next worker (held s worker) is
step-same s next (Back worker) none is = back-same s next worker (held s worker) is
step-same s next (Finish worker) none is = absurd (omega (arith, none))

finish-more : (s next : State) (worker : ℕ) (hand : Option Span) → finish_in s worker hand ≡ Some next
    → length next.finished ≡ length s.finished + 1
finish-more s next worker (Some span) is =
    let entry : ℕ × Span = (worker, span) in
    let same : record s { hands = slice_set s.hands worker None; finished = s.finished ++ entry ∷ [] } ≡ next = cc in
    subst (λ (t : State). length t.finished ≡ length s.finished + 1) same
    (length-append s.finished (entry ∷ []))
finish-more s next worker None is = absurd (cc)

-- the finished spans are as many as the events that finished one
none_more : (s next : State) (event : Event) → finished_by event ≡ 0 → step s event ≡ Some next
    → length next.finished ≡ length s.finished + finished_by event
none_more s next event none is =
    omega (arith, none, ap (λ (xs : List (ℕ × Span)). length xs) (step-same s next event none is))

step-finished : (s next : State) (event : Event) → step s event ≡ Some next
    → length next.finished ≡ length s.finished + finished_by event
step-finished s next (Take worker place) is = none_more s next (Take worker place) refl is
step-finished s next (Halve worker) is = none_more s next (Halve worker) refl is
step-finished s next (Descend worker) is = none_more s next (Descend worker) refl is
step-finished s next (Back worker) is = none_more s next (Back worker) refl is
step-finished s next (Finish worker) is = finish-more s next worker (held s worker) is

then-finished : (events : List Event) (s final : State) (event : Event) (next : Option State)
    → ((t : State) → play (Some t) events ≡ Some final → length final.finished ≡ length t.finished + finishes events)
    → step s event ≡ next → play next events ≡ Some final
    → length final.finished ≡ length s.finished + finishes (event ∷ events)
then-finished events s final event None later stepped is = let none = play-none events in absurd (cc)
then-finished events s final event (Some next) later stepped is =
    omega (arith, later next is, step-finished s next event stepped, sum_by-cons finished_by event events)

play-finished : (events : List Event) (s final : State) → play (Some s) events ≡ Some final
    → length final.finished ≡ length s.finished + finishes events
play-finished [] s final is = let same : s ≡ final = cc in omega (arith, ap (λ (t : State). length t.finished) same)
play-finished (event ∷ events) s final is =
    then-finished events s final event (step s event) (λ t. play-finished events t final) refl is

pub after-finished : (widths : List ℕ) (workers : ℕ) (events : List Event) (state : State)
    → after widths workers events ≡ Some state → length state.finished ≡ finishes events
after-finished widths workers events state is =
    omega (arith, play-finished events (opening widths workers) state is)

-- ---- what the hands become

pub finish-is : (s next : State) (worker : ℕ) (span : Span) → held s worker ≡ Some span
    → step s (Finish worker) ≡ Some next
    → next ≡ record s { hands = slice_set s.hands worker None; finished = s.finished ++ (worker, span) ∷ [] }
finish-is s next worker span has is = let made = ap (finish_in s worker) has in cc
