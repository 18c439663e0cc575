-- What a replay keeps, and that it ends at rest. Each event but `Finish` leaves the finished spans as they
-- are, and `finish` lists a part for its worker (`replays-finish`). After the last step nobody has a span,
-- and worker 0 takes and finishes what is pending.
use Rattle.std.proofs.Common.{◌≡◌, ℕ, ◌<◌, ◌==◌, Bool, true, false, List, [], ◌∷◌, ◌++◌, length, map, replicate, refl, sym, ap, ◌∙◌, subst, arith, Option, Some, None, Result, Ok, Err, inl, inr}
use Rattle.std.specs.Prelude.{◌&&◌, All, OnOk, if◌then◌else◌, slice_get, slice_index_or, slice_set}
use Rattle.std.proofs.lemmas.Bool.{cases_Bool, eq-eqb, eqb-true}
use Rattle.std.proofs.lemmas.Cmp.{nat_list_eq_equiv}
use Rattle.std.proofs.lemmas.List.{append-nil, get_or-replicate, get_or-set_other, get_or-set_same, length-replicate, length-set, map_push}
use Rattle.std.proofs.lemmas.List.Elements.{All-from_get_or, All-get_or, All-nil, All-push, All-replicate, All-same, All-set, All-weaker}
use Rattle.roster_model.specs.Problem.{Problem}
use Rattle.roster_model.specs.Rosters.{Key, key_le}
use Rattle.roster_model.specs.Settled.{IsHeld}
use Rattle.roster_subtreepool_spans.specs.Spans.{Span}
use Rattle.roster_subtreepool.specs.States.{IsAtRest, SettledSpan, State, held, opening, step}
use Rattle.roster_subtreepool.specs.declared.event.Event.TheVariants.{Finish}
use Rattle.roster_subtreepool.specs.Refusals.{hand_fault, is_held, is_same, told}
use Rattle.roster_subtreepool.specs.declared.fault.PoolFault.TheVariants.{Memory, NotYours}
use Rattle.roster_subtreepool.proofs.StepLemmas.{finish-is, step-keeps}
use Rattle.roster_subtreepool.proofs.TimesLemmas.{held_within}
use Rattle.roster_incumbent.specs.Kept.{less_of}
use Rattle.roster_combine_workers.specs.Parts.{AreSettled, IsSettled, Task, span_of, spans_by, spans_if}
use Rattle.roster_combine_workers.specs.Replays.{IsIdle, IsReplaying}
use Rattle.roster_combine_workers.proofs.PartLemmas.{spans_by-more}

-- ---- what was handed in

-- at first nothing
pub replays-opening : (task : Task) (widths : List ℕ) (workers : ℕ) (lists : List (List SettledSpan)) (best : Key)
    → IsHeld task.problem best → widths ≡ map length task.table → lists ≡ replicate workers []
    → IsReplaying task (opening widths workers) lists best
replays-opening task widths workers lists best held same none = record {
  held = held;
  settled = All-same (AreSettled task.problem task.table) lists (replicate workers []) none (All-replicate (AreSettled task.problem task.table) workers [] (All-nil (IsSettled task.problem task.table)));
  agree = record {
    covers = same;
    workers = All-nil (λ (entry : ℕ × Span). entry.0 < length lists);
    spans = λ worker within. ap (map span_of) (ap (λ (ls : List (List SettledSpan)). slice_index_or ls worker []) none ∙ get_or-replicate workers worker [] [] (omega (arith, within, ap length none, length-replicate workers (nothing))));
  };
  hands = length-replicate workers no_span ∙ sym (ap length none ∙ length-replicate workers nothing);
} where
  nothing : List SettledSpan
  nothing = []

  no_span : Option Span
  no_span = None

held_less : (problem : Problem) (old new : Key) (b : Bool) → key_le old new ≡ b → IsHeld problem old
    → IsHeld problem new → IsHeld problem (less_of old new)
held_less problem old new true is first second =
    subst (λ (key : Key). IsHeld problem key) (sym (ap (λ b. if b then old else new) is)) first
held_less problem old new false is first second =
    subst (λ (key : Key). IsHeld problem key) (sym (ap (λ b. if b then old else new) is)) second

-- the worker's own list and those of the others, where the worker hands in a part
own_spans : (finished : List (ℕ × Span)) (worker : ℕ) (parts : List SettledSpan) (part : SettledSpan)
    → map span_of parts ≡ spans_by worker finished
    → map span_of (parts ++ part ∷ []) ≡ spans_by worker (finished ++ (worker, part.span) ∷ [])
own_spans finished worker parts part same =
    map_push span_of parts part
    ∙ ap (λ spans. spans ++ part.span ∷ []) same
    ∙ ap (λ b. spans_by worker finished ++ spans_if b part.span []) (sym (eq-eqb worker worker refl))
    ∙ sym (spans_by-more finished worker worker part.span)

other_spans : (finished : List (ℕ × Span)) (worker by : ℕ) (span : Span) → (by == worker) ≡ false
    → spans_by worker finished ≡ spans_by worker (finished ++ (by, span) ∷ [])
other_spans finished worker by span other =
    sym (append-nil (spans_by worker finished))
    ∙ ap (λ b. spans_by worker finished ++ spans_if b span []) (sym other)
    ∙ sym (spans_by-more finished worker by span)

-- the best roster is raised to a legal one
pub replays-raise : (task : Task) (s : State) (lists : List (List SettledSpan)) (best found : Key)
    → IsReplaying task s lists best → IsHeld task.problem found
    → IsReplaying task s lists (less_of best found)
replays-raise task s lists best found old held = record {
  held = held_less task.problem best found (key_le best found) refl old.held held;
  settled = old.settled;
  agree = old.agree;
  hands = old.hands;
}

-- a worker hands in a part
pub replays-finish : (task : Task) (s next : State) (worker : ℕ) (part : SettledSpan) (lists : List (List SettledSpan)) (best : Key) → IsReplaying task s lists best
    → held s worker ≡ Some part.span → step s (Finish worker) ≡ Some next
    → IsSettled task.problem task.table part
    → IsReplaying task next (slice_set lists worker (slice_index_or lists worker [] ++ part ∷ [])) best
replays-finish task s next worker part lists best old has is settled = record {
  held = old.held;
  settled = All-set (AreSettled task.problem task.table) lists worker more
      (All-push (IsSettled task.problem task.table) own part (All-get_or (AreSettled task.problem task.table) lists worker [] within old.settled) settled) old.settled;
  agree = record {
    covers = ap (λ (t : State). t.widths) made ∙ old.agree.covers;
    workers =
        subst (λ finished. All (λ (e : ℕ × Span). e.0 < length (slice_set lists worker more)) finished)
        (sym finished)
        (All-push (λ (e : ℕ × Span). e.0 < length (slice_set lists worker more)) s.finished entry
        (All-weaker (λ (e : ℕ × Span). e.0 < length lists) (λ (e : ℕ × Span). e.0 < length (slice_set lists worker more)) (λ e below. omega (arith, below, long)) s.finished old.agree.workers)
        (omega (arith, within, long)));
    spans =
        λ k inside. spans k (omega (arith, inside, long)) (k == worker) refl ∙ ap (spans_by k) (sym finished);
  };
  hands = (step-keeps s next (Finish worker) is).hands ∙ old.hands ∙ sym long;
} where
  own : List SettledSpan
  own = slice_index_or lists worker []

  more : List SettledSpan
  more = own ++ part ∷ []

  entry : ℕ × Span
  entry = (worker, part.span)

  made : next ≡ record s { hands = slice_set s.hands worker None; finished = s.finished ++ entry ∷ [] }
  made = finish-is s next worker part.span has is

  finished : next.finished ≡ s.finished ++ entry ∷ []
  finished = ap (λ (t : State). t.finished) made

  within : worker < length lists
  within = omega (arith, held_within s worker part.span has, old.hands)

  long : length (slice_set lists worker more) ≡ length lists
  long = length-set lists worker more

  spans : (k : ℕ) → k < length lists → (b : Bool) → (k == worker) ≡ b → map span_of (slice_index_or (slice_set lists worker more) k []) ≡ spans_by k (s.finished ++ entry ∷ [])
  spans k inside true same =
      let here : k ≡ worker = eqb-true k worker same in
      subst (λ j. map span_of (slice_index_or (slice_set lists worker more) j []) ≡ spans_by j (s.finished ++ entry ∷ [])) (sym here)
      (ap (map span_of) (get_or-set_same lists worker more [] within) ∙ own_spans s.finished worker own part (old.agree.spans worker within))
  spans k inside false other =
      ap (map span_of) (get_or-set_other lists worker k more [] (λ here. differ (sym here) other))
      ∙ old.agree.spans k inside
      ∙ other_spans s.finished k worker part.span (swapped other)
    where
      differ : worker ≡ k → (k == worker) ≡ false → ⊥
      differ here none = let here' = eq-eqb k worker (sym here) in absurd (cc)

      swapped : (k == worker) ≡ false → (worker == k) ≡ false
      swapped none = elim (cases_Bool (worker == k)) [
        | inl same ↦ absurd (differ (eqb-true worker k same) none)
        | inr other ↦ other
      ]

-- ---- the hands

first_of : (pending : List Span) → 0 < length pending → (span : Span) × (slice_get pending 0 ≡ Some span)
first_of [] some = absurd (omega (arith, some))
first_of (span ∷ rest) some = (span, refl)

pub at_rest : (s : State) → IsIdle s → s.pending ≡ [] → IsAtRest s
at_rest s idle none =
    record { pending = none; hands = All-from_get_or (λ hand. hand ≡ None) s.hands None (λ k within. idle k) }

-- ---- what the pool refuses

same_span : (span : Span) → is_same span span ≡ true
same_span span =
    ap (λ b. b && (span.lo == span.lo) && (span.hi == span.hi)) (nat_list_eq_equiv.refl span.path)
    ∙ ap (λ b. b && (span.hi == span.hi)) (eq-eqb span.lo span.lo refl)
    ∙ eq-eqb span.hi span.hi refl

-- a span goes out of the hand that has it, but for want of memory
pub told-own : (s : State) (worker : ℕ) (span : Span) → held s worker ≡ Some span
    → told (hand_fault s worker span) ≡ Memory
told-own s worker span has =
    ap (λ hand. told (if is_held hand span then None else Some NotYours)) has
    ∙ ap (λ b. told (if b then None else Some NotYours)) (same_span span)

-- what is refused for no other cause than this doesn't end well
pub never-ok : {A E Cause : Type 0} (Wanted : Type 0) (ended : Result A E) → OnOk ended (¬ Cause) → Cause
    → OnOk ended Wanted
never-ok Wanted (Ok value) never cause = absurd (never cause)
never-ok Wanted (Err error) never cause = tt
