-- Pairings of a legal set, one behind another, between which no recurrent rest lies.
use Rattle.std.proofs.Common.{◌≡◌, ℕ, zero, suc, ◌+◌, ◌<◌, ◌≤◌, Bool, true, false, cond, List, [], ◌∷◌, get_or, Some, sym, ◌∙◌, subst, inl, inr, arith}
use Rattle.std.specs.Prelude.{filter, slice_get}
use Rattle.std.proofs.lemmas.Bool.{cases_Bool, cond-true, cond-false, eqb-true, false≢true}
use Rattle.std.proofs.lemmas.List.Elements.{All-filter}
use Rattle.std.proofs.lemmas.Option.{none-some, same_Some, slice_get-get_or, slice_get_within}
use Rattle.roster_model.specs.Calendar.{Days, month_start}
use Rattle.roster_model.specs.declared.profile.TheConstants.{BETWEEN_RECURRENT_RESTS}
use Rattle.roster_model.specs.Problem.{Problem, home_of}
use Rattle.roster_model.specs.records.Duty.{Duty, Holder, OfPairing, OfPerson, is_held_by_pairing}
use Rattle.roster_model.specs.Rules.{duty_list, is_among, is_listed, Holds, IsLegal, OverlapRule, RecoveryRule, Rule}
use Rattle.roster_problem.specs.Duties.{is_of_pairing, AreTimed, IsInOrder}
use Rattle.roster_legal.proofs.Parts.{list_ordered}
use Rattle.roster_plan_bound.specs.declared.span.Span.{Span}
use Rattle.roster_plan_bound.specs.Spans.{own_duties, GoesOn, IsBegun, IsSolid, IsSpan}
use Rattle.roster_plan_bound.specs.Unrested.{IsUnrested}
use Rattle.roster_plan_bound.proofs.UnrestedLemmas.{unrested-alone, unrested-ends, unrested-next}

-- ---- what stands on a shorter list stands on a longer one

module _ (test whole : Duty → Bool) (more : (d : Duty) → test d ≡ true → whole d ≡ true) where
  abbrev IsOn : Duty → List Duty → Type 0
  IsOn d list = (i : ℕ) × (slice_get list i ≡ Some d)

  behind_any : (kept : Bool) (x d : Duty) (list : List Duty) → IsOn d list → IsOn d (cond kept (x ∷ list) list)
  behind_any true x d list on = (suc on.0, on.1)
  behind_any false x d list on = on

  behind_one : (x d : Duty) (part list : List Duty) (i : ℕ)
      → ((j : ℕ) → slice_get part j ≡ Some d → IsOn d list) → slice_get (x ∷ part) i ≡ Some d
      → IsOn d (x ∷ list)
  behind_one x d part list zero later at = (0, at)
  behind_one x d part list (suc i) later at = let on = later i at in (suc on.0, on.1)

  stays_on : (list : List Duty) (i : ℕ) (d : Duty) → slice_get (filter test list) i ≡ Some d
      → IsOn d (filter whole list)
  stays_on [] i d at = absurd (none-some d at)
  stays_on (x ∷ list) i d at =
      let part = filter test list in
      let all = filter whole list in
      elim (cases_Bool (test x)) [
        | inl passes ↦
            let here = subst (λ ds. slice_get ds i ≡ Some d) (cond-true (test x) (x ∷ part) part passes) at in
            subst (IsOn d) (sym (cond-true (whole x) (x ∷ all) all (more x passes)))
            (behind_one x d part all i (λ j. stays_on list j d) here)
        | inr fails ↦
            let here = subst (λ ds. slice_get ds i ≡ Some d) (cond-false (test x) (x ∷ part) part fails) at in
            behind_any (whole x) x d all (stays_on list i d here)
      ]

-- ---- the duties of a legal set

own-listed : (k p : ℕ) (set : List ℕ) → is_among set p ≡ true → (holder : Holder)
    → is_held_by_pairing p holder ≡ true → is_listed k set holder ≡ true
own-listed k p set has (OfPairing q) own = subst (λ r. is_among set r ≡ true) (sym (eqb-true q p own)) has
own-listed k p set has (OfPerson j) own = absurd (false≢true own)

module _ (problem : Problem) (k : ℕ) (set : List ℕ) (ordered : IsInOrder problem.duties)
    (timed : AreTimed problem.duties) (legal : IsLegal problem k set) where
  abbrev days : Days
  days = (home_of problem k).days

  abbrev list : List Duty
  list = duty_list problem k set

  -- a set with a pairing keeps each rule
  pub holds : (p : ℕ) → is_among set p ≡ true → (rule : Rule) → Holds problem k set rule
  holds p has rule =
      elim legal [
        | inl empty ↦ absurd (false≢true (subst (λ s. is_among s p ≡ true) empty has))
        | inr each ↦ each rule
      ]

  pub list_timed : AreTimed list
  list_timed =
      All-filter (λ duty. is_listed k set duty.holder) (λ d. d.report < d.release) problem.duties timed

  -- the duties of its pairings are on the list
  pub on_list : (p i : ℕ) (d : Duty) → is_among set p ≡ true → slice_get (own_duties problem p) i ≡ Some d
      → (j : ℕ) × (slice_get list j ≡ Some d)
  on_list p i d has at =
      stays_on (is_of_pairing p) (λ duty. is_listed k set duty.holder)
      (λ duty. own-listed k p set has duty.holder) problem.duties i d at

  -- a duty of its pairings goes on with what isn't rested
  next_listed : (begin p i : ℕ) (d e : Duty) → is_among set p ≡ true
      → slice_get (own_duties problem p) i ≡ Some e → IsUnrested days list begin d → GoesOn d.release e.report
      → IsUnrested days list begin e
  next_listed begin p i d e has at is goes =
      let there = on_list p i e has at in
      unrested-next days list (list_ordered problem k set ordered) list_timed (holds p has OverlapRule) begin there.0 d e is there.1 goes.0 goes.1

  -- so does each of a solid pairing
  along : (begin p : ℕ) (first : Duty) → is_among set p ≡ true → IsSolid (own_duties problem p)
      → slice_get (own_duties problem p) 0 ≡ Some first → IsUnrested days list begin first → (i : ℕ) (d : Duty)
      → slice_get (own_duties problem p) i ≡ Some d → IsUnrested days list begin d
  along begin p first has solid begins is zero d at =
      subst (IsUnrested days list begin) (same_Some first d (sym begins ∙ at)) is
  along begin p first has solid begins is (suc i) d at =
      let own = own_duties problem p in
      let next : suc i ≡ i + 1 = omega arith in
      let inside = slice_get_within own (suc i) d at in
      let before = slice_get-get_or own i d (omega arith) in
      let goes =
      solid i (get_or own i d) d before (subst (λ n. slice_get own n ≡ Some d) next at) in
      next_listed begin p (suc i) (get_or own i d) d has at
      (along begin p first has solid begins is i (get_or own i d) before) goes

  -- ---- its pairings

  -- no recurrent rest lies between the begin of a span and its end,
  pub begun-own : (p : ℕ) (span : Span) → is_among set p ≡ true → IsSpan problem p span
      → IsBegun problem k set p span.begin
  begun-own p span has is =
      elim (cases_Bool span.solid) [
        | inl solid ↦
            let first = on_list p 0 is.first has is.begins in
            let all =
            along is.first.report p is.first has (is.solid.0 solid) is.begins
            (unrested-alone days list first.0 is.first first.1) in
            subst (IsBegun problem k set p) (sym (is.begin ∙ cond-true span.solid is.first.report is.last.report solid))
            (record { last = is.last; ends = is.ends; unrested = all _ is.last is.ends })
        | inr broken ↦
            let last = on_list p _ is.last has is.ends in
            subst (IsBegun problem k set p) (sym (is.begin ∙ cond-false span.solid is.first.report is.last.report broken))
            (record { last = is.last; ends = is.ends; unrested = unrested-alone days list last.0 is.last last.1 })
      ]

  -- nor before the end of a solid one that goes on after another one,
  pub begun-next : (p q begin : ℕ) (one other : Span) → is_among set q ≡ true → IsSpan problem p one
      → IsSpan problem q other → IsBegun problem k set p begin → other.solid ≡ true
      → GoesOn one.release other.report → IsBegun problem k set q begin
  begun-next p q begin one other has is_one is_other begun solid goes =
      let same : begun.last ≡ is_one.last = same_Some begun.last is_one.last (sym begun.ends ∙ is_one.ends) in
      let before = subst (IsUnrested days list begin) same begun.unrested in
      let release = is_one.release in
      let report = is_other.report in
      let after : GoesOn is_one.last.release is_other.first.report =
      subst (λ r. GoesOn r is_other.first.report) release (subst (GoesOn one.release) report goes) in
      let first = next_listed begin q 0 is_one.last is_other.first has is_other.begins before after in
      record {
        last = is_other.last;
        ends = is_other.ends;
        unrested = along begin q is_other.first has (is_other.solid.0 solid) is_other.begins first _ is_other.last is_other.ends;
      }

  -- and so it ends in time
  pub begun-ends : (q begin : ℕ) (span : Span) → is_among set q ≡ true → IsSpan problem q span
      → IsBegun problem k set q begin → month_start days < span.release
      → span.release ≤ begin + BETWEEN_RECURRENT_RESTS
  begun-ends q begin span has is begun late =
      let same : begun.last ≡ is.last = same_Some begun.last is.last (sym begun.ends ∙ is.ends) in
      let unrested = subst (IsUnrested days list begin) same begun.unrested in
      let soon =
      unrested-ends days list begin is.last (holds q has RecoveryRule) unrested
      (subst (λ r. month_start days < r) is.release late) in
      subst (λ r. r ≤ begin + BETWEEN_RECURRENT_RESTS) (sym is.release) soon
