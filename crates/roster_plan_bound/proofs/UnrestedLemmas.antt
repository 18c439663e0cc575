-- Duties between which no recurrent rest lies: how they go on, and that they end in time.
use Rattle.std.proofs.Common.{◌≡◌, ℕ, ◌+◌, ◌<◌, ◌≤◌, List, Some, refl, subst, inl, inr, arith}
use Rattle.std.specs.Prelude.{slice_get}
use Rattle.std.proofs.lemmas.Bool.{cases_lt}
use Rattle.roster_model.proofs.OrderLemmas.{reports-later}
use Rattle.roster_model.specs.Calendar.{Days, month_start}
use Rattle.roster_model.specs.declared.profile.TheConstants.{BETWEEN_RECURRENT_RESTS, RECURRENT_REST}
use Rattle.roster_model.specs.records.Duty.{Duty}
use Rattle.roster_model.specs.Rules.Overlap.{NoOverlap}
use Rattle.roster_model.specs.Rules.Recovery.{HasRestAfter, KeepsRecovery}
use Rattle.roster_problem.specs.Duties.{AreTimed, IsInOrder}
use Rattle.roster_lines_table.proofs.Lists.{All-slice_get}
use Rattle.roster_legal.proofs.Apart.{releases-later}
use Rattle.roster_plan_bound.specs.Unrested.{IsUnrested}

-- a duty alone
pub unrested-alone : (days : Days) (list : List Duty) (i : ℕ) (d : Duty) → slice_get list i ≡ Some d
    → IsUnrested days list d.report d
unrested-alone days list i d at = record {
  from = i;
  to = i;
  first = d;
  order = omega arith;
  begins = at;
  reports = refl;
  ends = at;
  unrested = λ k from before. absurd (omega arith);
}

module _ (days : Days) (list : List Duty) (ordered : IsInOrder list) (timed : AreTimed list)
    (apart : NoOverlap list) where
  -- a duty that begins after another one ends stands behind it
  stands_behind : (i j : ℕ) (d e : Duty) → slice_get list j ≡ Some d → slice_get list i ≡ Some e
      → d.release ≤ e.report → j ≤ i
  stands_behind i j d e first second after =
      let ends : d.report < d.release = All-slice_get (λ d. d.report < d.release) list j d timed first in
      elim (cases_lt i j) [
        | inl before ↦
            let earlier = reports-later list ordered i j e d (omega arith) second first in
            absurd (omega arith)
        | inr behind ↦ behind
      ]

  -- nothing as long as a recurrent rest lies between two duties if the second begins sooner
  no_rest_between : (i j k : ℕ) (d e : Duty) → slice_get list j ≡ Some d → slice_get list i ≡ Some e
      → e.report < d.release + RECURRENT_REST → j ≤ k → k < i → ¬ HasRestAfter days list k
  no_rest_between i j k d e first second soon from before rest =
      let begun = releases-later list ordered timed apart j k d rest.last from first rest.before in
      let ended = reports-later list ordered (k + 1) i rest.next e (omega arith) rest.after second in
      let long = rest.recurrent.long in
      omega arith

  -- a duty that begins before a recurrent rest is over goes on with what isn't rested
  pub unrested-next : (begin : ℕ) (i : ℕ) (d e : Duty) → IsUnrested days list begin d
      → slice_get list i ≡ Some e → d.release ≤ e.report → e.report < d.release + RECURRENT_REST
      → IsUnrested days list begin e
  unrested-next begin i d e is at after soon =
      let behind = stands_behind i is.to d e is.ends at after in
      let order = is.order in
      record {
        from = is.from;
        to = i;
        first = is.first;
        order = omega arith;
        begins = is.begins;
        reports = is.reports;
        ends = at;
        unrested = λ k from before. elim (cases_lt k is.to) [
          | inl earlier ↦ is.unrested k from earlier
          | inr later ↦ no_rest_between i is.to k d e is.ends at soon later before
        ];
      }

-- the recovery rule says when it ends
pub unrested-ends : (days : Days) (list : List Duty) (begin : ℕ) (d : Duty) → KeepsRecovery days list
    → IsUnrested days list begin d → month_start days < d.release
    → d.release ≤ begin + BETWEEN_RECURRENT_RESTS
unrested-ends days list begin d keeps is late =
    let soon = keeps is.from is.to is.first d is.order is.begins is.ends is.unrested late in
    subst (λ t. d.release ≤ t + BETWEEN_RECURRENT_RESTS) is.reports soon
