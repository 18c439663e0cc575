-- Blocks of duties of which the times are known.
use Rattle.std.proofs.Common.{◌≡◌, ℕ, ◌+◌, ◌-◌, ◌<◌, ◌≤◌, List, length, Some, sym, subst, inl, inr, arith}
use Rattle.std.specs.Prelude.{All, slice_get}
use Rattle.std.proofs.lemmas.Option.{slice_get_cases}
use Rattle.roster_model.specs.Calendar.{month_start}
use Rattle.roster_model.specs.declared.limits.TheConstants.{LAST_INSTANT}
use Rattle.roster_model.specs.declared.profile.TheConstants.{BETWEEN_RECURRENT_RESTS}
use Rattle.roster_model.specs.records.Duty.{Duty}
use Rattle.roster_model.specs.Rules.Recovery.{HasRestAfter, IsRecurrent, KeepsRecovery}
use Rattle.roster_problem.specs.Duties.{picked, IsInOrder}
use Rattle.roster_problem.proofs.PositionLists.{length-picked}
use Rattle.roster_restrules.specs.Block.{EndsInTime, IsBlock}
use Rattle.roster_restrules.specs.declared.times.DutyTimes.{DutyTimes}
use Rattle.roster_restrules.specs.Times.{IsAt, Timed}
use Rattle.roster_restrules.proofs.Blocks.{ends_in_block, longer_block, recurrent_at}

module _ (timed : Timed) (positions : List ℕ) (within : All (λ p. p < length timed.duties) positions) where
  there : (i : ℕ) → i < length positions
      → (duty : Duty) × (slice_get (picked timed.duties positions) i ≡ Some duty)
  there i inside =
      let long = length-picked timed.duties positions within in
      elim (slice_get_cases (picked timed.duties positions) i).1 [
        | inl found ↦ (found.0, found.2)
        | inr past ↦ absurd (let after = past.0 in omega arith)
      ]

  -- after a recurrent rest a block begins,
  pub block-begins : (i : ℕ) (before at : DutyTimes) → 0 < i → i < length positions
      → IsAt timed positions (i - 1) before → IsAt timed positions i at → at.report ≤ LAST_INSTANT
      → before.rested ≤ at.report → IsBlock timed.days (picked timed.duties positions) i i
  block-begins i before at later inside is_before is_at short rested =
      let a = there (i - 1) (omega arith) in
      let b = there i inside in
      let first = is_before a.0 a.1 in
      let second = is_at b.0 b.1 in
      let next : i ≡ i - 1 + 1 = omega arith in
      let recurrent = (first.rested at.report short).1 rested in
      record {
        order = omega arith;
        unbroken = λ k from past. absurd (omega arith);
        begins = λ k is.
            let same : i - 1 ≡ k = omega arith in
            subst (HasRestAfter timed.days (picked timed.duties positions)) same (record {
              last = a.0;
              next = b.0;
              before = a.1;
              after = subst (λ n. slice_get (picked timed.duties positions) n ≡ Some b.0) next b.1;
              recurrent = subst (λ to. IsRecurrent timed.days a.0.release to) second.report recurrent;
            });
      }

  -- and if there is none, it goes on
  pub block-goes_on : (first i : ℕ) (before at : DutyTimes) → 0 < i → i < length positions
      → IsAt timed positions (i - 1) before → IsAt timed positions i at → at.report ≤ LAST_INSTANT
      → at.report < before.rested → IsBlock timed.days (picked timed.duties positions) first (i - 1)
      → IsBlock timed.days (picked timed.duties positions) first i
  block-goes_on first i before at later inside is_before is_at short tired block =
      let a = there (i - 1) (omega arith) in
      let b = there i inside in
      let front = is_before a.0 a.1 in
      let back = is_at b.0 b.1 in
      let next : i ≡ i - 1 + 1 = omega arith in
      longer_block timed.days (picked timed.duties positions) first i block (λ past rest.
      let recurrent =
      recurrent_at timed.days (picked timed.duties positions) (i - 1) a.0 b.0 a.1
      (subst (λ n. slice_get (picked timed.duties positions) n ≡ Some b.0) next b.1) rest in
      let rested =
      (front.rested at.report short).0
      (subst (λ to. IsRecurrent timed.days a.0.release to) (sym back.report) recurrent) in
      omega arith)

  -- what the times of a block's first and last duty say
  pub in_time : (start first i : ℕ) (begun ended : DutyTimes) → i < length positions
      → start ≡ month_start timed.days → IsInOrder (picked timed.duties positions)
      → IsBlock timed.days (picked timed.duties positions) first i → IsAt timed positions first begun
      → IsAt timed positions i ended
      → (start < ended.release → ended.release ≤ begun.report + BETWEEN_RECURRENT_RESTS)
      → EndsInTime timed.days (picked timed.duties positions) i
  in_time start first i begun ended inside is_start ordered block is_begun is_ended soon =
      let order = block.order in
      let a = there first (omega arith) in
      let b = there i inside in
      let report = (is_begun a.0 a.1).report in
      let release = (is_ended b.0 b.1).release in
      ends_in_block timed.days (picked timed.duties positions) first i a.0 b.0 ordered block a.1 b.1 (λ late.
      let kept : ended.release ≤ begun.report + BETWEEN_RECURRENT_RESTS = soon (omega arith) in
      omega arith)

  pub not_in_time : (start first i : ℕ) (begun ended : DutyTimes) → i < length positions
      → start ≡ month_start timed.days → IsBlock timed.days (picked timed.duties positions) first i
      → IsAt timed positions first begun → IsAt timed positions i ended
      → KeepsRecovery timed.days (picked timed.duties positions) → start < ended.release
      → ended.release ≤ begun.report + BETWEEN_RECURRENT_RESTS
  not_in_time start first i begun ended inside is_start block is_begun is_ended keeps late =
      let order = block.order in
      let a = there first (omega arith) in
      let b = there i inside in
      let report = (is_begun a.0 a.1).report in
      let release = (is_ended b.0 b.1).release in
      let kept = keeps first i a.0 b.0 order a.1 b.1 block.unbroken (omega arith) in
      omega arith
