use Rattle.std.proofs.Common.{◌≡◌, ◌+◌, ◌-◌, Some, subst, arith}
use Rattle.std.specs.Prelude.{slice_get}
use Rattle.std.proofs.lemmas.Bool.{both_ways}
use Rattle.roster_restrules.proofs.Blocks.{longer_block, recurrent_at}
use Rattle.roster_restrules.proofs.recovery.first_of_block.Goals.{else-i-gt0-via-then-i-gt0+else-have_rest_between, else-i-gt0-via-else-i-gt0}
use Rattle.roster_restrules.proofs.recovery.first_of_block.Goals as goal

pub returns-else-i-gt0 : goal.returns-else-i-gt0
returns-else-i-gt0 c =
    let list = c.args.list.now in
    let i = c.args.i in
    longer_block c.args.days.now list c.args.first i c.requires.block (elim c.else-i-gt0.branch [
      | else-i-gt0-via-then-i-gt0+else-have_rest_between w ↦ λ past rest.
          let next : i ≡ i - 1 + 1 = omega arith in
          let second =
          subst
          (λ k. slice_get list k ≡ Some w.duty-then-i-gt0.result.now) next w.duty-then-i-gt0.ensures in
          let recurrent = recurrent_at c.args.days.now list (i - 1) _ _ w.duty.ensures second rest in
          absurd (both_ways _ w.if-have_rest_between.false (w.have_rest_between.ensures.1 recurrent))
      | else-i-gt0-via-else-i-gt0 w ↦ λ past rest. absurd (omega (arith, w.if-i-gt0.false, past))
    ])
