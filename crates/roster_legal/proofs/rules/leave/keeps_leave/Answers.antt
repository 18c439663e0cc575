use Rattle.std.proofs.Common.{◌≤◌, length, refl, sym, subst, arith}
use Rattle.std.proofs.lemmas.Bool.{false≢true, both_ways}
use Rattle.std.proofs.lemmas.List.{take_all}
use Rattle.std.proofs.lemmas.List.Elements.{All-more}
use Rattle.std.proofs.lemmas.Option.{get_or_from_slice_get}
use Rattle.roster_model.specs.Problem.{leaves_of}
use Rattle.roster_model.specs.Rules.Leave.{IsOffLeave, KeepsLeave}
use Rattle.roster_legal.proofs.rules.leave.keeps_leave.Goals as goal

pub returns-then-not-is_off_leave : goal.returns-then-not-is_off_leave
returns-then-not-is_off_leave c = (
  λ h. absurd (false≢true h),
  λ keeps.
      let here = get_or_from_slice_get c.args.list.now c.loop-i.i c.duty.result.now c.duty.result.now c.duty.ensures in
      let off =
      subst (IsOffLeave (leaves_of c.args.problem.now c.args.k)) here
      (keeps c.loop-i.i c.duty.result.now (omega arith)) in
      absurd (both_ways _ c.if-not-is_off_leave.true (c.is_off_leave.ensures.1 off)),
)

pub loop-i-preserved : goal.loop-i-preserved
loop-i-preserved c =
    let here =
    get_or_from_slice_get c.args.list.now c.loop-i.i c.duty.result.now c.duty.result.now c.duty.ensures in
    All-more (IsOffLeave (leaves_of c.args.problem.now c.args.k)) c.args.list.now c.loop-i.i c.duty.result.now
    (omega arith) c.loop-i.invariant
    (subst (IsOffLeave (leaves_of c.args.problem.now c.args.k)) (sym here) (c.is_off_leave.ensures.0 c.if-not-is_off_leave.false))

pub returns : goal.returns
returns c =
    let past : length c.args.list.now ≤ c.loop-i.i = omega arith in
    (λ _. subst (KeepsLeave (leaves_of c.args.problem.now c.args.k)) (take_all c.loop-i.i c.args.list.now past) c.loop-i.invariant, λ _. refl)
