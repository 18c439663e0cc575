use Rattle.std.proofs.Common.{◌≡◌, ℕ, Some, ◌∙◌, subst, arith}
use Rattle.std.specs.Prelude.{slice_get}
use Rattle.std.proofs.lemmas.Option.{get_or_from_slice_get}
use Rattle.roster_model.specs.records.Duty.{Duty}
use Rattle.roster_restrules.specs.declared.times.DutyTimes.{DutyTimes}
use Rattle.roster_restrules.specs.Times.{AreTimesOf}
use Rattle.roster_model.proofs.PushLemmas.{each-next}
use Rattle.roster_restrules.proofs.times.Times.new.Goals as goal

pub loop-i-preserved : goal.loop-i-preserved
loop-i-preserved c =
    let days = c.args.days.now in
    let duties = c.args.duties.now in
    let i = c.loop-i.i in
    let known = λ (k : ℕ) (at : DutyTimes). (duty : Duty) → slice_get duties k ≡ Some duty → AreTimesOf days duty at in
    let here : known i c.times_of.result = λ duty is.
    let same : c.index-duties-i.result ≡ duty =
    c.index-duties-i.is ∙ get_or_from_slice_get duties i duty c.index-duties-i.result is in
    subst (λ d. AreTimesOf days d c.times_of.result) same c.times_of.ensures in
    let next = each-next known i c.loop-i.times.items c.push.new.self.items c.times_of.result c.in_ok-push.ensures.items c.loop-i.invariant.long c.loop-i.invariant.each here in
    record { long = next.0; each = next.1 }

pub invariant_of-result : goal.invariant_of-result
invariant_of-result c =
    let long = c.loop-i.invariant.long in
    record {
      begins = c.month_start.ensures;
      each = record {
        covers = omega (arith, long, c.loop-i-test.false);
        each = λ i duty at is times. c.loop-i.invariant.each i at times duty is;
      };
    }
