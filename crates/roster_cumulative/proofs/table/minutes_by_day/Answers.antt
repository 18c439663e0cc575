use Rattle.std.proofs.Common.{◌+◌, get_or, take, sym, ap, ◌∙◌, arith}
use Rattle.std.specs.List.{sum_by}
use Rattle.std.proofs.lemmas.List.Sums.{sum_by_more}
use Rattle.std.proofs.lemmas.Option.{get_or_from_slice_get, slice_get_within}
use Rattle.roster_model.specs.records.Duty.{Duty}
use Rattle.roster_model.specs.declared.limits.TheConstants.{MOST_DAYS}
use Rattle.roster_cumulative.specs.Table.{minutes_of}
use Rattle.roster_cumulative.proofs.OnDay.{zeros}
use Rattle.roster_cumulative.proofs.table.minutes_by_day.Goals as goal

pub loop-k-init : goal.loop-k-init
loop-k-init c = record {
  value = λ i. zeros MOST_DAYS i;
  bound = λ i. omega (arith, zeros MOST_DAYS i);
}

pub loop-k-preserved : goal.loop-k-preserved
loop-k-preserved c =
    let list = c.args.list.now in
    let mid = c.args.days.now.mid in
    let k = c.loop-k.k in
    record {
      value = λ i.
          let minutes =
          λ (duty : Duty). minutes_of c.args.measure duty (get_or mid i 0) (get_or mid (i + 1) 0) in
          let more = sum_by_more minutes list k c.duty.result.now (slice_get_within list k _ c.duty.ensures)
          ∙ ap (λ duty. sum_by minutes (take k list) + minutes duty) (get_or_from_slice_get list k _ _ c.duty.ensures) in
          c.add_duty.ensures.added i ∙ ap (λ m. m + minutes c.duty.result.now) (c.loop-k.invariant.value i)
          ∙ sym more;
      bound = λ i. omega (arith, c.add_duty.ensures.added i, c.add_duty.ensures.bound (get_or mid i 0) (get_or mid (i + 1) 0), c.loop-k.invariant.bound i);
    }
