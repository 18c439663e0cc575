use Rattle.std.proofs.Common.{◌≡◌, suc, ◌+◌, ◌-◌, sym, ap, ◌∙◌, arith}
use Rattle.std.specs.List.{sum_by, range_with_len}
use Rattle.roster_model.proofs.SumLemmas.{sum_by-range_more}
use Rattle.roster_legal_reasons.specs.Bounds.{minutes_by}
use Rattle.roster_legal_reasons.proofs.runs.in_run.Goals as goal

pub loop-day-preserved : goal.loop-day-preserved
loop-day-preserved c =
    let minutes = minutes_by c.args.measure c.args.days.now c.args.list.now in
    let first = c.args.last + 1 - c.args.n in
    let day = c.loop-day.day in
    let longer : day + 1 - first ≡ suc (day - first) = omega arith in
    record {
      value = ap (λ m. c.loop-day.total + m) c.minutes_on-total.ensures.value
          ∙ ap (λ m. m + minutes day) c.loop-day.invariant.value
          ∙ sym (sum_by-range_more minutes first (day - first) day (omega arith))
          ∙ ap (λ n. sum_by minutes (range_with_len first n)) (sym longer);
      bound = omega (arith, longer, c.loop-day.invariant.bound, c.minutes_on-total.ensures.bound);
    }
