use Rattle.std.proofs.Common.{◌+◌, ◌-◌, ◌<◌, ◌≤◌, length, sym, subst, arith}
use Rattle.std.proofs.lemmas.List.FromFn.{get_or-range_with_len, length-range_with_len}
use Rattle.roster_model.specs.declared.limits.TheConstants.{DAYS_BEFORE}
use Rattle.roster_model.specs.Sums.{in_run}
use Rattle.roster_legal_reasons.specs.Bounds.{minutes_by}
use Rattle.roster_legal_reasons.proofs.runs.first_run_over.Goals as goal

pub returns : goal.returns
returns c i d inside =
    let minutes = minutes_by c.args.measure c.args.days.now c.args.list.now in
    let judged = length c.args.days.now.eight - DAYS_BEFORE in
    let long = length-range_with_len DAYS_BEFORE judged in
    let within : i < judged = omega (arith, long, inside) in
    let day = get_or-range_with_len DAYS_BEFORE judged i d within in
    subst (λ last. in_run minutes c.args.n last ≤ c.args.most) (sym day)
    (c.loop-last.invariant (DAYS_BEFORE + i) (omega arith) (omega arith))
