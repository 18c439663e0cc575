use Rattle.std.proofs.Common.{◌≡◌, ℕ, suc, ◌+◌, ◌*◌, ◌-◌, get_or, sym, ap, ◌∙◌, arith}
use Rattle.std.specs.List.{sum_by, range_with_len}
use Rattle.roster_model.specs.declared.limits.TheConstants.{LAST_INSTANT, MOST_DUTIES}
use Rattle.roster_model.proofs.SumLemmas.{sum_by-range_more}
use Rattle.roster_cumulative.proofs.InRun.{sum_by-range-le}
use Rattle.roster_cumulative.proofs.runs.run_before.Goals as goal

pub overflow_add-total : goal.overflow_add-total
overflow_add-total c =
    let minutes = λ (i : ℕ). get_or c.args.table.now i 0 in
    let bound =
    sum_by-range-le minutes (MOST_DUTIES * LAST_INSTANT) (c.args.end - c.args.n)
    (c.loop-i.i - (c.args.end - c.args.n)) c.requires.light in
    omega (arith, bound, c.loop-i.invariant, c.requires.light c.loop-i.i)

pub loop-i-preserved : goal.loop-i-preserved
loop-i-preserved c =
    let minutes = λ (i : ℕ). get_or c.args.table.now i 0 in
    let first = c.args.end - c.args.n in
    let i = c.loop-i.i in
    let longer : i + 1 - first ≡ suc (i - first) = omega arith in
    ap (λ m. m + minutes i) c.loop-i.invariant
    ∙ sym (sum_by-range_more minutes first (i - first) i (omega arith))
    ∙ ap (λ n. sum_by minutes (range_with_len first n)) (sym longer)

pub returns-clause-bound : goal.returns-clause-bound
returns-clause-bound c =
    let minutes = λ (i : ℕ). get_or c.args.table.now i 0 in
    let first = c.args.end - c.args.n in
    let bound =
    sum_by-range-le minutes (MOST_DUTIES * LAST_INSTANT) first (c.loop-i.i - first) c.requires.light in
    omega (arith, bound, c.loop-i.invariant)
