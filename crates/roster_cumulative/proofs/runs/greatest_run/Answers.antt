use Rattle.std.proofs.Common.{◌≡◌, ℕ, ◌+◌, ◌-◌, ◌*◌, get_or, max, ap, ◌∙◌, arith}
use Rattle.roster_model.specs.declared.limits.TheConstants.{DAYS_BEFORE, LAST_INSTANT, MOST_DUTIES}
use Rattle.roster_model.specs.Sums.{in_run}
use Rattle.roster_cumulative.proofs.InRun.{next_run, sum_by-range-le, greatest-more}
use Rattle.roster_cumulative.proofs.runs.greatest_run.Goals as goal

pub overflow_add-run : goal.overflow_add-run
overflow_add-run c =
    let minutes = λ (i : ℕ). get_or c.args.table.now i 0 in
    let bound =
    sum_by-range-le minutes (MOST_DUTIES * LAST_INSTANT)
    (c.loop-last.last - c.args.n) c.args.n c.requires.light in
    omega (arith, bound, c.loop-last.invariant.run, c.requires.light c.loop-last.last)

pub overflow_sub-run-in-loop-last : goal.overflow_sub-run-in-loop-last
overflow_sub-run-in-loop-last c =
    let minutes = λ (i : ℕ). get_or c.args.table.now i 0 in
    omega (arith, next_run minutes c.args.n c.loop-last.last (omega arith), c.loop-last.invariant.run)

pub loop-last-preserved : goal.loop-last-preserved
loop-last-preserved c =
    let minutes = λ (i : ℕ). get_or c.args.table.now i 0 in
    let last = c.loop-last.last in
    let n = c.args.n in
    let step = next_run minutes n last (omega arith) in
    let bound = sum_by-range-le minutes (MOST_DUTIES * LAST_INSTANT) (last + 1 - n) n c.requires.light in
    let run : c.loop-last.run + minutes last - minutes (last - n) ≡ in_run minutes n last =
    omega (arith, step, c.loop-last.invariant.run) in
    record {
      run = run;
      greatest = c.max-greatest.ensures ∙ ap (λ m. max c.loop-last.greatest m) run ∙ greatest-more (in_run minutes n) DAYS_BEFORE last c.loop-last.greatest c.loop-last.auto.last c.loop-last.invariant.greatest;
      bound = omega (arith, c.max-greatest.ensures, run, bound, c.loop-last.invariant.bound);
    }
