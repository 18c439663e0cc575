use Rattle.std.proofs.Common.{◌≡◌, ℕ, ◌+◌, ◌-◌, ◌*◌, ◌++◌, ◌∷◌, [], get_or, length, map, sym, ap, ◌∙◌, append_assoc, arith}
use Rattle.std.specs.List.{range_with_len}
use Rattle.std.proofs.lemmas.List.FromFn.{map-range_with_len_more}
use Rattle.roster_model.specs.declared.limits.TheConstants.{DAYS_BEFORE, LAST_INSTANT, MOST_DUTIES}
use Rattle.roster_model.specs.Sums.{in_run}
use Rattle.roster_cumulative.specs.declared.judged.CappedSum.{CappedSum}
use Rattle.roster_cumulative.proofs.InRun.{next_run, sum_by-range-le}
use Rattle.roster_cumulative.proofs.judged.push_runs.Goals as goal

pub overflow_add-run : goal.overflow_add-run
overflow_add-run c =
    let minutes = λ (i : ℕ). get_or c.args.table.now i 0 in
    let bound =
    sum_by-range-le minutes (MOST_DUTIES * LAST_INSTANT)
    (c.loop-last.last - c.args.n) c.args.n c.requires.light in
    omega (arith, bound, c.loop-last.invariant.run, c.requires.light c.loop-last.last)

pub overflow_sub-run-in-loop-last : goal.overflow_sub-run-in-loop-last
overflow_sub-run-in-loop-last c =
    let minutes = λ (i : ℕ). get_or c.args.table.now i 0 in
    omega (arith, next_run minutes c.args.n c.loop-last.last (omega arith), c.loop-last.invariant.run)

pub loop-last-preserved : goal.loop-last-preserved
loop-last-preserved c =
    let minutes = λ (i : ℕ). get_or c.args.table.now i 0 in
    let last = c.loop-last.last in
    let n = c.args.n in
    let old = c.args.sums.now.items in
    let step = next_run minutes n last (omega arith) in
    let run : c.loop-last.run + minutes last - minutes (last - n) ≡ in_run minutes n last =
    omega (arith, step, c.loop-last.invariant.run) in
    let capped = λ (last : ℕ). let sum : CappedSum = record { total = in_run minutes n last; most = c.args.most } in sum in
    let longer : last + 1 - DAYS_BEFORE ≡ (last - DAYS_BEFORE) + 1 = omega arith in
    let more = map-range_with_len_more capped DAYS_BEFORE (last - DAYS_BEFORE) last (omega arith) in
    let pushed = λ (total : ℕ). let sum : CappedSum = record { total = total; most = c.args.most } in sum in
    record {
      run = run;
      items = c.in_ok-push.ensures.items ∙ ap (λ xs. xs ++ pushed (c.loop-last.run + minutes last - minutes (last - n)) ∷ []) c.loop-last.invariant.items
          ∙ append_assoc old (map capped (range_with_len DAYS_BEFORE (last - DAYS_BEFORE))) (pushed (c.loop-last.run + minutes last - minutes (last - n)) ∷ [])
          ∙ ap (λ m. old ++ (map capped (range_with_len DAYS_BEFORE (last - DAYS_BEFORE)) ++ pushed m ∷ [])) run
          ∙ ap (λ xs. old ++ xs) (sym more ∙ ap (λ k. map capped (range_with_len DAYS_BEFORE k)) (sym longer));
    }

pub returns : goal.returns
returns c =
    let minutes = λ (i : ℕ). get_or c.args.table.now i 0 in
    let capped = λ (last : ℕ). let sum : CappedSum = record { total = in_run minutes c.args.n last; most = c.args.most } in sum in
    let whole : c.loop-last.last ≡ length c.args.days.now.eight = omega arith in
    c.loop-last.invariant.items
    ∙ ap (λ k. c.args.sums.now.items ++ map capped (range_with_len DAYS_BEFORE (k - DAYS_BEFORE))) whole
