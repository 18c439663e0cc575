use Rattle.std.proofs.Common.{◌≡◌, ℕ, ◌+◌, take, ap, ◌∙◌, arith}
use Rattle.std.specs.List.{sum_by}
use Rattle.std.proofs.lemmas.List.{take_all}
use Rattle.std.proofs.lemmas.List.Sums.{sum_by_more}
use Rattle.std.proofs.lemmas.Option.{get_or_from_slice_get, slice_get_within}
use Rattle.roster_model.specs.records.Duty.{Duty}
use Rattle.roster_cumulative.specs.Table.{minutes_in_all, minutes_of}
use Rattle.roster_cumulative.proofs.whole.whole_of_list.Goals as goal

-- one duty more
one_more : (c : goal.After-whole_of-total) (minutes : Duty → ℕ) → sum_by minutes (take (c.loop-k.k + 1) c.args.list.now) ≡ sum_by minutes (take c.loop-k.k c.args.list.now) + minutes c.duty.result.now
one_more c minutes =
    let list = c.args.list.now in
    let k = c.loop-k.k in
    sum_by_more minutes list k c.duty.result.now (slice_get_within list k _ c.duty.ensures)
    ∙ ap (λ duty. sum_by minutes (take k list) + minutes duty) (get_or_from_slice_get list k _ _ c.duty.ensures)

pub loop-k-preserved : goal.loop-k-preserved
loop-k-preserved c = record {
  value = omega (arith, one_more c (minutes_in_all c.args.measure), c.loop-k.invariant.value, c.whole_of-total.ensures.value);
  most = λ from to. omega (arith, one_more c (λ duty. minutes_of c.args.measure duty from to), c.loop-k.invariant.most from to, c.whole_of-total.ensures.most from to);
  bound = omega (arith, c.loop-k.invariant.bound, c.whole_of-total.ensures.bound);
}

pub returns-clause-most : goal.returns-clause-most
returns-clause-most c = λ from to.
    let all =
    ap (sum_by (λ duty. minutes_of c.args.measure duty from to))
    (take_all c.loop-k.k c.args.list.now (omega arith)) in
    omega (arith, all, c.loop-k.invariant.most from to)
