use Rattle.std.proofs.Common.{◌≡◌, ◌+◌, ◌*◌, length, refl, subst, sym, ap, ◌∙◌, arith}
use Rattle.std.proofs.lemmas.List.{length_push}
use Rattle.roster_plan_bound.specs.declared.parts.TheConstants.{MOST_TARGET_TERM, MOST_CHAIN_VALUE}
use Rattle.roster_plan_bound.specs.Chains.{IsTail}
use Rattle.roster_plan_bound.specs.Networks.{AreTails}
use Rattle.roster_plan_bound.proofs.RowLemmas.{rows_none, tails_more, tails_none, All-within-more}
use Rattle.roster_plan_bound.proofs.rows.tails_of_end.Goals as goal

pub returns : goal.returns
returns c =
    let problem = c.args.chains.now.problem.now in
    let network = c.args.chains.now.network.now in
    let values = c.args.chains.now.values.now in
    let none : AreTails problem network values c.new-tails.result.items =
    subst (AreTails problem network values) (sym c.new-tails.ensures.items)
    (tails_none problem network values) in
    let zero : length c.new-tails.result.items ≡ 0 = ap length c.new-tails.ensures.items in
    record {
      are_rows = rows_none problem network values;
      long = refl;
      are_tails = tails_more problem network values c.new-tails.result.items c.push.new.self.items c.in_ok-end.end none c.in_ok-push.ensures.items
          (λ few. subst (λ n. IsTail network values n c.in_ok-end.end) (omega (arith, zero)) c.in_ok-end.ensures.tail)
          (All-within-more MOST_TARGET_TERM (MOST_TARGET_TERM + (length c.new-tails.result.items + 1) * MOST_CHAIN_VALUE) c.in_ok-end.end (omega arith) c.in_ok-end.ensures.within);
      longer =
          ap length c.in_ok-push.ensures.items
          ∙ length_push c.new-tails.result.items c.in_ok-end.end ∙ ap (λ n. n + 1) zero;
    }
