use Rattle.std.proofs.Common.{◌≡◌, ◌+◌, false, length, subst, sym, ap, ◌∙◌, arith, ◌≤ℤ◌}
use Rattle.std.specs.Prelude.{All}
use Rattle.roster_model.specs.Rules.{is_among}
use Rattle.roster_cost.specs.Amounts.{IsWithin}
use Rattle.roster_plan_bound.specs.declared.parts.TheConstants.{MOST_CHAIN_VALUE}
use Rattle.roster_plan_bound.specs.Chains.{value_at, IsTail}
use Rattle.roster_plan_bound.proofs.RowLemmas.{lowered, tail_more, tail_same, value_within}
use Rattle.roster_plan_bound.proofs.rows.longer_tail.Goals as goal
use Rattle.roster_plan_bound.proofs.rows.longer_tail.Goals.{then-has, else-has}

pub relax-requires-clause-same : goal.relax-requires-clause-same
relax-requires-clause-same c =
    c.requires.row.covers
    ∙ sym (ap length (c.in_ok-longer.ensures ∙ c.all.ensures) ∙ c.requires.tail.covers)

pub relax-requires-clause-value : goal.relax-requires-clause-value
relax-requires-clause-value c =
    value_within c.args.chains.now.values.now c.args.p c.requires.values
    (omega (arith, c.requires.covers, c.requires.place))

pub returns-clause-tail : goal.returns-clause-tail
returns-clause-tail c =
    let network = c.args.chains.now.network.now in
    let values = c.args.chains.now.values.now in
    let p = c.args.p in
    let copied : c.in_ok-longer.longer ≡ c.args.tail.now = c.in_ok-longer.ensures ∙ c.all.ensures in
    let long : length c.in_ok-longer.longer ≡ length network.terms.items =
    ap length copied ∙ c.requires.tail.covers in
    elim c.if-has.branch [
      | then-has w ↦
          let covers : length w.relax.new.self ≡ length network.terms.items = w.relax.ensures.same ∙ long in
          subst (IsTail network values p) (sym w.longer-is) (tail_more network values c.args.tail.now w.relax.new.self c.args.row.now p c.requires.network.some c.requires.tail c.requires.row covers
          (λ f inside. subst (λ t. value_at w.relax.new.self f ≤ℤ value_at t f) copied (w.relax.ensures.kept f (omega (arith, long, inside))))
          (λ f inside. lowered values c.args.row.now w.relax.new.self network.steps.items (length c.in_ok-longer.longer) (length network.terms.items) f p w.index.result.now c.requires.values
          (omega (arith, c.requires.covers, c.requires.place))
          (omega (arith, c.requires.network.steps.covers, c.requires.place)) w.index.ensures long
          (w.relax.ensures.through f (omega (arith, long, inside)))))
      | else-has w ↦
          let none : is_among network.first p ≡ false = sym c.has.ensures.value ∙ w.if-has.false in
          subst (IsTail network values p) (sym (w.longer-is ∙ copied))
          (tail_same network values c.args.tail.now p none c.requires.tail)
    ]

pub returns-clause-within : goal.returns-clause-within
returns-clause-within c most behind before =
    let copied : c.in_ok-longer.longer ≡ c.args.tail.now = c.in_ok-longer.ensures ∙ c.all.ensures in
    elim c.if-has.branch [
      | then-has w ↦
          subst (All (IsWithin (most + MOST_CHAIN_VALUE))) (sym w.longer-is)
          (w.relax.ensures.within most behind
          (subst (All (IsWithin (most + MOST_CHAIN_VALUE))) (sym copied) before))
      | else-has w ↦ subst (All (IsWithin (most + MOST_CHAIN_VALUE))) (sym (w.longer-is ∙ copied)) before
    ]
