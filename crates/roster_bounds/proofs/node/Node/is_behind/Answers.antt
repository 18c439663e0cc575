use Rattle.std.proofs.Common.{sym, ◌∙◌}
use Rattle.roster_bounds.proofs.Behind.{earlier_head, same_head}
use Rattle.roster_bounds.proofs.node.Node.is_behind.Goals as goal

pub returns-then-place-least : goal.returns-then-place-least
returns-then-place-least c less others of =
    let p = c.loop-p.p in
    c.loop-p.invariant others of (earlier_head c.args.places.now others p c.least_place-least.result c.loop-p-test.true (c.requires ∙ sym of.legal.covers) (λ x at. c.least_place-least.ensures.least others x of at) less)

pub loop-p-preserved : goal.loop-p-preserved
loop-p-preserved c others of rest =
    let p = c.loop-p.p in
    c.loop-p.invariant others of (same_head c.args.places.now others p c.least_place-least.result c.loop-p-test.true (c.requires ∙ sym of.legal.covers) (λ x at. c.least_place-least.ensures.least others x of at) c.if-place-least.false rest)
