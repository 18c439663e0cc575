use Rattle.std.proofs.Common.{rules, ◌≡◌, [], sym, subst}
use Rattle.roster_search_threads.proofs.ExploredLemmas.{IsDealing, dealing_begins, dealing_ends, dealt_to_mine, dealt_to_theirs}
use Rattle.roster_search_threads.proofs.exploring.dealt.Goals as goal

pub loop-node-init : goal.loop-node-init
loop-node-init c =
    let problem = c.args.problem.now in
    subst (λ mine. IsDealing problem c.args.nodes.items mine c.new-theirs.result.items c.args.nodes.items)
    (sym c.new-mine.ensures.items)
    (subst (λ theirs. IsDealing problem c.args.nodes.items [] theirs c.args.nodes.items) (sym c.new-theirs.ensures.items) (dealing_begins problem c.args.nodes.items c.requires))

pub loop-node-preserved-in-Continue-1 : goal.loop-node-preserved-in-Continue-1
loop-node-preserved-in-Continue-1 c =
    let problem = c.args.problem.now in
    dealt_to_theirs problem c.args.nodes.items c.loop-node.mine.items c.loop-node.theirs.items c.loop-node.nodes.items c.pop.new.self.items c.in-Some.node c.loop-node.invariant c.in-Some.ensures.items c.push.new.self.items c.in_ok-push.ensures.items

pub loop-node-preserved : goal.loop-node-preserved
loop-node-preserved c =
    let problem = c.args.problem.now in
    dealt_to_mine problem c.args.nodes.items c.loop-node.mine.items c.loop-node.theirs.items c.loop-node.nodes.items c.pop.new.self.items c.in-Some.node c.loop-node.invariant c.in-Some.ensures.items c.push-else-len.new.self.items c.in_ok-push-2.ensures.items

pub returns : goal.returns
returns c =
    let problem = c.args.problem.now in
    let none : c.loop-node.nodes.items ≡ [] = search rules in
    dealing_ends problem c.args.nodes.items c.loop-node.mine.items c.loop-node.theirs.items c.loop-node.nodes.items c.reverse.new.self.items c.reverse-2.new.self.items c.loop-node.invariant none c.reverse.ensures.items c.reverse-2.ensures.items
