use Rattle.std.proofs.Common.{arith}
use Rattle.roster_problem.proofs.Indexes.{map-pushed}
use Rattle.roster_problem.proofs.index.Lists.push.Goals as goal

pub returns : goal.returns
returns c =
    map-pushed (λ list. list.items) c.self.inside.lists.items c.args.self.now c.args.place c.args.position c.index_mut.result.now c.push.new.self c.self.view_is (omega arith) c.index_mut.ensures.value c.in_ok-push.ensures.items
