use Rattle.roster_branchtree.specs.Watching.{keeps_nothing}
use Rattle.roster_branchtree.proofs.watch.WatchStop.shown.Goals as goal

pub returns : goal.returns
returns g c = keeps_nothing c.args.self.now
