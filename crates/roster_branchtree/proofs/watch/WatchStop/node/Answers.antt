use Rattle.std.proofs.Common.{sym, ◌∙◌, subst}
use Rattle.roster_branchtree.specs.Shown.{KeepsWatch}
use Rattle.roster_branchtree.specs.Watching.{keeps_nothing}
use Rattle.roster_branchtree.proofs.watch.WatchStop.node.Goals as goal

pub returns-in_default : goal.returns-in_default
returns-in_default g c =
    subst (KeepsWatch c.args.self.now) (sym (c.in_default.ensures.same ∙ c.if-is_due.ensures.same))
    (keeps_nothing c.args.self.now)

pub returns-else-is_due : goal.returns-else-is_due
returns-else-is_due g c =
    subst (KeepsWatch c.args.self.now) (sym c.if-is_due.ensures.same) (keeps_nothing c.args.self.now)
