use Rattle.roster_restrules.proofs.days_off.days_ok.Goals as goal

pub returns : goal.returns
returns c = c.has_days_off.ensures c.args.list.now c.busy_days.ensures
