use Rattle.roster_lines.proofs.WantedLemmas.{held_between, within_both}
use Rattle.roster_lines.proofs.wanted.BetweenWanted.among.Goals as goal

pub returns-clause-within : goal.returns-clause-within
returns-clause-within c p here =
    within_both c.args.alone.now c.or.result c.and.result p c.and.ensures here

pub returns-clause-held : goal.returns-clause-held
returns-clause-held c problem k set p between here single =
    held_between c.args.self.now.must c.args.self.now.may c.or.result c.and.result c.args.alone.now set p c.or.ensures c.and.ensures between here single
