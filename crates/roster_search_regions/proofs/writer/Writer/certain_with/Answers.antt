use Rattle.roster_search_regions.proofs.Write.{certain_alone, certain_too}
use Rattle.roster_search_regions.proofs.writer.Writer.certain_with.Goals as goal

pub returns-then-self-eq0 : goal.returns-then-self-eq0
returns-then-self-eq0 c path lines line is same =
    certain_alone c.args.self.now path lines line c.args.set.now is c.if-self-eq0.true same

pub returns-else-self-eq0 : goal.returns-else-self-eq0
returns-else-self-eq0 c path lines line is same =
    certain_too c.args.self.now path lines line c.args.set.now _ is c.if-self-eq0.false same c.and.ensures
