use Rattle.roster_search_regions.proofs.MarkLemmas.{certain_marked-alone, certain_marked-too}
use Rattle.roster_search_regions.proofs.marker.Marker.certain_with.Goals as goal

pub returns-then-self-eq0 : goal.returns-then-self-eq0
returns-then-self-eq0 c choices lines line is same =
    certain_marked-alone c.args.self.now choices lines line c.args.set.now is c.if-self-eq0.true same

pub returns-else-self-eq0 : goal.returns-else-self-eq0
returns-else-self-eq0 c choices lines line is same = certain_marked-too c.args.self.now choices lines line c.args.set.now _ is c.if-self-eq0.false same c.and.ensures
