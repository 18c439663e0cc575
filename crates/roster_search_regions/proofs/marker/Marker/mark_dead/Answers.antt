use Rattle.std.proofs.Common.{refl}
use Rattle.roster_search_regions.proofs.MarkLemmas.{IsMarking-dead}
use Rattle.roster_search_regions.proofs.marker.Marker.mark_dead.Goals as goal

pub returns : goal.returns
returns c choices lines choice is =
    IsMarking-dead c.args.self.now _ choices lines choice is c.in_ok-push.ensures.items refl refl refl
