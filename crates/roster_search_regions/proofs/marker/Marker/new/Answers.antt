use Rattle.std.proofs.Common.{refl}
use Rattle.roster_search_regions.proofs.MarkLemmas.{IsMarking-nil}
use Rattle.roster_search_regions.proofs.marker.Marker.new.Goals as goal

pub returns : goal.returns
returns c = IsMarking-nil _ c.in_ok-with_capacity.ensures.items c.empty.ensures refl
