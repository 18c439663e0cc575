use Rattle.std.proofs.Common.{refl}
use Rattle.roster_search_regions.proofs.Write.{IsWriting-nil}
use Rattle.roster_search_regions.proofs.writer.Writer.new.Goals as goal

pub returns : goal.returns
returns c = IsWriting-nil _ c.new.ensures.items c.empty.ensures refl refl
