use Rattle.std.proofs.Common.{arith}
use Rattle.roster_book.specs.Draft.{contents_of}
use Rattle.roster_book.proofs.Sound.{IsSound-records}
use Rattle.roster_book.proofs.draft.Draft.assignee.Goals as goal

pub overflow_cast-result : goal.overflow_cast-result
overflow_cast-result c =
    let sound = IsSound-records (contents_of c.args.self.now) c.requires in
    omega (arith, c.in-Some.ensures.within, sound.persons)
