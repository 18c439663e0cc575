use Rattle.std.proofs.Common.{sym}
use Rattle.std.proofs.lemmas.Option.{get_or_from_slice_get}
use Rattle.roster_book.proofs.record.window.midnight.Goals as goal

pub returns : goal.returns
returns c = sym (get_or_from_slice_get c.args.days.now.mid c.args.day c.mid.result 0 c.mid.ensures.value)
