use Rattle.roster_book.proofs.FormFacts.{text_of_ascii}
use Rattle.roster_book.proofs.forms.ascii.Goals as goal

pub unwrap-requires : goal.unwrap-requires
unwrap-requires c = text_of_ascii c.args.bytes.now c.from_utf8.result _ c.from_utf8.ensures.cases c.requires
