use Rattle.std.proofs.Common.{arith}
use Rattle.std.proofs.lemmas.Grind.{common_steps}
use Rattle.roster_model.specs.Faults.{code_of_kind}
use Rattle.roster_model.specs.records.Sector.{sector_of}
use Rattle.roster_book.specs.Draft.{contents_of}
use Rattle.roster_book.proofs.SectorTable.{flown_position}
use Rattle.roster_book.proofs.Sound.{sectors_draft}
use Rattle.roster_book.proofs.draft.Draft.judge_sector.Goals as goal

pub returns-then-sectors-ge-MOST_SECTORS-clause-judged : goal.returns-then-sectors-ge-MOST_SECTORS-clause-judged
unfolding code_of_kind sector_of
returns-then-sectors-ge-MOST_SECTORS-clause-judged c = λ command row before d.
    let counted = sectors_draft command row before (contents_of c.args.self.now) d in
    grind (arith, common_steps, flown_position, counted)

pub returns-clause-judged : goal.returns-clause-judged
unfolding code_of_kind sector_of
returns-clause-judged c = λ command row before d.
    let counted = sectors_draft command row before (contents_of c.args.self.now) d in
    grind (arith, common_steps, flown_position, counted)
