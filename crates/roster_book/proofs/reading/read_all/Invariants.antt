use Rattle.std.proofs.Common.{List}
use Rattle.roster_model.specs.Record.{Record}
use Rattle.roster_book.specs.Draft.{IsDraftOf, contents_of}
use Rattle.roster_book.specs.Reading.{AreSeen, IsOpen, records_left}
use Rattle.roster_values.specs.View.{command_of}
use Rattle.roster_book.proofs.reading.read_all.Given as goal

-- some records were seen, and the draft is theirs
abbrev pub invariant-loop-row : goal.invariant-loop-row
invariant-loop-row g l = (seen : List Record) × record {
  is_open : IsOpen l.reader;
  follows : AreSeen (records_left g.R.Read.remaining l.fn.reader) seen
      (records_left g.R.Read.remaining l.reader);
  draft : IsDraftOf (command_of l.fn.command) l.row seen (contents_of l.draft);
}
