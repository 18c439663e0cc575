-- What the text of a table is, record by record.
use Rattle.std.specs.Prelude.{◌≡◌, ◌++◌, ◌∷◌, Bool, List, [], false, if◌then◌else◌, true, ℕ}
use Rattle.csv.specs.Writing.{default_writer, fields_written, has_written, row_text, with_delimiter, with_flexible, writer_pending, writer_setup, writer_under}
use Rattle.csv.specs.declared.writer.QuoteStyle.TheVariants.{Necessary}
use Rattle.csv.specs.declared.writer.WriterBuilder.{WriterBuilder}
use Rattle.roster_desk_sheets.specs.declared.records.Records.{Records}

-- how its cells are parted and quoted: `csv` says what it makes of that
abbrev pub setup_of : Records → WriterBuilder
setup_of records = writer_setup records.writer

-- what is written
abbrev pub text_of : Records → List ℕ
text_of records = (writer_under records.writer).items ++ writer_pending records.writer

-- no record is begun, and cells are quoted where they have to be
pub record IsWhole (records : Records) : Type 0 where
  pub fields : fields_written records.writer ≡ 0
  pub none : has_written records.writer ≡ false
  pub quotes : (setup_of records).style ≡ Necessary

-- semicolons or commas between cells; rows may be of any length
abbrev pub parted : Bool → WriterBuilder
parted semicolon = with_delimiter (with_flexible default_writer true) (if semicolon then 59 else 44)

-- the byte order mark of UTF-8, if there is one
abbrev pub mark_of : Bool → List ℕ
mark_of true = 239 ∷ 187 ∷ 191 ∷ []
mark_of false = []

-- the new text is the old one and a record of these cells
pub record HasRow (old new : Records) (cells : List (List ℕ)) : Type 0 where
  pub whole : IsWhole new
  pub setup : setup_of new ≡ setup_of old
  pub text : text_of new ≡ text_of old ++ row_text (setup_of old) cells
