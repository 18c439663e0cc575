use Rattle.std.proofs.Common.{◌≡◌, drop}
use Rattle.std.specs.List.{find}
use Rattle.roster_book.specs.declared.record.TheConstants.Kind.{ALL}
use Rattle.csv.specs.Records.{fields_of}
use Rattle.roster_values.specs.View.{command_of}
use Rattle.roster_book.proofs.KindFound.{is_kind_in}
use Rattle.roster_book.proofs.record.kind_in.Given as goal

-- the kinds so far aren't the record's
abbrev pub invariant-loop-kind : goal.invariant-loop-kind
invariant-loop-kind l =
    let test = is_kind_in (command_of l.command) (fields_of l.fields) in
    find test ALL ≡ find test (drop l.kind-index ALL)
