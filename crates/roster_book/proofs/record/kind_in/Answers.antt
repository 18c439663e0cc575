use Rattle.std.proofs.Common.{◌≡◌, ◌∙◌, false, get_or, sym, arith, refl}
use Rattle.std.proofs.lemmas.Bool.{and_from, and_left, and_right}
use Rattle.csv.specs.Records.{fields_of}
use Rattle.roster_values.specs.View.{command_of}
use Rattle.roster_book.specs.declared.record.Kind.TheVariants.{Period}
use Rattle.roster_book.specs.declared.record.TheConstants.Kind.{ALL}
use Rattle.roster_book.proofs.KindFound.{find-here, find-none, find-passed, is_kind_in, kind_is}
use Rattle.roster_book.proofs.record.kind_in.Goals as goal
use Rattle.roster_book.proofs.record.kind_in.Goals.{else-is_for-via-then-is_for+else-is_of, else-is_for-via-else-is_for}

pub loop-kind-init : goal.loop-kind-init
loop-kind-init c = refl

pub returns-then-is_of : goal.returns-then-is_of
returns-then-is_of c =
    let test = is_kind_in (command_of c.args.command) (fields_of c.args.fields.now) in
    let passes =
    and_from _ _ (sym c.is_for.ensures ∙ c.if-is_for.true) (sym c.is_of.ensures ∙ c.if-is_of.true) in
    kind_is (command_of c.args.command) (fields_of c.args.fields.now) _
    (c.loop-kind.invariant ∙ find-here test ALL c.loop-kind.kind-index Period c.loop-kind-test.true passes)

pub loop-kind-preserved : goal.loop-kind-preserved
loop-kind-preserved c =
    let test = is_kind_in (command_of c.args.command) (fields_of c.args.fields.now) in
    let fails : test (get_or ALL c.loop-kind.kind-index Period) ≡ false =
    elim c.else-is_for.branch [
      | else-is_for-via-then-is_for+else-is_of w ↦
          and_right _ _ (sym w.is_of.ensures ∙ w.if-is_of.false)
      | else-is_for-via-else-is_for w ↦ and_left _ _ (sym c.is_for.ensures ∙ w.if-is_for.false)
    ] in
    c.loop-kind.invariant
    ∙ find-passed test ALL c.loop-kind.kind-index Period c.loop-kind-test.true fails

pub returns : goal.returns
returns c =
    let test = is_kind_in (command_of c.args.command) (fields_of c.args.fields.now) in
    kind_is (command_of c.args.command) (fields_of c.args.fields.now) _
    (c.loop-kind.invariant ∙ find-none test ALL c.loop-kind.kind-index (omega (arith, c.loop-kind-test.false)))
