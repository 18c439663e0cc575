use Rattle.std.proofs.Common.{◌∙◌, sym}
use Rattle.std.specs.Str.Parse.{ParsesUnsigned, ExplainsUnsignedError, HasUnsignedDigitsIfOk}
use Rattle.std.proofs.lemmas.Option.{same_Some}
use Rattle.roster_cli_arguments.proofs.Workers.{number_found, number_within}
use Rattle.roster_cli_arguments.proofs.line.workers.Goals as goal

pub unreachable-requires-in_default-get_one : goal.unreachable-requires-in_default-get_one
unreachable-requires-in_default-get_one c =
    let has = c.requires in
    c.in_default-get_one.not-Some _ (number_found (λ t r. ParsesUnsigned 64 10 t r × ExplainsUnsignedError 10 t r × HasUnsignedDigitsIfOk t r) c.args.matches.now c.in-Some.found.now has.0 c.get_one.result has.1 c.in-Some.ensures.rows c.get_one.ensures.value (λ t r g. g.0))

pub returns-clause-value : goal.returns-clause-value
returns-clause-value c = λ text has.
    same_Some _ _ (sym c.in-Some-get_one.is ∙ number_found (λ t r. ParsesUnsigned 64 10 t r × ExplainsUnsignedError 10 t r × HasUnsignedDigitsIfOk t r) c.args.matches.now c.in-Some.found.now text c.get_one.result has c.in-Some.ensures.rows c.get_one.ensures.value (λ t r g. g.0))

pub returns-clause-low : goal.returns-clause-low
returns-clause-low c =
    let has = c.requires in
    rw (returns-clause-value c has.0 has.1) (number_within has.0 has.1.accepted).0

pub returns-clause-high : goal.returns-clause-high
returns-clause-high c =
    let has = c.requires in
    rw (returns-clause-value c has.0 has.1) (number_within has.0 has.1.accepted).1
