use Rattle.std.proofs.Common.{◌≡◌}
use Rattle.std.proofs.lemmas.Result.{MatchResult-at_ok}
use Rattle.std.specs.Str.Parse.{digits_value}
use Rattle.roster_instants.proofs.TextLemmas.{IsUtf8-digits, IsOk-unless, parses_digits, digits_bound}
use Rattle.roster_instants.proofs.text.number.Goals as goal

pub unwrap-requires : goal.unwrap-requires
unwrap-requires c =
    IsOk-unless c.from_utf8.result _ _ c.from_utf8.ensures.cases
    (λ e no. no.0 (IsUtf8-digits c.args.digits.now c.requires.digits))

pub unwrap-requires-2 : goal.unwrap-requires-2
unwrap-requires-2 c =
    let text = MatchResult-at_ok _ _ _ c.unwrap.ensures c.from_utf8.ensures.cases in
    rw (parses_digits c.args.digits.now c.unwrap.result.now c.parse.result text.0 c.requires.digits c.requires.some c.requires.few c.parse.ensures.value.0)

pub returns-clause-value : goal.returns-clause-value
returns-clause-value c =
    let text = MatchResult-at_ok _ _ _ c.unwrap.ensures c.from_utf8.ensures.cases in
    let same = parses_digits c.args.digits.now c.unwrap.result.now c.parse.result text.0 c.requires.digits c.requires.some c.requires.few c.parse.ensures.value.0 in
    cc (c.unwrap-2.ensures, same)

pub returns-clause-bound : goal.returns-clause-bound
returns-clause-bound c =
    let same : c.unwrap-2.result ≡ digits_value 10 c.args.digits.now = returns-clause-value c in
    rw same (digits_bound c.args.digits.now c.requires.digits)
