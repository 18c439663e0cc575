use Rattle.std.proofs.Common.{◌≡◌, ℕ, List, Option, Some, None, true, false, ◌∙◌, ap}
use Rattle.std.specs.Prelude.{Ok, Err, Result}
use Rattle.std.specs.Str.Parse.{ParsesUnsigned, ExplainsUnsignedError, HasUnsignedDigitsIfOk}
use Rattle.clap.specs.Matches.{ReadsOne}
use Rattle.clap.specs.ValueTests.{is_unsigned_in}
use Rattle.clap.specs.Words.{found_of}
use Rattle.clap.specs.declared.builder.value_parser.ValueParser.TheVariants as parsers
use Rattle.clap.proofs.ValueTestLemmas.{accepts-Accepts}
use Rattle.clap.proofs.WalkLemmas.{one_text-rows}
use Rattle.roster_desk_arguments.specs.Line.{number_spelled}
use Rattle.roster_desk_arguments.proofs.asked.number.Goals as goal

-- a number between two is what `parse` reads of its text
reads : {E : Type 0} (G : List ℕ → Result ℕ E → Type 0) (low high : ℕ) (text : List ℕ) (number : Option ℕ)
    → ReadsOne G text number → ((t : List ℕ) (r : Result ℕ E) → G t r → ParsesUnsigned 64 10 t r)
    → is_unsigned_in low high text ≡ true → number ≡ Some (number_spelled text)
reads G low high text (Some n) read parses accepted = ap Some (parses text (Ok n) read).1
reads G low high text None read parses accepted =
    let within = accepts-Accepts false (parsers.Unsigned low high) text accepted in
    absurd (parses text (Err read.0) read.1 (within.0, within.1))

pub returns : goal.returns
returns c =
    let same = one_text-rows (found_of c.args.found.now) c.args.name.now in
    record {
      given = λ low high text is accepted. reads (λ t r. ParsesUnsigned 64 10 t r × ExplainsUnsignedError 10 t r × HasUnsignedDigitsIfOk t r) low high text c.get_one.result (c.get_one.ensures.value text (same ∙ is)) (λ t r g. g.0) accepted;
      left_out = λ is. c.get_one.ensures.none (same ∙ is);
    }
