use Rattle.std.proofs.Common.{◌≡◌, ◌∙◌, ◌<◌, length, take, ap, subst, rules}
use Rattle.std.specs.Prelude.{IfSome, option_map}
use Rattle.roster_desk_program.proofs.Reading.{all_read}
use Rattle.roster_desk_program.specs.Files.{shelf_of}
use Rattle.roster_desk_program.specs.declared.files.TheConstants.{MOST_REPORT_BYTES}
use Rattle.roster_desk_program.proofs.files.Files.read_report.Goals as goal

pub returns-in-Ok-2-clause-bytes : goal.returns-in-Ok-2-clause-bytes
returns-in-Ok-2-clause-bytes g c =
    let known = g.S.Shelf.bytes_at (shelf_of c.args.self.now) c.args.path.now in
    let items = c.read_to_end.new.buf.items in
    let limit = c.take.result.limit in
    let given : IfSome (option_map (take limit) (g.S.Input.Read.remaining c.take.result.inner)) (λ taken. items ≡ taken) = search rules in
    let same : g.S.Input.Read.remaining c.take.result.inner ≡ known =
    ap g.S.Input.Read.remaining c.take.ensures.inner ∙ c.in-Ok.ensures.bytes in
    let of_file : IfSome (option_map (take limit) known) (λ taken. items ≡ taken) =
    subst (λ it. IfSome (option_map (take limit) it) (λ taken. items ≡ taken)) same given in
    let is : IfSome (option_map (take MOST_REPORT_BYTES) known) (λ taken. items ≡ taken) =
    subst (λ most. IfSome (option_map (take most) known) (λ taken. items ≡ taken)) c.take.ensures.limit of_file in
    let short : length items < MOST_REPORT_BYTES = search rules in
    all_read known MOST_REPORT_BYTES items is short
