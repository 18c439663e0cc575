use Rattle.std.proofs.Common.{append_assoc, ◌∙◌, w16, FitsSigned}
use Rattle.std.proofs.lemmas.Int.{to_z-of_z}
use Rattle.std.proofs.lemmas.Result.{IfOk-weaker}
use Rattle.roster_desk_words.proofs.words.date.Goals as goal

pub returns : goal.returns
returns c =
    let fits : FitsSigned w16 c.args.year = record { sfits = c.ranges.year.sfits } in
    let year = to_z-of_z w16 c.args.year fits in
    IfOk-weaker c.format.result _ _ (λ s h. h ∙ simp (append_assoc, year)) c.format.ensures.ok
