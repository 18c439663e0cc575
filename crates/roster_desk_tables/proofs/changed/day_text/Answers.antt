use Rattle.std.proofs.Common.{◌∙◌, FitsSigned, ap, inl, rules, w16, w64}
use Rattle.std.proofs.lemmas.Int.{to_z-of_z}
use Rattle.std.proofs.lemmas.Result.{IfOk-weaker}
use Rattle.roster_desk_words.specs.Words.{date_text}
use Rattle.roster_desk_tables.proofs.changed.day_text.Goals as goal

pub returns-in-Ok : goal.returns-in-Ok
returns-in-Ok c =
    let found = c.in-Ok.found in
    let fits : FitsSigned w64 c.number_of_day.result = search rules in
    let fits_year : FitsSigned w16 found.year = search rules in
    let number = c.in-Ok.ensures.value ∙ to_z-of_z w64 c.number_of_day.result fits ∙ c.number_of_day.ensures in
    let year = ap (λ y. date_text y found.month c.from.result) (to_z-of_z w16 found.year fits_year) in
    let day = ap (date_text found.year found.month) c.from.ensures in
    IfOk-weaker c.date.result _ _ (λ s h. inl (found, number, h ∙ year ∙ day)) c.date.ensures
