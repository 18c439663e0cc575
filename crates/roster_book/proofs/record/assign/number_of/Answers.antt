use Rattle.std.proofs.Common.{◌≡◌, ◌<◌, ◌∙◌, length, refl, sym, subst, rules}
use Rattle.std.specs.Prelude.{unwrap_or}
use Rattle.std.proofs.lemmas.Option.{slice_get_read}
use Rattle.roster_model.specs.records.Assign.{Assign}
use Rattle.roster_book.proofs.Numbers.{number-assigned, number-open}
use Rattle.roster_book.proofs.record.assign.number_of.Goals as goal

pub returns-in-Some : goal.returns-in-Some
returns-in-Some c =
    let assigns = c.args.assigns.now in
    let within : c.in-Some.i < length c.args.assigns.now = search rules in
    let there =
    slice_get_read assigns
    (length assigns) c.in-Some.i c.index-assigns-i.result refl within c.index-assigns-i.is in
    let own : unwrap_or c.assign.inside.person c.args.nobody ≡ unwrap_or c.index-assigns-i.result.person c.args.nobody =
    subst (λ (assign : Assign). unwrap_or c.assign.inside.person c.args.nobody ≡ unwrap_or assign.person c.args.nobody) c.assign.view_is refl in
    c.unwrap_or.ensures ∙ own ∙ sym (number-assigned c.args.nobody assigns c.args.p c.in-Some.i c.index-assigns-i.result (sym c.in-Some.ensures) there)

pub returns-in-None : goal.returns-in-None
returns-in-None c = sym (number-open c.args.nobody c.args.assigns.now c.args.p (sym c.in-None.ensures))
