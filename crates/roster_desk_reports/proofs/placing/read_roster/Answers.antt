use Rattle.std.proofs.Common.{◌≡◌, ◌<◌, ◌∙◌, ℕ, None, Some, IfErr, IfOk, ap, map, length, slice_get, subst, sym}
use Rattle.std.proofs.lemmas.Simd.{map-map}
use Rattle.roster_desk_reports.specs.Faults.{IsTold}
use Rattle.roster_desk_reports.specs.Given.{HasAll, IsGiven}
use Rattle.roster_desk_reports.specs.Text.{given_by_line, given_by_text, numbered_by_line}
use Rattle.roster_desk_reports.proofs.Lines.{report_told}
use Rattle.roster_desk_reports.proofs.placing.read_roster.Goals as goal

-- what the report's lines give is what the text gives
pub returns-in-Ok-clause-has : goal.returns-in-Ok-clause-has
returns-in-Ok-clause-has c =
    let lines = c.in-Ok.report.crew.items in
    let same : map given_by_line lines ≡ given_by_text c.args.text.now =
    sym (map-map (λ numbered. numbered.1) numbered_by_line lines) ∙ ap (map (λ numbered. numbered.1)) c.in-Ok.ensures.given in
    subst (λ all. IfOk c.places_of.result (λ places. HasAll c.args.problem.now places all)) same c.places_of.ensures.has

pub returns-in-Ok-clause-given : goal.returns-in-Ok-clause-given
returns-in-Ok-clause-given c =
    let lines = c.in-Ok.report.crew.items in
    let same : map given_by_line lines ≡ given_by_text c.args.text.now =
    sym (map-map (λ numbered. numbered.1) numbered_by_line lines) ∙ ap (map (λ numbered. numbered.1)) c.in-Ok.ensures.given in
    subst (λ all. IfOk c.places_of.result (λ places. (p k : ℕ) → k < length c.args.problem.now.persons → slice_get places p ≡ Some k → IsGiven c.args.problem.now all p k)) same
    c.places_of.ensures.given

pub returns-in-Ok-clause-sound : goal.returns-in-Ok-clause-sound
returns-in-Ok-clause-sound c =
    let report = c.in-Ok.report in
    let told = report_told c.args.problem.now c.args.text.now (report.period, report.first) (map numbered_by_line report.crew.items)
    c.in-Ok.ensures.sound c.in-Ok.ensures.month c.in-Ok.ensures.given in
    subst (λ fault. IfOk c.places_of.result (λ _. fault ≡ None)) (sym told) c.places_of.ensures.sound

pub returns-in-Ok-clause-fault : goal.returns-in-Ok-clause-fault
returns-in-Ok-clause-fault c =
    let report = c.in-Ok.report in
    let told = report_told c.args.problem.now c.args.text.now (report.period, report.first) (map numbered_by_line report.crew.items)
    c.in-Ok.ensures.sound c.in-Ok.ensures.month c.in-Ok.ensures.given in
    subst (λ fault. IfErr c.places_of.result (IsTold fault)) (sym told) c.places_of.ensures.fault
