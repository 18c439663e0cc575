use Rattle.std.proofs.Common.{◌≡◌, ◌<◌, ℕ, None, Some, IfErr, IfOk, map, length, slice_get, subst, sym}
use Rattle.roster_desk_reports.specs.Faults.{IsTold}
use Rattle.roster_desk_reports.specs.Given.{HasAll, IsGiven}
use Rattle.roster_desk_reports.specs.Text.{numbered_by_line}
use Rattle.roster_desk_reports.proofs.Passed.{known-given, known-numbered, known-told}
use Rattle.roster_desk_reports.proofs.known.read_known_roster.Goals as goal

pub returns-in_ok-crew-in-Ok-clause-has : goal.returns-in_ok-crew-in-Ok-clause-has
returns-in_ok-crew-in-Ok-clause-has c =
    let problem = c.args.problem.now in
    let same = known-given problem c.args.text.now c.in-Ok.report.crew.items c.in_ok-crew-in-Ok.crew.items c.in-Ok.ensures.given c.in_ok-crew-in-Ok.ensures in
    subst (λ all. IfOk c.places_of.result (λ places. HasAll problem places all)) same c.places_of.ensures.has

pub returns-in_ok-crew-in-Ok-clause-given : goal.returns-in_ok-crew-in-Ok-clause-given
returns-in_ok-crew-in-Ok-clause-given c =
    let problem = c.args.problem.now in
    let same = known-given problem c.args.text.now c.in-Ok.report.crew.items c.in_ok-crew-in-Ok.crew.items c.in-Ok.ensures.given c.in_ok-crew-in-Ok.ensures in
    subst (λ all. IfOk c.places_of.result (λ places. (p k : ℕ) → k < length problem.persons → slice_get places p ≡ Some k → IsGiven problem all p k)) same c.places_of.ensures.given

pub returns-in_ok-crew-in-Ok-clause-sound : goal.returns-in_ok-crew-in-Ok-clause-sound
returns-in_ok-crew-in-Ok-clause-sound c =
    let problem = c.args.problem.now in
    let report = c.in-Ok.report in
    let known = c.in_ok-crew-in-Ok.crew.items in
    let same = known-numbered problem c.args.text.now report.crew.items known c.in-Ok.ensures.given c.in_ok-crew-in-Ok.ensures in
    let told = known-told problem c.args.text.now (report.period, report.first) (map numbered_by_line known) c.in-Ok.ensures.sound c.in-Ok.ensures.month same in
    subst (λ fault. IfOk c.places_of.result (λ _. fault ≡ None)) (sym told) c.places_of.ensures.sound

pub returns-in_ok-crew-in-Ok-clause-fault : goal.returns-in_ok-crew-in-Ok-clause-fault
returns-in_ok-crew-in-Ok-clause-fault c =
    let problem = c.args.problem.now in
    let report = c.in-Ok.report in
    let known = c.in_ok-crew-in-Ok.crew.items in
    let same = known-numbered problem c.args.text.now report.crew.items known c.in-Ok.ensures.given c.in_ok-crew-in-Ok.ensures in
    let told = known-told problem c.args.text.now (report.period, report.first) (map numbered_by_line known) c.in-Ok.ensures.sound c.in-Ok.ensures.month same in
    subst (λ fault. IfErr c.places_of.result (IsTold fault)) (sym told) c.places_of.ensures.fault
