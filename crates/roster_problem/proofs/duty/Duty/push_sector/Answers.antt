use Rattle.std.proofs.Common.{◌≡◌, true, sym, subst}
use Rattle.roster_model.specs.records.Duty.{Duty}
use Rattle.roster_model.specs.records.Sector.{is_in_sequence}
use Rattle.roster_problem.specs.View.{holder_of}
use Rattle.roster_problem.proofs.SectorLists.{AreSectors-push}
use Rattle.roster_problem.proofs.duty.Duty.push_sector.Goals as goal

pub invariant_of-self-2 : goal.invariant_of-self-2
invariant_of-self-2 c =
    let i = c.self.inside in
    let duty : Duty = record { id = i.id; holder = holder_of i.holder; station = i.station; report = i.report; release = i.release; sectors = i.sectors.items; row = i.row } in
    let P : Duty → Type 0 = λ duty. is_in_sequence duty c.args.sector.off c.args.sector.on ≡ true in
    (c.self.invariant.0, rw c.in_ok-push.ensures.items (AreSectors-push duty c.args.sector c.self.invariant.1 (subst P (sym c.self.view_is) c.requires)))
