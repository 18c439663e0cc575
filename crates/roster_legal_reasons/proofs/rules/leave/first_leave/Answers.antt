use Rattle.std.proofs.Common.{◌≡◌, length, ap, arith}
use Rattle.std.proofs.lemmas.Option.{slice_get_within}
use Rattle.roster_model.specs.Calendar.{common}
use Rattle.roster_model.specs.records.Leave.{Leave, is_leave_of}
use Rattle.roster_legal_reasons.proofs.Elements.{All-passed}
use Rattle.roster_legal_reasons.proofs.rules.leave.first_leave.Goals as goal

pub returns : goal.returns
returns c =
    let duty = c.args.duty.now in
    let leaves = c.args.problem.now.leaves in
    All-passed (is_leave_of c.args.k)
    (λ (leave : Leave). common duty.report duty.release leave.from leave.to ≡ 0) leaves (λ m leave at own.
    let inside = slice_get_within leaves m leave at in
    let long = ap length c.leaves-leaves.ensures.value in
    c.loop-place.invariant m leave (omega (arith, inside, long)) at own)
