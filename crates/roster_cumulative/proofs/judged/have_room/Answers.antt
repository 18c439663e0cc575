use Rattle.std.proofs.Common.{◌≤◌, length, inl, inr, arith}
use Rattle.std.proofs.lemmas.Bool.{cases_lt}
use Rattle.std.proofs.lemmas.List.{get_or_past}
use Rattle.roster_cumulative.proofs.judged.have_room.Goals as goal

pub returns : goal.returns
returns c =
    let rooms = c.args.rooms.now in
    let loads = c.args.loads.now in
    let all : length rooms ≤ c.loop-j.j = omega arith in (
      λ have k. elim (cases_lt k (length rooms)) [
        | inl inside ↦ c.loop-j.invariant.0 have k (omega arith)
        | inr past ↦ let none = get_or_past loads k 0 (omega arith) in omega arith
      ],
      λ each. c.loop-j.invariant.1 (λ k below. each k),
    )
