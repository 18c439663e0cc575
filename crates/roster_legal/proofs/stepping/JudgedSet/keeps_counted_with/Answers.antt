use Rattle.std.proofs.Common.{◌≤◌, ◌++◌, ◌∷◌, [], length, ap, subst, arith}
use Rattle.std.specs.Prelude.{IsTrue}
use Rattle.roster_model.specs.Problem.{home_of, year_of, eleven_of}
use Rattle.roster_model.specs.Rules.{duty_list, LimitRule, DaysOffRule}
use Rattle.roster_cumulative.proofs.JudgedSums.{limits-by_sums}
use Rattle.roster_legal.specs.Stepping.{HoldCounted, IsPlaced, Stepped}
use Rattle.roster_legal.proofs.Stepped.{before, known_of}
use Rattle.roster_legal.proofs.stepping.JudgedSet.keeps_counted_with.Goals as goal

-- each rule by what judges it
counted : (c : goal.After-has_room_for) → IsTrue c.has_room_for.result → 2 ≤ length c.args.self.now.set → HoldCounted c.args.self.now.loads.problem c.args.self.now.loads.person (c.args.self.now.set ++ c.args.p ∷ [])
counted c holds many (LimitRule limit) behind =
    let judged = c.args.self.now in
    let same = ap (λ (j : Stepped). j.loads) c.self.view_is in
    let placed = subst IsPlaced same c.problem.ensures.placed in
    let known = known_of c.self.view_is c.self.invariant in
    let few = before judged c.args.p placed.ordered placed.timed known.legal c.requires.next in
    limits-by_sums (home_of judged.loads.problem judged.loads.person).days
    (duty_list judged.loads.problem judged.loads.person (judged.set ++ c.args.p ∷ []))
    (year_of judged.loads.problem judged.loads.person)
    (eleven_of judged.loads.problem judged.loads.person) few.0 few.1
    (c.has_room_for.ensures.yes holds many) limit
counted c holds many DaysOffRule behind =
    c.has_days_off_with.ensures.yes c.if-not-has_days_off_with.false many
counted c holds many rule behind = absurd (omega arith)

pub returns-clause-yes : goal.returns-clause-yes
returns-clause-yes c = counted c
