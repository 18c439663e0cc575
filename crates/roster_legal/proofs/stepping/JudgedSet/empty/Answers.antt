use Rattle.std.proofs.Common.{ℕ, List, ap, subst, sym, ◌∙◌}
use Rattle.roster_model.specs.Rules.{duty_list}
use Rattle.roster_legal.specs.Stepping.{IsStepped}
use Rattle.roster_legal.proofs.BusyDays.{stepped-empty}
use Rattle.roster_legal.proofs.stepping.JudgedSet.empty.Goals as goal

pub invariant_of-result : goal.invariant_of-result
invariant_of-result c =
    let problem = c.problem-problem.result.now in
    let k = c.person-k.result in
    subst (λ (set : List ℕ). IsStepped c.args.loads.now set 0 c.in_ok-positions.positions.items c.in_ok-rooms.rooms.items c.busy_days.result) (sym c.empty-2.ensures)
    (stepped-empty c.args.loads.now problem k c.days_of.result.now _ c.in_ok-positions.positions.items c.in_ok-rooms.rooms.items c.busy_days.result c.problem-problem.ensures.value c.person-k.ensures c.days_of.ensures
    (c.in_ok-fixed.ensures.value ∙ ap (duty_list problem k) c.empty.ensures)
    c.in_ok-positions.ensures c.in_ok-rooms.ensures c.busy_days.ensures)
