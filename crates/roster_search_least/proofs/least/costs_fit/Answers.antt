use Rattle.std.proofs.Common.{◌≤ℤ◌, pos, subst}
use Rattle.roster_cost.specs.Amounts.{most_missed}
use Rattle.roster_search_least.proofs.Limits.{cost_limits}
use Rattle.roster_search_least.proofs.least.costs_fit.Goals as goal

pub returns-clause-low : goal.returns-clause-low
returns-clause-low c places legal =
    let idle = c.cost_without_pairings-idle.ensures in
    (cost_limits c.shares_add_up.ensures c.lines_are_near.ensures c.args.problem.now places c.is_sound.ensures.sound (subst (λ z. pos 0 ≤ℤ z) idle.value idle.low) (subst (λ z. z ≤ℤ pos most_missed) idle.value idle.high) legal).0

pub returns-clause-high : goal.returns-clause-high
returns-clause-high c places legal =
    let idle = c.cost_without_pairings-idle.ensures in
    (cost_limits c.shares_add_up.ensures c.lines_are_near.ensures c.args.problem.now places c.is_sound.ensures.sound (subst (λ z. pos 0 ≤ℤ z) idle.value idle.low) (subst (λ z. z ≤ℤ pos most_missed) idle.value idle.high) legal).1
