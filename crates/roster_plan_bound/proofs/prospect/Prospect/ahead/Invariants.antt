use Rattle.roster_plan_bound.specs.Prospects.{IsAhead}
use Rattle.roster_plan_bound.proofs.prospect.Prospect.ahead.Given as goal

-- by the tables so far
abbrev pub invariant-loop-i : goal.invariant-loop-i
invariant-loop-i l =
    IsAhead l.self.problem l.self.person l.self.timeline l.self.units l.value l.flight l.load l.q l.due.class l.due.need l.least
