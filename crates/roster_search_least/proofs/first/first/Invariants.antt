use Rattle.roster_search_least.specs.Firsts.{AgreeBefore, GoesOn}
use Rattle.roster_search_least.proofs.first.first.Given as goal

-- the places so far are settled
abbrev pub invariant-loop-p : goal.invariant-loop-p
invariant-loop-p g l = record {
  agree : AgreeBefore l.problem l.p l.region l.roster;
  on : GoesOn l.problem l.initial.region l.initial.roster l.region l.roster;
  goes_on : g.F.Finder.goes_on l.initial.finder l.finder;
}
