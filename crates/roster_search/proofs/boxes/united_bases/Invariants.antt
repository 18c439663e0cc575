use Rattle.roster_model.specs.Rosters.{key_of}
use Rattle.roster_bases.specs.Bases.{before}
use Rattle.roster_search_least.specs.Least.{IsLeast}
use Rattle.roster_search_least.specs.Parts.{IsInPart}
use Rattle.roster_search.proofs.boxes.united_bases.Given as goal

-- the bases so far are united
abbrev pub invariant-loop-base : goal.invariant-loop-base
invariant-loop-base g l = record {
  least : IsLeast l.lines.problem.now (IsInPart l.lines.problem.now l.lines.table.now l.lines.ranges.now (before l.base))
      (key_of l.lines.problem.now l.places.items);
  goes_on : g.F.Finder.goes_on l.initial.finder l.finder;
}
