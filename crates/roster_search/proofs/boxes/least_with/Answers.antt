use Rattle.std.proofs.Common.{◌≡◌, length, subst, arith}
use Rattle.std.specs.Prelude.{MatchOption}
use Rattle.std.proofs.lemmas.Option.{MatchOption-at_some}
use Rattle.roster_model.specs.Rosters.{key_of}
use Rattle.roster_search_regions.specs.Regions.{IsInRanges}
use Rattle.roster_search_least.specs.Least.{IsLeast}
use Rattle.roster_search_least.specs.Parts.{IsWithoutPart}
use Rattle.roster_search_least.proofs.BoxLemmas.{settled_by_earlier, settled_by_none}
use Rattle.roster_search.proofs.boxes.least_with.Goals as goal

pub returns-in-None-clause-settled : goal.returns-in-None-clause-settled
returns-in-None-clause-settled g c =
    let problem = c.args.lines.now.problem.now in
    let table = c.args.lines.now.table.now in
    let ranges = c.args.lines.now.ranges.now in
    let covers : length ranges ≡ length problem.persons =
    omega (arith, c.requires.ranges, c.requires.table.covers) in
    let none : IsWithoutPart problem table ranges = subst (λ found. MatchOption found (IsWithoutPart problem table ranges) (λ places. IsLeast problem (IsInRanges table ranges) (key_of problem places.items))) c.in-None.is c.in_ok-places.ensures.least in
    settled_by_none problem table ranges none.0 c.args.known.now covers c.requires.known none.1 c.costs_fit.ensures.high

pub returns-in-Some-clause-settled : goal.returns-in-Some-clause-settled
returns-in-Some-clause-settled g c =
    let problem = c.args.lines.now.problem.now in
    let table = c.args.lines.now.table.now in
    let ranges = c.args.lines.now.ranges.now in
    let covers : length ranges ≡ length problem.persons =
    omega (arith, c.requires.ranges, c.requires.table.covers) in
    let least = MatchOption-at_some _ _ _ c.in-Some.is c.in_ok-places.ensures.least in
    settled_by_earlier problem (IsInRanges table ranges) (IsInRanges table ranges) c.args.known.now c.in-Some.places.items c.if_before.result c.requires.known least.held.legal least.least least.inside c.if_before.ensures.earlier
