use Rattle.std.proofs.Common.{◌≡◌, length, arith}
use Rattle.roster_model.specs.Rosters.{key_of}
use Rattle.roster_search_least.proofs.BoxLemmas.{least_of_all, least_of_none}
use Rattle.roster_search.proofs.boxes.united_bases.Goals as goal

pub loop-base-init : goal.loop-base-init
loop-base-init g c = record {
  least = least_of_none c.args.lines.now.problem.now c.args.lines.now.table.now c.args.lines.now.ranges.now c.in_ok-places.places.items c.in_ok-places.ensures;
  goes_on = g.met.F.Finder.stays _;
}

pub returns-clause-least : goal.returns-clause-least
returns-clause-least g c =
    let problem = c.args.lines.now.problem.now in
    let table = c.args.lines.now.table.now in
    let ranges = c.args.lines.now.ranges.now in
    let covers : length ranges ≡ length problem.persons =
    omega (arith, c.requires.ranges, c.requires.table.covers) in
    least_of_all problem table ranges c.loop-base.base
    (key_of problem c.loop-base.places.items) c.is_sound.ensures.sound covers
    (omega (arith, c.loop-base-test.false, c.loop-base.auto.base-end)) c.loop-base.invariant.least
