use Rattle.std.proofs.Common.{◌≡◌, length, w64, to_z, of_z, refl, ap, ◌∙◌, arith}
use Rattle.std.proofs.lemmas.Int.{to_z-of_z}
use Rattle.roster_cost.specs.Amounts.{cost_without_pairings}
use Rattle.roster_model.specs.Problem.{Problem}
use Rattle.roster_search_regions.specs.Regions.{idle_cost}
use Rattle.roster_search_regions.proofs.Boxes.{HasRanges, ranges-region, ranges-in, in-ranges}
use Rattle.roster_lines_table.proofs.TableLemmas.{first_line}
use Rattle.roster_search_regions.proofs.region.Region.of_ranges.Goals as goal

idle_is : (problem : Problem) → cost_without_pairings problem ≡ idle_cost problem
unfolding idle_cost
idle_is problem = refl

pub tree_of-requires-clause-first : goal.tree_of-requires-clause-first
tree_of-requires-clause-first c =
    first_line c.args.problem.now c.args.table.now c.loop-k.k c.requires.table
    (omega (arith, ap length c.persons-k-end.ensures.value, c.loop-k-test.true))

has : (c : goal.After-cost_without_pairings) → HasRanges c.args.problem.now c.args.table.now c.args.ranges.now (record { choices = c.loop-k.persons.items; left_open = c.empty.result; flown = c.empty-2.result; least_open = 0; most_open = length c.pairings.result.now; scale = c.scale_of-scale.result; idle = to_z w64 (of_z w64 c.cost_without_pairings.result); unit = c.unit_of-unit.result })
has c =
    let persons = ap length c.persons-k-end.ensures.value in
    record {
      is = c.requires.table;
      covers = omega (arith, persons, c.loop-k.invariant.covers);
      ranged = omega (arith, c.requires.ranges, c.requires.table.covers);
      each = λ k person. c.loop-k.invariant.each k (omega (arith, persons));
      idle =
          to_z-of_z w64 c.cost_without_pairings.result (record { sfits = c.cost_without_pairings.type_inv })
          ∙ c.cost_without_pairings.ensures.value ∙ idle_is c.args.problem.now;
      left_open = c.empty.ensures;
      flown = c.empty-2.ensures;
      least_open = refl;
      most_open = ap length c.pairings.ensures.value;
      some = c.unit_of-unit.ensures.some;
      penalties = c.unit_of-unit.ensures.penalties;
      divided = c.unit_of-unit.ensures.lines;
      shared = λ places. c.shares_add_up.ensures c.args.problem.now places;
    }

pub returns-clause-region : goal.returns-clause-region
returns-clause-region c = ranges-region c.args.problem.now c.args.table.now c.args.ranges.now _ (has c)

pub returns-clause-same : goal.returns-clause-same
returns-clause-same c places = (
  λ there. ranges-in c.args.problem.now c.args.table.now c.args.ranges.now _ (has c) places there,
  λ there. in-ranges c.args.problem.now c.args.table.now c.args.ranges.now _ (has c) places there.0 there.1,
)
