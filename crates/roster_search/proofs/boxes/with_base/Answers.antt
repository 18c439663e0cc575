use Rattle.std.proofs.Common.{◌≡◌, ◌-◌, ◌^◌, ℕ, List, length, pos, ap, subst, ◌∙◌, arith}
use Rattle.roster_bases.specs.Bases.{only}
use Rattle.roster_bases.specs.United.{unite}
use Rattle.roster_search_least.specs.Least.{IsLeastBelow}
use Rattle.roster_search_least.specs.Parts.{IsInPart}
use Rattle.roster_search_least.proofs.BoxLemmas.{least_of_next}
use Rattle.roster_search.proofs.boxes.with_base.Goals as goal

pub returns-clause-least : goal.returns-clause-least
returns-clause-least g c =
    let problem = c.args.lines.now.problem.now in
    let base : ℕ = c.args.base in
    (base, subst (λ found. IsLeastBelow problem (IsInPart problem c.args.lines.now.table.now c.args.lines.now.ranges.now (only base)) (pos (2 ^ 63 - 1)) found) c.in-None.is c.in_ok-part.ensures.least)

pub returns-in-Some-clause-least : goal.returns-in-Some-clause-least
returns-in-Some-clause-least g c =
    let problem = c.args.lines.now.problem.now in
    let table = c.args.lines.now.table.now in
    let ranges = c.args.lines.now.ranges.now in
    let covers : length ranges ≡ length problem.persons =
    omega (arith, c.requires.ranges, c.requires.table.covers) in
    let base : ℕ = c.args.base in
    let part = subst (λ found. IsLeastBelow problem (IsInPart problem table ranges (only base)) (pos (2 ^ 63 - 1)) found) c.in-Some.is c.in_ok-part.ensures.least in
    let old : List ℕ = c.args.places.items in
    let new : List ℕ = c.in_ok-united-in-Some.field-0.items in
    let seen : new ≡ unite problem (only base) c.in-Some.part.places c.deref.result.now =
    c.in_ok-united-in-Some.ensures in
    let same : new ≡ unite problem (only base) c.in-Some.part.places old =
    seen ∙ ap (unite problem (only base) c.in-Some.part.places) c.deref.ensures.value in
    least_of_next problem table ranges base c.in-Some.part old new covers part.0 c.requires.least same
