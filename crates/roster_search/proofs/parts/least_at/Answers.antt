use Rattle.std.proofs.Common.{◌≡◌, ◌-◌, ◌^◌, ℕ, Option, pos, sym, subst}
use Rattle.std.proofs.lemmas.Result.{IfOk-weaker}
use Rattle.roster_model.specs.Rosters.{Key}
use Rattle.roster_bases.specs.Bases.{only}
use Rattle.roster_search_least.specs.Least.{IsLeastBelow}
use Rattle.roster_search_least.specs.Parts.{IsBasePart, IsInPart}
use Rattle.roster_search.proofs.parts.least_at.Goals as goal

pub returns-then-part-base-clause-least : goal.returns-then-part-base-clause-least
returns-then-part-base-clause-least g c =
    let problem = c.args.lines.now.problem.now in
    let table = c.args.lines.now.table.now in
    let ranges = c.args.lines.now.ranges.now in
    let found = c.index-parts-i.result in
    let least : ℕ → Option Key → Type 0 =
    λ base. IsLeastBelow problem (IsInPart problem table ranges (only base)) (pos (2 ^ 63 - 1)) in
    let part : IsBasePart problem table ranges found =
    subst (IsBasePart problem table ranges) (sym c.index-parts-i.is)
    (c.requires.parts c.loop-i.i found c.loop-i-test.true) in
    let here : least c.args.base found.1 =
    subst (λ (base : ℕ). least base found.1) c.if-part-base.true part in
    IfOk-weaker c.copy_if.result (λ copy. copy ≡ found.1) (least c.args.base)
    (λ copy same. subst (least c.args.base) (sym same) here) c.copy_if.ensures
