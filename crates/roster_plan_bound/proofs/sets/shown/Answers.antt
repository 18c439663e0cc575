use Rattle.std.proofs.Common.{◌≡◌, sym, subst, ℤ, w64, FitsSigned, to_z, of_z}
use Rattle.std.proofs.lemmas.Int.{to_z-of_z}
use Rattle.roster_plan_bound.specs.Prospects.{IsLeastPath}
use Rattle.roster_plan_bound.proofs.sets.shown.Goals as goal

pub is_least-requires-clause-path : goal.is_least-requires-clause-path
is_least-requires-clause-path c =
    let o = c.args.prospect.now in
    let least : ℤ = c.seek_all.new.least in
    let claim : to_z w64 (of_z w64 c.args.claim) ≡ c.args.claim = to_z-of_z w64 c.args.claim c.ranges.claim in
    let claimed = subst (FitsSigned w64) (sym claim) c.ranges.claim in
    let fits : FitsSigned w64 least = c.seek_all.ensures.word claimed in
    let told : to_z w64 (of_z w64 least) ≡ least = to_z-of_z w64 least fits in
    subst (IsLeastPath o.problem o.person o.timeline o.units) (sym told)
    (c.in_ok-seek_all.ensures.least c.if-not-branch.false)
