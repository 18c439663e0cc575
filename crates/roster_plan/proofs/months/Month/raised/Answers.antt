use Rattle.std.proofs.Common.{◌≡◌, Some, sym, ap, subst, ◌∙◌, arith, ℤ, ◌≤ℤ◌, w64, to_z, of_z, FitsSigned, rules}
use Rattle.std.proofs.lemmas.Int.{ints, to_z-of_z}
use Rattle.std.proofs.lemmas.Option.{slice_get-get_or}
use Rattle.std.proofs.lemmas.Result.{IfOk-weaker}
use Rattle.roster_model.specs.Rosters.{Key}
use Rattle.roster_model.specs.Settled.{IsHeld, IsNotAfter}
use Rattle.roster_bases.specs.Bases.{only}
use Rattle.roster_bases.specs.Homes.{IsHome, IsHomeBound}
use Rattle.roster_plan.specs.declared.parts.BasePlan.{BasePlan}
use Rattle.roster_plan.specs.Months.{HasBound}
use Rattle.roster_plan.specs.Parts.{IsPart}
use Rattle.roster_model.specs.declared.limits.TheConstants.{MOST_BASES}
use Rattle.roster_plan.proofs.PartLemmas.{part_at}
use Rattle.roster_plan.proofs.MonthLemmas.{has_bound, month_same}
use Rattle.roster_plan.proofs.months.Month.raised.Goals as goal

pub returns-then-bound-part-clause-month : goal.returns-then-bound-part-clause-month
returns-then-bound-part-clause-month g c = month_same c.args.problem.now c.args.self c.requires.month

pub returns-then-bound-part-clause-raised : goal.returns-then-bound-part-clause-raised
returns-then-bound-part-clause-raised g c =
    let parts = c.args.self.parts.items in
    let part = c.index-part.result.now in
    let bound : ℤ = c.args.bound in
    let own : ℤ = part.bound in
    let fits : FitsSigned w64 bound = search rules in
    let own_fits : FitsSigned w64 own = search rules in
    let told : to_z w64 (of_z w64 bound) ≡ bound = to_z-of_z w64 bound fits in
    let own_told : to_z w64 (of_z w64 own) ≡ own = to_z-of_z w64 own own_fits in
    let least : bound ≤ℤ own = omega (arith, ints, told, own_told, c.if-bound-part.true) in
    let stands =
    slice_get-get_or parts c.args.base part
    (omega (arith, c.requires.base, c.requires.month.parts.covers))
    ∙ ap (λ (p : BasePlan). Some p) (sym c.index-part.ensures) in
    has_bound c.args.base bound c.args.self part stands least

pub with-requires-clause-part : goal.with-requires-clause-part
with-requires-clause-part g c =
    let problem = c.args.problem.now in
    let base = c.args.base in
    let part : IsPart problem base c.index-part.result.now = part_at problem MOST_BASES base c.args.self.parts.items c.index-part.result.now c.requires.month.parts c.requires.base c.index-part.ensures in
    let is = sym c.in_ok-copy.ensures in
    let bound : ℤ = c.args.bound in
    let fits : FitsSigned w64 bound = search rules in
    record {
      held = subst (IsHeld problem) is part.held;
      home = subst (λ (key : Key). IsHome problem (only base) key.places) is part.home;
      bounded = subst (IsHomeBound problem (only base)) (sym (to_z-of_z w64 bound fits)) c.requires.bound;
      best = λ told. subst (IsNotAfter problem (IsHome problem (only base))) is (part.best told);
    }

pub returns-clause-raised : goal.returns-clause-raised
returns-clause-raised g c =
    let bound : ℤ = c.args.bound in
    let fits : FitsSigned w64 bound = search rules in
    let told : to_z w64 (of_z w64 bound) ≡ bound = to_z-of_z w64 bound fits in
    IfOk-weaker c.with.result _ (HasBound c.args.base bound)
    (λ month stands. has_bound c.args.base bound month _ stands (omega (arith, ints, told))) c.with.ensures.part
