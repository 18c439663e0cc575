use Rattle.std.proofs.Common.{◌≡◌, ℤ, subst, sym, w64, to_z, of_z, FitsSigned, rules}
use Rattle.std.proofs.lemmas.Bool.{false≢true}
use Rattle.std.proofs.lemmas.Int.{to_z-of_z}
use Rattle.roster_bases.specs.Bases.{only}
use Rattle.roster_bases.specs.Homes.{IsHomeBound}
use Rattle.roster_plan.proofs.parts.first_part.Goals as goal

pub returns : goal.returns
returns c =
    let bound : ℤ = c.lower_bound.result in
    let fits : FitsSigned w64 bound = search rules in
    let told : to_z w64 (of_z w64 bound) ≡ bound = to_z-of_z w64 bound fits in
    record {
      held = c.in_ok-roster_of.ensures.held;
      home = c.in_ok-roster_of.ensures.home;
      bounded = subst (IsHomeBound c.args.problem.now (only c.args.base)) (sym told) c.lower_bound.ensures;
      best = λ is. absurd (false≢true is);
    }
