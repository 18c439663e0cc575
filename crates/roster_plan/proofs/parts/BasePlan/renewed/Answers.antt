use Rattle.std.proofs.Common.{◌≡◌, true, ℤ, sym, subst, w64, to_z, of_z, FitsSigned, rules}
use Rattle.std.proofs.lemmas.Int.{to_z-of_z}
use Rattle.roster_model.specs.Rosters.{Key, key_le, key_of}
use Rattle.roster_model.specs.Settled.{IsHeld}
use Rattle.roster_model.proofs.KeyLemmas.{key_le-trans}
use Rattle.roster_bases.specs.Bases.{only}
use Rattle.roster_bases.specs.Homes.{IsHome, IsHomeBound}
use Rattle.roster_plan.proofs.PartLemmas.{either_part}
use Rattle.roster_plan.proofs.parts.BasePlan.renewed.Goals as goal

pub returns-clause-part : goal.returns-clause-part
returns-clause-part c =
    let problem = c.args.problem.now in
    let base = c.args.base in
    let bound : ℤ = c.args.self.now.bound in
    let fits : FitsSigned w64 bound = search rules in
    let told : to_z w64 (of_z w64 bound) ≡ bound = to_z-of_z w64 bound fits in
    let is = c.in_ok-copy.ensures in
    let part = c.requires.part in
    let key = c.cheaper-roster.result in
    let own = either_part problem base c.in_ok-own.own c.in_ok-copy.field-0 key c.in_ok-own.ensures.held c.in_ok-own.ensures.home
    (subst (IsHeld problem) (sym is) part.held) (subst (λ (k : Key). IsHome problem (only base) k.places) (sym is) part.home) c.cheaper-roster.ensures.from in
    let kept : key_le key c.args.self.now.roster ≡ true =
    subst (λ k. key_le key k ≡ true) is c.cheaper-roster.ensures.second in
    record {
      held = own.0;
      home = own.1;
      bounded = subst (IsHomeBound problem (only base)) (sym told) part.bounded;
      best = λ best others legal home. key_le-trans key c.args.self.now.roster (key_of problem others) kept (part.best best others legal home);
    }
