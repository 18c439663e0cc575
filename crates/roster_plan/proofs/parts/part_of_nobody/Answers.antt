use Rattle.std.proofs.Common.{◌≡◌, ℤ, ap, ◌∙◌, subst, sym, w64, to_z, of_z, FitsSigned, rules}
use Rattle.std.proofs.lemmas.Int.{to_z-of_z}
use Rattle.roster_bases.specs.Bases.{only}
use Rattle.roster_bases.specs.Homes.{IsHomeBound}
use Rattle.roster_plan.proofs.ExactLemmas.{best_is_home_bound}
use Rattle.roster_plan.proofs.PartLemmas.{nobody_part}
use Rattle.roster_plan.proofs.parts.part_of_nobody.Goals as goal

pub returns : goal.returns
returns c =
    let problem = c.args.problem.now in
    let base = c.args.base in
    let key = c.costed-roster.result in
    let cost : ℤ = c.roster.inside.cost in
    let fits : FitsSigned w64 cost = search rules in
    let told : to_z w64 (of_z w64 cost) ≡ key.cost =
    to_z-of_z w64 cost fits ∙ ap (λ k. k.cost) c.roster.view_is in
    let is = nobody_part problem base c.in_ok-all_open.field-0.items key c.requires c.in_ok-all_open.ensures c.costed-roster.ensures in
    record {
      held = is.0;
      home = is.1.0;
      bounded = subst (IsHomeBound problem (only base)) (sym told) (best_is_home_bound problem base key is.1.1);
      best = λ _. is.1.1;
    }
