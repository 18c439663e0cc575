use Rattle.std.proofs.Common.{◌≡◌, ◌+◌, sym, ◌∙◌, arith, w64, to_z, of_z}
use Rattle.std.specs.Prelude.{unsigned_abs}
use Rattle.std.proofs.lemmas.Int.{ints}
use Rattle.std.proofs.lemmas.Option.{get_or_from_slice_get}
use Rattle.roster_model.specs.declared.limits.TheConstants.{DAYS_BEFORE}
use Rattle.roster_plan_bound.proofs.days_off.day_begin.Goals as goal

pub returns-clause-value : goal.returns-clause-value
returns-clause-value c =
    let get = c.get.ensures.value in
    let bound = c.get.ensures.bound in
    let told : unsigned_abs (to_z w64 (of_z w64 c.get.result)) ≡ c.mid.result = omega (arith, ints, get, bound) in
    told ∙ sym (get_or_from_slice_get c.args.days.now.mid (DAYS_BEFORE + c.args.i) c.mid.result 0 c.mid.ensures.value)
