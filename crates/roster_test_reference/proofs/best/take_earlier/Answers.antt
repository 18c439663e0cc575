use Rattle.std.proofs.Common.{ℤ, SFits, w64, to_z, of_z, sym, ◌∙◌, rules}
use Rattle.std.proofs.lemmas.Int.{to_z-of_z}
use Rattle.std.proofs.lemmas.Bool.{not-true, not-false}
use Rattle.roster_model.specs.Settled.{Anywhere}
use Rattle.roster_model.proofs.SettledLemmas.{Settles-taken, Settles-left}
use Rattle.roster_test_reference.proofs.best.take_earlier.Goals as goal

pub returns-then-comes_after : goal.returns-then-comes_after
returns-then-comes_after c =
    let cost : ℤ = to_z w64 (of_z w64 c.roster_cost-cost.result) in
    let fits : SFits w64 c.roster_cost-cost.result = search rules in
    Settles-taken c.args.problem.now Anywhere c.args.best.now cost c.args.places.now c.copy_from_slice.new.self
    (to_z-of_z w64 c.roster_cost-cost.result fits ∙ c.roster_cost-cost.ensures) c.copy_from_slice.ensures c.requires.legal tt
    (not-true _ (sym c.comes_after.ensures ∙ c.if-comes_after.true))

pub returns-else-comes_after : goal.returns-else-comes_after
returns-else-comes_after c =
    let cost : ℤ = to_z w64 (of_z w64 c.roster_cost-cost.result) in
    let fits : SFits w64 c.roster_cost-cost.result = search rules in
    Settles-left c.args.problem.now Anywhere c.args.best.now cost c.args.places.now c.requires.held
    (to_z-of_z w64 c.roster_cost-cost.result fits ∙ c.roster_cost-cost.ensures)
    (not-false _ (sym c.comes_after.ensures ∙ c.if-comes_after.false))
