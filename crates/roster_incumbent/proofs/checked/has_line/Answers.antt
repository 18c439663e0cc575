use Rattle.std.proofs.Common.{ℕ, Bool, List, sym, subst}
use Rattle.std.specs.Prelude.{IsTrue}
use Rattle.roster_model.specs.Places.{set_of}
use Rattle.roster_model.specs.Rules.{IsLegal}
use Rattle.roster_incumbent.proofs.LegalLines.{found_is_legal, Finds}
use Rattle.roster_incumbent.proofs.checked.has_line.Goals as goal

pub returns : goal.returns
returns c =
    let k = c.args.k in
    let legal : Bool → Type 0 = λ yes. (IsTrue yes → IsLegal c.args.problem.now k (set_of k c.args.places.now)) × (IsLegal c.args.problem.now k (set_of k c.args.places.now) → IsTrue yes) in
    let finds =
    subst
    (λ (set : List ℕ). Finds c.args.table.now k set c.find.result) c.of_places.ensures c.find.ensures in
    subst legal (sym c.is_some.ensures) (found_is_legal c.args.problem.now c.args.table.now k c.args.places.now c.find.result c.requires.table c.requires.person c.requires.covers finds)
