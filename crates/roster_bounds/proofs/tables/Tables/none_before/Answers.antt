use Rattle.std.proofs.Common.{◌≡◌, Bool, true, false, not, refl, ap, subst}
use Rattle.std.specs.Prelude.{IfSome, IsTrue}
use Rattle.std.specs.Arc.{arc_value}
use Rattle.std.proofs.lemmas.Bool.{false≢true}
use Rattle.roster_model.specs.Problem.{Problem}
use Rattle.roster_model.specs.Rosters.{Key, key_le, key_of}
use Rattle.roster_model.specs.Settled.{Anywhere, IsNotAfter}
use Rattle.roster_model.proofs.KeyLemmas.{key_le-trans}
use Rattle.roster_bounds.specs.Chosen.{PricedTable}
use Rattle.roster_bounds.proofs.tables.Tables.none_before.Goals as goal

-- what isn't said to be before is not after
not_after : (said after : Bool) → said ≡ not after → IsTrue (not said) → after ≡ true
not_after said true same is = refl
not_after said false same is = absurd (false≢true (subst (λ b. IsTrue (not b)) same is))

pub returns-in-Some : goal.returns-in-Some
returns-in-Some c none others legal inside =
    let roster = c.args.roster.now in
    let problem = ap (λ (t : PricedTable). t.problem) c.self.view_is in
    let least : IsNotAfter c.args.self.now.problem Anywhere (arc_value c.in-Some.best) =
    subst (λ (p : Problem). IsNotAfter p Anywhere (arc_value c.in-Some.best)) problem
    (subst (λ best. IfSome best (λ best. IsNotAfter c.self.inside.problem.now Anywhere (arc_value best))) c.in-Some.is c.self.invariant.1) in
    let before =
    subst (λ (key : Key). key_le roster key ≡ true) c.deref.ensures
    (not_after c.comes_before.result _ c.comes_before.ensures.value none) in
    key_le-trans roster (arc_value c.in-Some.best) (key_of c.args.self.now.problem others) before
    (least others legal inside)
