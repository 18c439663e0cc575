use Rattle.std.proofs.Common.{◌≡◌, inl, inr, sym, subst, ap, arith, rules, ℤ, w64, to_z, of_z, FitsSigned}
use Rattle.std.specs.Prelude.{IfSome}
use Rattle.std.proofs.lemmas.Int.{ints, to_z-of_z}
use Rattle.roster_model.specs.Rosters.{Key, key_of}
use Rattle.roster_model.specs.Settled.{IsHeld}
use Rattle.roster_model.proofs.KeyLemmas.{key_le-trans}
use Rattle.roster_lines_table.specs.Person.{IsOfTable}
use Rattle.roster_search_least.specs.Least.{IsLeastBelow}
use Rattle.roster_search.specs.Limited.{IsSearched}
use Rattle.roster_search_least.proofs.Keys.{by_cost}
use Rattle.roster_plan.specs.Near.{HasAllNear}
use Rattle.roster_plan.proofs.nearby.search_nearby.Goals as goal

pub returns-in-Settled-Some-clause-held : goal.returns-in-Settled-Some-clause-held
returns-in-Settled-Some-clause-held c =
    let problem = c.args.problem.now in
    let limit : ℤ = to_z w64 (of_z w64 c.saturating_add-limit.result) in
    let settled =
    subst (IsSearched problem c.in-Some.table limit) c.in-Settled-Some.is c.in_ok-roster.ensures in
    let least =
    subst (IsLeastBelow problem (IsOfTable c.in-Some.table) limit) c.in-Settled-Some.field-0-is settled in
    elim c.earlier.ensures.from [
      | inl new ↦ subst (IsHeld problem) (sym new) least.0.held
      | inr old ↦ subst (IsHeld problem) (sym old) c.requires.known
    ]

pub returns-in-Settled-Some-clause-settled : goal.returns-in-Settled-Some-clause-settled
returns-in-Settled-Some-clause-settled c told others legal near =
    let problem = c.args.problem.now in
    let limit : ℤ = to_z w64 (of_z w64 c.saturating_add-limit.result) in
    let settled =
    subst (IsSearched problem c.in-Some.table limit) c.in-Settled-Some.is c.in_ok-roster.ensures in
    let least =
    subst (IsLeastBelow problem (IsOfTable c.in-Some.table) limit) c.in-Settled-Some.field-0-is settled in
    let all = subst (λ table. IfSome table (HasAllNear problem c.args.wanted.now)) c.in-Some.is c.in_ok-table.ensures.near in
    key_le-trans c.earlier.result c.in-Settled-Some.roster (key_of problem others) c.earlier.ensures.first
    (least.0.least others legal (all others legal near))

pub returns-in-Settled-None-clause-settled : goal.returns-in-Settled-None-clause-settled
returns-in-Settled-None-clause-settled c told others legal near =
    let problem = c.args.problem.now in
    let limit : ℤ = to_z w64 (of_z w64 c.saturating_add-limit.result) in
    let settled =
    subst (IsSearched problem c.in-Some.table limit) c.in-Settled-None.is c.in_ok-roster.ensures in
    let dear =
    subst (IsLeastBelow problem (IsOfTable c.in-Some.table) limit) c.in-Settled-None.field-0-is settled in
    let all = subst (λ table. IfSome table (HasAllNear problem c.args.wanted.now)) c.in-Some.is c.in_ok-table.ensures.near in
    let cost_fits : FitsSigned w64 c.known.inside.cost = search rules in
    let cost_told : to_z w64 (of_z w64 c.known.inside.cost) ≡ c.known.inside.cost =
    to_z-of_z w64 c.known.inside.cost cost_fits in
    by_cost c.args.known (key_of problem others) (omega (arith, ints, dear others legal (all others legal near), c.if-known-limit.true, cost_told, ap (λ (key : Key). key.cost) c.known.view_is))
