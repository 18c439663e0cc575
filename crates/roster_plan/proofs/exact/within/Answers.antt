use Rattle.std.proofs.Common.{◌≡◌, subst, arith, ℤ, pos, ◌+ℤ◌, ◌≤ℤ◌, w64, to_z, of_z, FitsSigned, rules}
use Rattle.std.proofs.lemmas.Int.{ints, to_z-of_z}
use Rattle.roster_model.specs.Problem.{Problem}
use Rattle.roster_lines_table.specs.Person.{IsOfTable}
use Rattle.roster_search_least.specs.Least.{IsLeastBelow}
use Rattle.roster_search.specs.Limited.{IsSearched}
use Rattle.roster_plan.proofs.ExactLemmas.{best_of_base, none_below, HasAllWithin}
use Rattle.roster_plan.proofs.exact.within.Goals as goal
use Rattle.roster_plan.proofs.exact.within.Goals.{In_ok-roster}

-- the limit, and the most that a roster of the table's lines may cost
abbrev limit_at : In_ok-roster → ℤ
limit_at c = to_z w64 (of_z w64 c.limit_of-limit.result)

abbrev most_at : In_ok-roster → ℤ
most_at c = c.args.priced.now.bound +ℤ pos c.args.gap

-- the table has the lines of each roster of the base that costs at most so much
all : (c : In_ok-roster) → HasAllWithin c.args.problem.now c.args.base c.in-Ok.table (most_at c)
all c =
    let most = most_at c in
    let priced = c.args.priced.now in
    subst (λ (p : Problem). HasAllWithin p c.args.base c.in-Ok.table most) c.requires.problem
    (subst (λ b. HasAllWithin priced.problem b c.in-Ok.table most) c.requires.base c.in-Ok.ensures.all)

-- which is all that costs less than the limit
near : (c : In_ok-roster) → limit_at c ≤ℤ (most_at c +ℤ pos 1)
near c =
    let bound_fits : FitsSigned w64 c.bound.result = search rules in
    let bound_told : to_z w64 (of_z w64 c.bound.result) ≡ c.bound.result =
    to_z-of_z w64 c.bound.result bound_fits in
    let limit_fits : FitsSigned w64 c.limit_of-limit.result = search rules in
    let limit_told : limit_at c ≡ c.limit_of-limit.result =
    to_z-of_z w64 c.limit_of-limit.result limit_fits in
    omega (arith, ints, c.limit_of-limit.ensures.most, bound_told, limit_told, c.bound.ensures.value)

pub returns-in-Settled-Some : goal.returns-in-Settled-Some
returns-in-Settled-Some c =
    let problem = c.args.problem.now in
    let at = (goal.at.returns-in-Settled-Some c).In_ok-roster in
    let settled : IsLeastBelow problem (IsOfTable c.in-Ok.table) (limit_at at) c.in-Settled-Some.field-0 =
    subst (IsSearched problem c.in-Ok.table (limit_at at)) c.in-Settled-Some.is c.in_ok-roster.ensures in
    let least =
    subst (IsLeastBelow problem (IsOfTable c.in-Ok.table) (limit_at at))
    c.in-Settled-Some.field-0-is settled in
    best_of_base problem c.args.base c.in-Ok.table (most_at at) (limit_at at) c.in-Settled-Some.roster
    (all at) (near at) least.0 least.1

pub returns-in-Settled-None : goal.returns-in-Settled-None
returns-in-Settled-None c =
    let problem = c.args.problem.now in
    let at = (goal.at.returns-in-Settled-None c).In_ok-roster in
    let settled : IsLeastBelow problem (IsOfTable c.in-Ok.table) (limit_at at) c.in-Settled-None.field-0 =
    subst (IsSearched problem c.in-Ok.table (limit_at at)) c.in-Settled-None.is c.in_ok-roster.ensures in
    let above =
    subst (IsLeastBelow problem (IsOfTable c.in-Ok.table) (limit_at at))
    c.in-Settled-None.field-0-is settled in
    none_below problem c.args.base c.in-Ok.table (most_at at) (limit_at at) (all at) (near at) above
