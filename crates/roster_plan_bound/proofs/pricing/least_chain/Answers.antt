use Rattle.std.proofs.Common.{◌≡◌, ℕ, ◌+◌, ◌*◌, ◌<◌, ◌≤◌, List, [], length, ap, subst, sym, arith, ℤ, pos, ◌≤ℤ◌, w64, to_z, of_z, FitsSigned, rules}
use Rattle.std.specs.List.Sorted.{IsStrictlyIncreasing}
use Rattle.std.proofs.lemmas.Int.{to_z-of_z}
use Rattle.roster_model.specs.Problem.{home_of}
use Rattle.roster_cost.specs.Amounts.{IsWithin}
use Rattle.roster_plan_bound.specs.declared.parts.TheConstants.{MOST_LEAST, MOST_TARGET_TERM, MOST_CHAIN_VALUE}
use Rattle.roster_plan_bound.specs.Chains.{IsTail}
use Rattle.roster_plan_bound.specs.Reduced.{reduced, IsLeastOf}
use Rattle.roster_plan_bound.proofs.ChainLemmas.{least_is, AddsFlight}
use Rattle.roster_plan_bound.proofs.RowLemmas.{within-more, All-within-more}
use Rattle.roster_plan_bound.proofs.pricing.least_chain.Goals as goal

pub row_behind-requires-clause-done : goal.row_behind-requires-clause-done
row_behind-requires-clause-done c q among near =
    let inside = ((c.requires.network.alone q).0 among).0 in
    omega (arith, inside, c.requires.all)

pub row_behind-requires-clause-tail : goal.row_behind-requires-clause-tail
row_behind-requires-clause-tail c =
    subst (λ n. IsTail c.args.chains.now.network.now c.args.chains.now.values.now n c.in_ok-end.end)
    (sym (ap length c.pairings-count.ensures.value)) c.in_ok-end.ensures.tail

pub row_behind-requires-clause-near : goal.row_behind-requires-clause-near
row_behind-requires-clause-near c =
    All-within-more MOST_TARGET_TERM (MOST_TARGET_TERM + (length c.args.rows.now + 1) * MOST_CHAIN_VALUE) c.in_ok-end.end
    (omega arith) c.in_ok-end.ensures.within

pub first-requires : goal.first-requires
first-requires c = omega (arith, c.in_ok-row.ensures.row.covers, c.requires.network.some)

-- the law of flight, of this person
adds : (c : goal.After-drop-end-inside-2) (set : List ℕ) → IsStrictlyIncreasing set
    → AddsFlight c.args.chains.now.problem.now c.args.chains.now.person set
adds c set rising =
    let days = (home_of c.args.chains.now.problem.now c.args.chains.now.person).days in
    let whole = c.flight_of_set.ensures c.args.chains.now.problem.now days c.args.chains.now.person set rising in
    let none =
    c.flight_of_set.ensures c.args.chains.now.problem.now days c.args.chains.now.person [] (λ i inside. absurd (omega arith)) in
    omega (arith, whole, none)

pub returns : goal.returns
returns c =
    let problem = c.args.chains.now.problem.now in
    let row = c.in_ok-row.row in
    let is = c.in_ok-row.ensures.row in
    let least : ℤ = c.first.result in
    let first = c.first.ensures in
    let some : 0 < length row = omega (arith, is.covers, c.requires.network.some) in
    let here =
    subst (IsWithin (MOST_TARGET_TERM + (length c.args.rows.now + 1) * MOST_CHAIN_VALUE)) (sym first)
    (c.in_ok-row.ensures.within 0 (pos 0) some) in
    let few = c.is_sound.ensures.sound.pairings in
    let most : MOST_TARGET_TERM + (length c.args.rows.now + 1) * MOST_CHAIN_VALUE ≤ MOST_LEAST =
    omega (arith, few, c.requires.all) in
    let within =
    within-more (MOST_TARGET_TERM + (length c.args.rows.now + 1) * MOST_CHAIN_VALUE) MOST_LEAST least most here in
    let fits : FitsSigned w64 least = search rules in
    let told : to_z w64 (of_z w64 least) ≡ least = to_z-of_z w64 least fits in
    subst (IsLeastOf problem c.args.prices.now c.args.chains.now.person) (sym told) (record {
      below = λ set line. subst (λ z. z ≤ℤ reduced problem c.args.prices.now c.args.chains.now.person set) (sym first)
          (least_is problem c.args.prices.now c.args.chains.now.person c.args.chains.now.network.now c.args.chains.now.values.now row
          (λ whole part parts legal. c.part_of_legal_is_legal.ensures problem c.args.chains.now.person whole part c.is_sound.ensures.ordered c.is_sound.ensures.timed parts legal)
          (adds c) c.requires.network c.requires.values is set line);
      within = within;
    })
