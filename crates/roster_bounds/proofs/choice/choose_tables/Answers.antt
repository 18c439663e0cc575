use Rattle.std.proofs.Common.{◌≡◌, ℕ, ◌+◌, List, ℤ, ◌≤ℤ◌, ◌<ℤ◌, ◌⊎◌, sym, subst, inl, inr, arith}
use Rattle.std.proofs.lemmas.Bool.{cases_lt}
use Rattle.std.proofs.lemmas.Int.{ints}
use Rattle.roster_model.specs.Problem.{Problem}
use Rattle.roster_lines_table.specs.Entries.{Entry}
use Rattle.roster_bounds.specs.Chosen.{AreBestHalves, IsRootBound, PricedTable, halves_of, priced_table}
use Rattle.roster_bounds.specs.declared.choice.Bounded.{Bounded}
use Rattle.roster_bounds.proofs.choice.choose_tables.Goals as goal

-- one list of prices is the best of itself
first_of_one : (problem : Problem) (table : List (List Entry)) (tables : PricedTable) (bound : ℤ)
    → tables ≡ priced_table problem table (halves_of problem 0)
    → IsRootBound problem (halves_of problem 0) bound → AreBestHalves problem table 1 tables bound
first_of_one problem table tables bound priced own = record {
  halves = 0;
  few = omega arith;
  priced = priced;
  own = own;
  others = λ other less.
      let here : 0 ≡ other = omega arith in (
        bound,
        subst (λ n. IsRootBound problem (halves_of problem n) bound) here own,
        omega (arith, ints),
        λ before. absurd (omega arith),
      );
}

-- the best of some stays so beside one whose bound isn't greater,
kept : (problem : Problem) (table : List (List Entry)) (count next : ℕ) (tables : PricedTable) (bound more : ℤ)
    → next ≡ count + 1 → AreBestHalves problem table count tables bound
    → IsRootBound problem (halves_of problem count) more → more ≤ℤ bound
    → AreBestHalves problem table next tables bound
kept problem table count next tables bound more is best own most = record {
  halves = best.halves;
  few = omega (arith, is, best.few);
  priced = best.priced;
  own = best.own;
  others = λ other less. elim (cases_lt other count) [
    | inl before ↦ best.others other before
    | inr on ↦
        let here : count ≡ other = omega arith in (
          more,
          subst (λ n. IsRootBound problem (halves_of problem n) more) here own,
          most,
          λ before. absurd (omega (arith, best.few, on)),
        )
  ];
}

-- and else that one is the best
taken : (problem : Problem) (table : List (List Entry)) (count next : ℕ) (tables other : PricedTable) (bound more : ℤ)
    → next ≡ count + 1 → AreBestHalves problem table count tables bound
    → other ≡ priced_table problem table (halves_of problem count)
    → IsRootBound problem (halves_of problem count) more → bound <ℤ more
    → AreBestHalves problem table next other more
taken problem table count next tables other bound more is best priced own less = record {
  halves = count;
  few = omega (arith, is);
  priced = priced;
  own = own;
  others = λ n below. elim (cases_lt n count) [
    | inl before ↦
        let found = best.others n before in (
          found.0,
          found.1,
          let low = found.2 in omega (arith, ints, low, less),
          λ _. let low = found.2 in omega (arith, ints, low, less),
        )
    | inr on ↦
        let here : count ≡ n = omega arith in (
          more,
          subst (λ m. IsRootBound problem (halves_of problem m) more) here own,
          omega (arith, ints),
          λ before. absurd (omega (arith, on, before)),
        )
  ];
}

-- of two tables one is the best
one_of : (problem : Problem) (table : List (List Entry)) (count next : ℕ) (first second result : Bounded)
    → next ≡ count + 1 → AreBestHalves problem table count first.tables first.bound
    → second.tables ≡ priced_table problem table (halves_of problem count)
    → IsRootBound problem (halves_of problem count) second.bound
    → ((result ≡ first) × (second.bound ≤ℤ first.bound)) ⊎ ((result ≡ second) × (first.bound <ℤ second.bound))
    → AreBestHalves problem table next result.tables result.bound
one_of problem table count next first second result is best priced own (inl stays) =
    subst (λ (b : Bounded). AreBestHalves problem table next b.tables b.bound) (sym stays.0)
    (kept problem table count next first.tables first.bound second.bound is best own stays.1)
one_of problem table count next first second result is best priced own (inr more) =
    subst (λ (b : Bounded). AreBestHalves problem table next b.tables b.bound) (sym more.0)
    (taken problem table count next first.tables second.tables first.bound second.bound is best priced own more.1)

pub returns : goal.returns
returns c =
    let problem = c.args.problem.now in
    let table = c.args.table.now in
    let free = c.in_ok-free in
    let half = c.in_ok-half in
    let whole = c.in_ok-whole in
    let one = first_of_one problem table free.free.tables free.free.bound free.ensures.tables free.ensures.bound in
    let two = one_of problem table 1 2 free.free half.half c.of_greater_bound.result (omega arith) one half.ensures.tables half.ensures.bound c.of_greater_bound.ensures in (
      c.of_greater_bound-tables.result.bound,
      one_of problem table 2 3 c.of_greater_bound.result whole.whole c.of_greater_bound-tables.result (omega arith) two whole.ensures.tables whole.ensures.bound c.of_greater_bound-tables.ensures,
    )
