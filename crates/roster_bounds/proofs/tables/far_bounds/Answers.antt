use Rattle.std.proofs.Common.{ℕ, length, replicate, List, ℤ, pos, sym, ap, ap₂, ◌∙◌, subst}
use Rattle.std.proofs.lemmas.List.{length-replicate, get_or-replicate}
use Rattle.roster_model.specs.Problem.{Problem}
use Rattle.roster_bounds.specs.Amounts.{AreReduced}
use Rattle.roster_bounds.specs.Chosen.{AreReducedBounds, IsReducedBound}
use Rattle.roster_bounds.proofs.PricedLines.{same_reduced}
use Rattle.roster_bounds.proofs.tables.far_bounds.Goals as goal

-- one bound for every person
one_for_all : (problem : Problem) (prices : List ℤ) (count : ℕ) (bound : ℤ)
    → ((k : ℕ) → IsReducedBound problem prices k bound) → AreReduced 1 bound
    → AreReducedBounds problem prices count (replicate count bound)
one_for_all problem prices count bound below fits = record {
  covers = length-replicate count bound;
  each = λ k less. subst (IsReducedBound problem prices k) (sym (get_or-replicate count k bound (pos 0) less)) (below k);
  fits = λ k less. subst (AreReduced 1) (sym (get_or-replicate count k bound (pos 0) less)) fits;
}

pub returns : goal.returns
returns c =
    let persons = length c.args.problem.now.persons in
    let least = c.least_of_any-least.result in
    let are = AreReducedBounds c.args.problem.now c.args.prices.now persons in
    let items = c.in_ok-bounds.ensures.items_if_clones_equal (λ y same. same) in
    subst are (sym (items ∙ ap₂ replicate (ap length c.persons.ensures.value) (same_reduced least c.least_of_any-least.ensures.bound)))
    (one_for_all c.args.problem.now c.args.prices.now persons least c.least_of_any-least.ensures.least c.least_of_any-least.ensures.bound)
