use Rattle.std.proofs.Common.{◌≡◌, ℕ, ◌&&◌, sym, ap, ◌∙◌}
use Rattle.std.proofs.lemmas.Bool.{both_ways}
use Rattle.roster_model.specs.Places.{open_number, set_of}
use Rattle.roster_model.specs.Rules.{is_among}
use Rattle.roster_search_regions.proofs.ListLemmas.{false_from_not, not_if}
use Rattle.roster_search_fixing.proofs.Decisions.{states_apart, states_kept, states_same}
use Rattle.roster_search_fixing.proofs.inside.are_states_kept.Goals as goal

pub returns-then-is_same : goal.returns-then-is_same
returns-then-is_same c =
    let problem = c.args.problem.now in
    let places = c.args.places.now in
    let free = c.of_places-open.result in
    let left = c.left_open.ensures in
    let asked = c.left_open-2.ensures in
    let flown = c.flown.ensures in
    let is : (p : ℕ) → is_among free p ≡ is_among (set_of (open_number problem) places) p = λ p.
    ap (λ s. is_among s p)
    (c.of_places-open.ensures ∙ ap (λ n. set_of n places) (c.from.ensures ∙ c.open_number.ensures.value)) in (
      λ no. states_kept problem c.args.region.now places free c.and.result is
          (λ p. c.and.ensures p ∙ ap (λ set. is_among set p && is_among free p) left)
          (λ p. c.is_same.ensures.0 c.if-is_same.true p ∙ ap (λ set. is_among set p) asked)
          (λ x. both_ways c.meets.result (false_from_not c.meets.result no) (c.meets.ensures.1 (x.0, ap (λ set. is_among set x.0) flown ∙ x.1, x.2))),
      λ kept. not_if c.meets.result (λ yes.
          let x = c.meets.ensures.0 yes in
          states_apart problem c.args.region.now places free is kept
          (x.0, ap (λ set. is_among set x.0) (sym flown) ∙ x.1, x.2)),
    )

pub returns-else-is_same : goal.returns-else-is_same
returns-else-is_same c =
    let problem = c.args.problem.now in
    let places = c.args.places.now in
    let free = c.of_places-open.result in
    let left = c.left_open.ensures in
    let asked = c.left_open-2.ensures in
    let is : (p : ℕ) → is_among free p ≡ is_among (set_of (open_number problem) places) p = λ p.
    ap (λ s. is_among s p)
    (c.of_places-open.ensures ∙ ap (λ n. set_of n places) (c.from.ensures ∙ c.open_number.ensures.value)) in (
      λ yes. absurd (both_ways c.is_same.result c.if-is_same.false yes),
      λ kept. c.is_same.ensures.1 (λ p.
          states_same problem c.args.region.now places free c.and.result is
          (λ q. c.and.ensures q ∙ ap (λ set. is_among set q && is_among free q) left) kept p
          ∙ ap (λ set. is_among set p) (sym asked)),
    )
