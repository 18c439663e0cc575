use Rattle.std.proofs.Common.{◌≡◌, ℕ, ◌+◌, ◌<◌, List, Some, length, take, get_or, set, refl, sym, ◌∙◌, inl, inr, arith}
use Rattle.std.proofs.lemmas.Bool.{cases_lt}
use Rattle.std.proofs.lemmas.List.{take-set}
use Rattle.roster_model.specs.Settled.{Anywhere}
use Rattle.roster_model.proofs.SettledLemmas.{Settles-nothing, Settles-then}
use Rattle.roster_test_reference.proofs.Fronts.{front_less, front_more}
use Rattle.roster_test_reference.proofs.plain.+try_all.Goals as goal

pub loop-place-init : goal.loop-place-init
loop-place-init t c = record {
  numbers = c.requires.numbers;
  front = refl;
  settled =
      Settles-nothing c.args.problem.now _ Anywhere c.args.best.now c.requires.held
      (λ others inside. omega (arith, inside.1));
}

pub loop-place-preserved : goal.loop-place-preserved
loop-place-preserved t c =
    let first : List ℕ = c.args.places.now in
    let places : List ℕ = c.loop-place.places in
    let depth : ℕ = c.args.depth in
    let place : ℕ = c.loop-place.place in
    let within : depth < length first = omega (arith, c.requires.within) in
    record {
      numbers = c.in_ok-try_all.ensures.numbers;
      front =
          front_less _ _ depth c.in_ok-try_all.ensures.front ∙ take-set places depth place
          ∙ c.loop-place.invariant.front;
      settled = Settles-then c.args.problem.now
          (λ others. (take depth others ≡ take depth first) × (get_or others depth 0 < place))
          (λ others. take (depth + 1) others ≡ take (depth + 1) (set places depth place))
          (λ others. (take depth others ≡ take depth first) × (get_or others depth 0 < place + 1))
          Anywhere (Some c.args.best.now) c.loop-place.best c.try_all.new.best c.loop-place.invariant.settled c.in_ok-try_all.ensures.settled
          (λ others legal both. elim (cases_lt (get_or others depth 0) place) [
            | inl before ↦ inl (both.0, before)
            | inr here ↦ inr (front_more others places depth place (omega (arith, legal.covers, c.requires.covers)) (omega (arith, c.loop-place.auto.places)) (both.0 ∙ sym c.loop-place.invariant.front) (omega (arith, both.1)))
          ]);
    }
