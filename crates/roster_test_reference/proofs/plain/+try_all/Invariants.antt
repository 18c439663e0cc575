use Rattle.std.proofs.Common.{◌≡◌, ◌-◌, ◌<◌, ◌≤◌, All, Some, length, take, get_or}
use Rattle.roster_model.specs.Settled.{Anywhere, Settles}
use Rattle.roster_test_reference.proofs.plain.+try_all.Given as goal

abbrev pub decreases-try_all : goal.decreases-try_all
decreases-try_all l = length l.places.now - l.depth

abbrev pub invariant-loop-place : goal.invariant-loop-place
invariant-loop-place l = record {
  numbers : All (λ x. x ≤ length l.problem.persons) l.places;
  front : take l.depth l.places ≡ take l.depth l.initial.places;
  settled : Settles l.problem (λ others. (take l.depth others ≡ take l.depth l.initial.places) × (get_or others l.depth 0 < l.place)) Anywhere (Some l.initial.best) l.best;
}
