use Rattle.std.proofs.Common.{◌≡◌, true, drop, ℕ, List}
use Rattle.roster_model.specs.Places.{places_le}
use Rattle.roster_bounds.specs.Chosen.{IsOfNode}
use Rattle.roster_bounds.proofs.node.Node.is_behind.Given as goal

-- what is left of the lists decides
abbrev pub invariant-loop-p : goal.invariant-loop-p
invariant-loop-p l =
    (others : List ℕ) → IsOfNode l.self others → places_le (drop l.p l.places) (drop l.p others) ≡ true → places_le l.places others ≡ true
