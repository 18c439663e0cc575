use Rattle.std.proofs.Common.{◌≤◌, ℕ, List}
use Rattle.std.specs.Prelude.{◌≤ℤ◌, length}
use Rattle.std.specs.List.{range_with_len}
use Rattle.roster_model.specs.Costs.{total}
use Rattle.roster_model.specs.Places.{set_of}
use Rattle.roster_bounds.specs.Amounts.{AreReduced}
use Rattle.roster_bounds.specs.Chosen.{reduced_at, IsOfNode}
use Rattle.roster_bounds.proofs.node.Node.persons_bound.Given as goal

-- the persons so far
abbrev pub invariant-loop-k : goal.invariant-loop-k
invariant-loop-k l = record {
  below : (places : List ℕ) → IsOfNode l.self places
      → l.sum ≤ℤ total (λ k. reduced_at l.self.tables k (set_of k places)) (range_with_len 0 l.k);
  fits : AreReduced l.k l.sum;
  chosen : length l.self.lines ≤ l.k;
}
