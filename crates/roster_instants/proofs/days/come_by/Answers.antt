use Rattle.std.proofs.Common.{ℕ, leb, leb-true, rules}
use Rattle.std.proofs.lemmas.Bool.{leb-false}
use Rattle.std.proofs.lemmas.List.Sorted.{IsPartitionPoint-from_clause, IsPartitionedBy-leb}
use Rattle.roster_instants.proofs.days.come_by.Goals as goal

pub returns-clause-value : goal.returns-clause-value
returns-clause-value c =
    let same : ℕ → ℕ = λ x. x in
    let point =
    IsPartitionPoint-from_clause (λ x. leb x c.args.instant) _ _ c.partition_point.ensures.partitioned
    (IsPartitionedBy-leb same _ c.args.instant c.requires) (λ a r q k. search rules) in
    (λ k d low high. leb-true _ _ (point.0 k d low high), λ k d low high. leb-false _ _ (point.1 k d low high))
