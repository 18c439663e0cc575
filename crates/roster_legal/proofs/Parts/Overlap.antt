-- The overlap rule over a part of a duty list.
use Rattle.std.proofs.Common.{◌≡◌, Bool, List}
use Rattle.std.specs.Prelude.{filter}
use Rattle.std.proofs.lemmas.List.Kept.{AllPairs-filter}
use Rattle.roster_model.specs.Calendar.{common}
use Rattle.roster_model.specs.records.Duty.{Duty}
use Rattle.roster_model.specs.Rules.Overlap.{NoOverlap}

pub NoOverlap-filter : (test : Duty → Bool) (list : List Duty) → NoOverlap list → NoOverlap (filter test list)
NoOverlap-filter test list apart =
    AllPairs-filter (λ a b. common a.report a.release b.report b.release ≡ 0) test list apart
