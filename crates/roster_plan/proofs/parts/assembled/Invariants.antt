use Rattle.std.proofs.Common.{◌≡◌, ◌+◌, ◌*◌, ◌^◌, true}
use Rattle.std.specs.Prelude.{All}
use Rattle.roster_cost.specs.Amounts.{IsWithin}
use Rattle.roster_plan.specs.Parts.{AreTogether}
use Rattle.roster_plan.proofs.parts.assembled.Given as goal

-- the bases so far are put together
abbrev pub invariant-loop-base : goal.invariant-loop-base
invariant-loop-base l = record {
  together : AreTogether l.problem l.base l.places.items l.bound l.is_best;
  within : IsWithin ((l.base + 1) * (2 ^ 64)) l.bound;
  best : All (λ part. part.is_best ≡ true) l.parts → l.is_best ≡ true;
}
