use Rattle.std.proofs.Common.{◌<◌, sym, ◌∙◌, inl, inr}
use Rattle.std.proofs.lemmas.Bool.{cases_lt, false≢true}
use Rattle.roster_model.proofs.SetLemmas.{All-from_is_among}
use Rattle.roster_plan_moves.proofs.sets.is_within.Goals as goal

-- a place that isn't below the count is not in the set
pub returns : goal.returns
returns c =
    let count = c.args.count in
    λ h. All-from_is_among (λ p. p < count) c.args.set.now (λ p member. elim (cases_lt p count) [
      | inl less ↦ less
      | inr past ↦ absurd (false≢true (sym (c.in-None.ensures.least p past) ∙ member))
    ])
