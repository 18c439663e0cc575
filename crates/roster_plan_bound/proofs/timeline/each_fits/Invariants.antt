use Rattle.std.proofs.Common.{◌≡◌, ◌-◌, ◌<◌, ℕ, true}
use Rattle.roster_model.specs.Rules.{is_among}
use Rattle.roster_model.specs.declared.limits.TheConstants.{MOST_PAIRINGS}
use Rattle.roster_plan_bound.specs.Drafts.{Fits}
use Rattle.roster_plan_bound.proofs.timeline.each_fits.Given as goal

-- the pairings so far fit
abbrev pub invariant-loop-p : goal.invariant-loop-p
invariant-loop-p l = (q : ℕ) → q < l.from → is_among l.timeline.alone q ≡ true → Fits l.timeline l.spans q

abbrev pub decreases-loop-p : goal.decreases-loop-p
decreases-loop-p l = MOST_PAIRINGS - l.from
