use Rattle.std.proofs.Common.{◌≡◌, ℕ, ◌-◌, ◌<◌, ◌&&◌, ltb, cond, length, get_or}
use Rattle.roster_model.specs.declared.limits.TheConstants.{MOST_PAIRINGS}
use Rattle.roster_model.specs.Rules.{is_among}
use Rattle.roster_problem.proofs.placing.put.Given as goal

-- it stands at the places so far
abbrev pub invariant-loop-p : goal.invariant-loop-p
invariant-loop-p l = (p : ℕ) → p < length l.initial.places
    → get_or l.places p 0 ≡ cond (ltb p l.from && is_among l.set p) l.number (get_or l.initial.places p 0)

abbrev pub decreases-loop-p : goal.decreases-loop-p
decreases-loop-p l = MOST_PAIRINGS - l.from
