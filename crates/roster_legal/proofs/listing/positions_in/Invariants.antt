use Rattle.std.proofs.Common.{◌≡◌, ℕ, ◌-◌, false, eqb}
use Rattle.std.specs.Prelude.{slice_get}
use Rattle.std.specs.List.{IsDistinct}
use Rattle.std.specs.Option.{option_map_or}
use Rattle.roster_model.specs.declared.limits.TheConstants.{MOST_PAIRINGS}
use Rattle.roster_model.specs.Rules.{is_among, is_listed}
use Rattle.roster_legal.proofs.Gathered.{places_before}
use Rattle.roster_legal.proofs.listing.positions_in.Given as goal

-- the positions of the fixed duties and of the duties of the pairings so far, each once
abbrev pub invariant-loop-p : goal.invariant-loop-p
invariant-loop-p l = record {
  distinct : IsDistinct eqb l.positions.items;
  members : (i : ℕ) → is_among l.positions.items i ≡ option_map_or (λ duty. is_listed l.k (places_before l.from l.set) duty.holder) (slice_get l.problem.duties i) false;
}

abbrev pub decreases-loop-p : goal.decreases-loop-p
decreases-loop-p l = MOST_PAIRINGS - l.from
