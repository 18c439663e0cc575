use Rattle.std.proofs.Common.{◌≡◌, ◌-◌, ◌<◌}
use Rattle.roster_model.specs.declared.limits.TheConstants.{MOST_PAIRINGS}
use Rattle.roster_lines.specs.Listing.{AreTogether}
use Rattle.roster_lines.proofs.Judged.{HasBelow}
use Rattle.roster_lines.proofs.pairs.row_of.Given as goal

-- the later pairings so far that are legal with this one
abbrev pub invariant-loop-q : goal.invariant-loop-q
invariant-loop-q l = record {
  judge : l.judge ≡ l.problem;
  onward : l.p < l.from;
  row : HasBelow (AreTogether l.problem l.k l.p) l.from l.row;
}

abbrev pub decreases-loop-q : goal.decreases-loop-q
decreases-loop-q l = MOST_PAIRINGS - l.from
