use Rattle.std.proofs.Common.{◌≡◌, ◌<◌}
use Rattle.roster_model.specs.declared.profile.TheConstants.{RECURRENT_NIGHTS}
use Rattle.roster_restrules.specs.Times.{can_hold}
use Rattle.roster_restrules.proofs.Nights.{count_below}
use Rattle.roster_restrules.proofs.times.rested_by.Given as goal

-- the nights so far that can be held
abbrev pub invariant-loop-night : goal.invariant-loop-night
invariant-loop-night l = record {
  count : l.held ≡ count_below (can_hold l.days l.from) l.night;
  few : l.held < RECURRENT_NIGHTS;
}
