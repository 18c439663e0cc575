use Rattle.std.proofs.Common.{◌≡◌, ◌<◌}
use Rattle.roster_model.specs.declared.profile.TheConstants.{RECURRENT_NIGHTS}
use Rattle.roster_model.specs.Rules.Recovery.{holds_night}
use Rattle.roster_restrules.proofs.Nights.{count_below}
use Rattle.roster_restrules.proofs.recovery.holds_nights.Given as goal

-- the nights so far that it holds
abbrev pub invariant-loop-night : goal.invariant-loop-night
invariant-loop-night l = record {
  count : l.held ≡ count_below (holds_night l.days l.from l.to) l.night;
  few : l.held < RECURRENT_NIGHTS;
}
