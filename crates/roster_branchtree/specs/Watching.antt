-- What a watch keeps, over one node and then more.
use Rattle.std.proofs.Common.{refl, ◌∙◌}
use Rattle.roster_model.proofs.KeyLemmas.{key_le-refl, key_le-trans}
use Rattle.roster_branchtree.specs.Shown.{KeepsWatch, Watched}

pub keeps_nothing : (now : Watched) → KeepsWatch now now
keeps_nothing now = record {
  problem = refl;
  every = refl;
  held = λ held. held;
  kept = key_le-refl now.best;
  blind = λ never. refl;
}

pub keeps_then : (old mid new : Watched) → KeepsWatch old mid → KeepsWatch mid new → KeepsWatch old new
keeps_then old mid new first second = record {
  problem = second.problem ∙ first.problem;
  every = second.every ∙ first.every;
  held = λ held. second.held (first.held held);
  kept = key_le-trans new.best mid.best old.best second.kept first.kept;
  blind = λ never. second.blind (first.every ∙ never) ∙ first.blind never;
}
