-- What is asked of a line that stays.
use Rattle.std.specs.Prelude.{ℕ, Bool, true, List}
use Rattle.roster_model.specs.Rules.{is_among}
use Rattle.roster_search_regions.specs.declared.test.Test.{Test}
use Rattle.roster_search_regions.specs.declared.test.Test.TheVariants.{Any, Having, Lacking}
use Rattle.roster_search_regions.specs.Trees.{agrees, lacks}

-- a line of these pairings passes
abbrev pub passes : Test → List ℕ → Bool
passes Any set = true
passes (Having p wanted) set = agrees wanted (is_among set p)
passes (Lacking taken) set = lacks taken.now set
