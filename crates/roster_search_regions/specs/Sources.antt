-- Where the choices that are read stand.
use Rattle.std.specs.Prelude.{List}
use Rattle.roster_search_regions.specs.declared.choice.Choice.{Choice}
use Rattle.roster_search_regions.specs.declared.choices.Source.{Source}
use Rattle.roster_search_regions.specs.declared.choices.Source.TheVariants.{Table, Tree}

abbrev pub choices_from : Source → List Choice
choices_from (Table choices) = choices
choices_from (Tree choices) = choices.now
