use Rattle.std.proofs.Common.{length, sym, ap, arith}
use Rattle.std.proofs.lemmas.List.{length-map}
use Rattle.roster_search_regions.specs.Rows.{choice_of, choices_of}
use Rattle.roster_search_regions.proofs.MarkLemmas.{length-remarked}
use Rattle.roster_search_regions.proofs.rows.Rows.len.Goals as goal

pub returns : goal.returns
returns c =
    let rows = c.self.inside.rows.now in
    let choices = choices_of c.self.inside.scale c.self.inside.empty rows in
    omega (arith, ap length (sym c.self.view_is), length-remarked c.self.inside.marks.now choices, length-map rows (choice_of c.self.inside.scale c.self.inside.empty))
