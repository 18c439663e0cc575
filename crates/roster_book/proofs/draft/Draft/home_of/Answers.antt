use Rattle.std.proofs.Common.{rules, ap, sym}
use Rattle.roster_problem.proofs.Homes.{base_of_entry}
use Rattle.roster_book.specs.Draft.{contents_of}
use Rattle.roster_book.proofs.Sound.{IsSound-records}
use Rattle.roster_book.proofs.draft.Draft.home_of.Goals as goal

pub index-requires : goal.index-requires
index-requires c =
    let sound = IsSound-records (contents_of c.args.self.now) c.requires.records in
    search (rules, (base_of_entry (λ person. person.base) c.args.self.now.tables.bases.items c.args.self.now.tables.persons.items c.args.place c.person.inside.base c.index-person.result.now sound.homes (search rules) c.index-person.ensures (ap (λ person. person.base) (sym c.person.view_is))).within)

pub returns : goal.returns
returns c =
    let sound = IsSound-records (contents_of c.args.self.now) c.requires.records in
    (base_of_entry (λ person. person.base) c.args.self.now.tables.bases.items c.args.self.now.tables.persons.items c.args.place c.person.inside.base c.index-person.result.now sound.homes (search rules) c.index-person.ensures (ap (λ person. person.base) (sym c.person.view_is))).read c.index.result.now c.index.ensures
