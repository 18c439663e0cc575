use Rattle.std.proofs.Common.{◌≡◌, ℕ, List, length, sym, ap, ap₂, ◌∙◌, subst, arith}
use Rattle.roster_lines_table.specs.Entries.{Entry}
use Rattle.roster_model.specs.Problem.{Problem}
use Rattle.roster_bounds.specs.Chosen.{placing_person, ChosenLines, IsOfNode}
use Rattle.roster_bounds.proofs.OfNode.{least_place_is}
use Rattle.roster_bounds.proofs.Placing.{placing_most}
use Rattle.roster_bounds.proofs.node.Node.least_place.Goals as goal

told : (c : goal.After-placing)
    → c.placing.result ≡ placing_person c.self.inside.tables.now.table 0 c.self.inside.lines.items c.args.p
told c = c.placing.ensures ∙ ap₂ (λ (table : List (List Entry)) (lines : List ℕ). placing_person table 0 lines c.args.p) c.table.ensures.value c.deref.ensures.value

pub overflow_cast-result : goal.overflow_cast-result
overflow_cast-result c =
    let inside = c.self.inside in
    let few = ap (λ (problem : Problem). length problem.persons) c.problem.ensures in
    let most = placing_most inside.tables.now.table 0 inside.lines.items c.args.p in
    omega (arith, told c, most, c.self.invariant.apart.persons, c.persons.ensures.sound.persons, few)

pub returns-clause-least : goal.returns-clause-least
returns-clause-least c places x of at =
    let inside = c.self.inside in
    let here = subst (λ (n : ChosenLines). IsOfNode n places) (sym c.self.view_is) of in
    omega
    (arith, told c, least_place_is inside.tables.now.table inside.lines.items places c.args.p x here.has at)
