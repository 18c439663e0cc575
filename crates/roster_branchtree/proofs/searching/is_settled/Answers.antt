use Rattle.std.proofs.Common.{◌≡◌, ℕ, true, List, Option, length, refl, sym, ap, ◌∙◌, subst, arith}
use Rattle.std.specs.Prelude.{MatchOption}
use Rattle.std.proofs.lemmas.List.{length-map}
use Rattle.roster_model.specs.Problem.{Problem}
use Rattle.roster_model.specs.Rosters.{key_le, key_of, IsLegalRoster, Key}
use Rattle.roster_lines_table.specs.Entries.{sets_of}
use Rattle.roster_bounds.specs.Chosen.{ChosenLines, HasLines, IsOfNode}
use Rattle.roster_branchtree.specs.Spans.{AreLineNumbers}
use Rattle.roster_subtreepool_spans.specs.Spans.{Span}
use Rattle.roster_branchtree.proofs.SpanLemmas.{in_span_has_lines, in_span_short}
use Rattle.roster_branchtree.proofs.searching.is_settled.Goals as goal

pub returns-then-path-persons : goal.returns-then-path-persons
returns-then-path-persons c others legal inside =
    let tables = c.args.tables.now in
    let path = ap length (c.as_slice-path.ensures ∙ ap (λ (s : Span). s.path) c.span.view_is) in
    let persons = ap length c.persons.ensures.value in
    let problem = ap (λ (problem : Problem). length problem.persons) c.problem.ensures in
    absurd (omega (arith, in_span_short tables.table c.args.span.now others inside, c.if-path-persons.true, path, persons, problem, c.requires.table.sets.covers, length-map tables.table sets_of))

pub returns-in-None : goal.returns-in-None
returns-in-None c others legal inside =
    let tables = c.args.tables.now in
    let path = c.as_slice-path.ensures ∙ ap (λ (s : Span). s.path) c.span.view_is in
    let none : Type 0 =
    (places : List ℕ) → IsLegalRoster tables.problem places
    → HasLines tables.table c.as_slice-path.result.now places → ⊥ in
    let some : ChosenLines → Type 0 = λ node. (node ≡ record { tables = tables; lines = c.as_slice-path.result.now }) × AreLineNumbers tables.table c.as_slice-path.result.now in
    let given : none =
    subst (λ (o : Option ChosenLines). MatchOption o none some) c.in-None.is c.in_ok-node.ensures in
    absurd (given others legal (subst (λ (xs : List ℕ). HasLines tables.table xs others) (sym path) (in_span_has_lines tables.table c.args.span.now others inside)))

pub returns-then-may_skip : goal.returns-then-may_skip
returns-then-may_skip c others legal inside =
    let tables = c.args.tables.now in
    let read = c.as_slice-path.result.now in
    let path = c.as_slice-path.ensures ∙ ap (λ (s : Span). s.path) c.span.view_is in
    let none : Type 0 =
    (places : List ℕ) → IsLegalRoster tables.problem places → HasLines tables.table read places → ⊥ in
    let some : ChosenLines → Type 0 =
    λ node. (node ≡ record { tables = tables; lines = read }) × AreLineNumbers tables.table read in
    let given : some c.in-Some.node =
    subst (λ (o : Option ChosenLines). MatchOption o none some) c.in-Some.is c.in_ok-node.ensures in
    let here : ChosenLines = record { tables = tables; lines = read } in
    let of : IsOfNode here others = record { legal = legal; has = subst (λ (xs : List ℕ). HasLines tables.table xs others) (sym path) (in_span_has_lines tables.table c.args.span.now others inside) } in
    let skips =
    c.if-may_skip.ensures refl others (subst (λ (n : ChosenLines). IsOfNode n others) (sym given.0) of) in
    let problem = ap (λ (n : ChosenLines). n.tables.problem) given.0 in
    subst (λ (p : Problem). key_le c.args.best.now (key_of p others) ≡ true) problem (subst (λ (key : Key). key_le key (key_of c.in-Some.node.tables.problem others) ≡ true) c.of.ensures skips)
