use Rattle.std.proofs.Common.{◌≡◌, ◌<◌, ℕ, List, [], ◌∷◌, ◌++◌, length, take, get_or, Option, sym, ap, ap₂, ◌∙◌, subst, inl, inr, arith}
use Rattle.std.specs.Prelude.{MatchOption}
use Rattle.std.proofs.lemmas.Bool.{cases_lt}
use Rattle.std.proofs.lemmas.List.{take_all, take_more, length-take-le}
use Rattle.std.proofs.lemmas.Option.{slice_get_within, slice_get-get_or, get_or_from_slice_get}
use Rattle.roster_lines_table.specs.Entries.{Entry}
use Rattle.roster_lines_table.specs.Person.{lines_at}
use Rattle.roster_bounds.specs.Chosen.{line_set, one_line_more, Meets, ChosenLines, PricedTable}
use Rattle.roster_branchtree.proofs.SpanLemmas.{meets_none, number_within}
use Rattle.roster_branchtree.proofs.ranges.node_of.Goals as goal

abbrev pub chosen : PricedTable → List ℕ → ChosenLines
chosen tables lines = record { tables = tables; lines = lines }

pub returns-then-i-width : goal.returns-then-i-width
returns-then-i-width c places legal has =
    let k = c.loop-k.k in
    let path = c.args.path.now in
    let within =
    number_within c.args.tables.now.table path places k (get_or path k 0) has
    (slice_get-get_or path k 0 c.loop-k-test.true) in
    let width =
    c.width.ensures
    ∙ ap (λ (table : List (List Entry)). length (lines_at table k)) c.table-table.ensures.value in
    omega (arith, within, width, c.if-i-width.true)

pub returns-in-None : goal.returns-in-None
returns-in-None c places legal has =
    let k = c.loop-k.k in
    let path = c.args.path.now in
    let node = c.loop-k.node in
    let table = c.args.tables.now.table in
    let i : ℕ = get_or path k 0 in
    let meets : Type 0 =
    Meets node.tables.table node.lines (line_set node.tables.table (length node.lines) i) in
    let given : meets = subst (λ (o : Option ChosenLines). MatchOption o meets (λ next. (next ≡ one_line_more node i) × (meets → ⊥))) c.in-None.is c.in_ok-next.ensures in
    let front : length (take k path) ≡ k = length-take-le k path (omega (arith, c.loop-k-test.true)) in
    let tables = subst (λ (t : PricedTable). Meets t.table node.lines (line_set t.table (length node.lines) i)) c.loop-k.invariant.tables given in
    let lines =
    subst
    (λ (xs : List ℕ). Meets table xs (line_set table (length xs) i)) c.loop-k.invariant.lines tables in
    meets_none table path places k has c.loop-k-test.true
    (subst (λ n. Meets table (take k path) (line_set table n i)) front lines)

-- the node with the next line
more : (c : goal.After-drop-node-inside-in-Some)
    → c.in-Some.next ≡ one_line_more c.loop-k.node (get_or c.args.path.now c.loop-k.k 0)
more c =
    let node = c.loop-k.node in
    let i : ℕ = get_or c.args.path.now c.loop-k.k 0 in
    let meets : Type 0 =
    Meets node.tables.table node.lines (line_set node.tables.table (length node.lines) i) in
    let given : (c.in-Some.next ≡ one_line_more node i) × (meets → ⊥) = subst (λ (o : Option ChosenLines). MatchOption o meets (λ next. (next ≡ one_line_more node i) × (meets → ⊥))) c.in-Some.is c.in_ok-next.ensures in
    given.0

pub loop-k-preserved : goal.loop-k-preserved
loop-k-preserved c =
    let k = c.loop-k.k in
    let path = c.args.path.now in
    let table = c.args.tables.now.table in
    let width =
    c.width.ensures ∙ ap (λ (t : List (List Entry)). length (lines_at t k)) c.table-table.ensures.value in
    record {
      tables = ap (λ (n : ChosenLines). n.tables) (more c) ∙ c.loop-k.invariant.tables;
      lines =
          ap (λ (n : ChosenLines). n.lines) (more c)
          ∙ ap (λ (xs : List ℕ). xs ++ get_or path k 0 ∷ []) c.loop-k.invariant.lines
          ∙ sym (take_more path k 0 c.loop-k-test.true);
      numbers = λ j h less at. elim (cases_lt j k) [
        | inl before ↦ c.loop-k.invariant.numbers j h before at
        | inr on ↦
            let here : k ≡ j = omega arith in
            let number : get_or path k 0 ≡ h =
            ap (λ n. get_or path n 0) here ∙ get_or_from_slice_get path j h 0 at in
            subst (λ n. h < length (lines_at table n)) here (omega (arith, number, width, c.if-i-width.false))
      ];
    }

pub returns : goal.returns
returns c =
    let path = c.args.path.now in
    let lines = c.loop-k.invariant.lines ∙ take_all c.loop-k.k path c.loop-k-test.false in
    (ap₂ (λ (t : PricedTable) (xs : List ℕ). chosen t xs) c.loop-k.invariant.tables lines, λ k i at. c.loop-k.invariant.numbers k i (omega (arith, slice_get_within path k i at, c.loop-k-test.false)) at)
