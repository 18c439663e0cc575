use Rattle.std.proofs.Common.{◌≡◌, ℕ, ◌<◌, List, length, ℤ, ◌≤ℤ◌, sym, ap, ◌∙◌, subst, arith}
use Rattle.roster_model.specs.Places.{set_of}
use Rattle.roster_bounds.specs.Chosen.{reduced_at, ChosenLines, IsOfNode, IsReducedBound}
use Rattle.roster_bounds.proofs.OfNode.{later_is_apart}
use Rattle.roster_bounds.proofs.PricedLines.{same_word128}
use Rattle.roster_bounds.proofs.node.Node.person_bound.Goals as goal
use Rattle.roster_model.proofs.LineLemmas.{given_line}

pub returns-then-k-len-clause-below : goal.returns-then-k-len-clause-below
returns-then-k-len-clause-below c places of =
    let node = c.args.self.now in
    let k = c.args.k in
    let items = c.self.inside.lines.ok.0 in
    let count : length c.self.inside.lines.items ≡ k = omega (arith, c.if-k-len.true, c.len.ensures, items) in
    let here : length node.lines ≡ k =
    ap (λ (n : ChosenLines). length n.lines) (sym c.self.view_is) ∙ count in
    let line =
    given_line node.tables.problem (length node.lines) places of.legal
    (omega (arith, here, c.requires.person)) in
    let apart = later_is_apart node.tables.table node.lines places (length node.lines) of.has (omega arith) in
    let low = c.next_bound.ensures.below (set_of (length node.lines) places) line apart in
    subst (λ (z : ℤ). z ≤ℤ reduced_at node.tables k (set_of k places))
    (sym (same_word128 c.next_bound.result c.next_bound.type_inv))
    (subst (λ n. c.next_bound.result ≤ℤ reduced_at node.tables n (set_of n places)) here low)

-- no line of the person has a lower reduced cost, so the one that a roster gives hasn't
pub line_is_above : (node : ChosenLines) (k : ℕ) (bound : ℤ) (places : List ℕ)
    → IsReducedBound node.tables.problem node.tables.prices k bound → IsOfNode node places
    → k < length node.tables.problem.persons → bound ≤ℤ reduced_at node.tables k (set_of k places)
line_is_above node k bound places below of person =
    below (set_of k places) (given_line node.tables.problem k places of.legal person)

pub returns-then-k-eq0-clause-below : goal.returns-then-k-eq0-clause-below
returns-then-k-eq0-clause-below c places of =
    let node = c.args.self.now in
    let k = c.args.k in
    let below = subst (λ (n : ChosenLines). IsReducedBound n.tables.problem n.tables.prices k c.bound_of.result) c.self.view_is c.bound_of.ensures.below in
    subst (λ (z : ℤ). z ≤ℤ reduced_at node.tables k (set_of k places))
    (sym (same_word128 c.bound_of.result c.bound_of.type_inv))
    (line_is_above node k c.bound_of.result places below of c.requires.person)

pub returns-else-k-len-clause-below : goal.returns-else-k-len-clause-below
returns-else-k-len-clause-below c places of =
    let node = c.args.self.now in
    let k = c.args.k in
    let below = subst (λ (n : ChosenLines). IsReducedBound n.tables.problem n.tables.prices k c.bound_of-else-k-len.result) c.self.view_is c.bound_of-else-k-len.ensures.below in
    subst (λ (z : ℤ). z ≤ℤ reduced_at node.tables k (set_of k places))
    (sym (same_word128 c.bound_of-else-k-len.result c.bound_of-else-k-len.type_inv))
    (line_is_above node k c.bound_of-else-k-len.result places below of c.requires.person)
