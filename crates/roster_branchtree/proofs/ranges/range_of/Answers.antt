use Rattle.std.proofs.Common.{◌≡◌, ◌+◌, ◌<◌, ℕ, List, length, get_or, sym, ap, ◌∙◌, arith}
use Rattle.std.proofs.lemmas.Option.{slice_get-get_or}
use Rattle.roster_lines_table.specs.Entries.{Entry}
use Rattle.roster_subtreepool_spans.specs.Spans.{Span}
use Rattle.roster_branchtree.proofs.SpanLemmas.{range_of_later, range_of_next, range_of_path}
use Rattle.roster_branchtree.proofs.ranges.range_of.Goals as goal

pub overflow_add-result : goal.overflow_add-result
overflow_add-result c =
    let k = c.args.k in
    let path : c.as_slice-path.result.now ≡ c.args.span.now.path =
    c.as_slice-path.ensures ∙ ap (λ (s : Span). s.path) c.span.view_is in
    let number = ap (λ (xs : List ℕ). get_or xs k 0) path in
    let inside : k < length c.args.span.now.path = omega (arith, c.if-k-path.true, ap length path) in
    let below =
    c.requires.path k (get_or c.args.span.now.path k 0)
    (slice_get-get_or c.args.span.now.path k 0 inside) in
    let width = c.width-width.ensures.value ∙ ap (λ (entries : List Entry). length entries) c.lines.ensures in
    omega (arith, below, number, width, c.width-width.ensures.bound)

pub returns-then-k-path : goal.returns-then-k-path
returns-then-k-path c =
    let k = c.args.k in
    let path : c.as_slice-path.result.now ≡ c.args.span.now.path =
    c.as_slice-path.ensures ∙ ap (λ (s : Span). s.path) c.span.view_is in
    let inside : k < length c.args.span.now.path = omega (arith, c.if-k-path.true, ap length path) in
    ap (λ (xs : List ℕ). (get_or xs k 0, get_or xs k 0 + 1)) path
    ∙ sym (range_of_path c.args.table.now c.args.span.now k (get_or c.args.span.now.path k 0) (slice_get-get_or c.args.span.now.path k 0 inside))

pub returns-then-k-path-2 : goal.returns-then-k-path-2
returns-then-k-path-2 c =
    let path : c.as_slice-path.result.now ≡ c.args.span.now.path =
    c.as_slice-path.ensures ∙ ap (λ (s : Span). s.path) c.span.view_is in
    let here : c.args.k ≡ length c.args.span.now.path = omega (arith, c.if-k-path-2.true, ap length path) in
    ap (λ (s : Span). (s.lo, s.hi)) c.span.view_is
    ∙ sym (range_of_next c.args.table.now c.args.span.now c.args.k here)

pub returns : goal.returns
returns c =
    let path : c.as_slice-path.result.now ≡ c.args.span.now.path =
    c.as_slice-path.ensures ∙ ap (λ (s : Span). s.path) c.span.view_is in
    let later : length c.args.span.now.path < c.args.k =
    omega (arith, c.if-k-path.false, c.if-k-path-2.false, ap length path) in
    let width = c.width-width.ensures.value ∙ ap (λ (entries : List Entry). length entries) c.lines.ensures in
    ap (λ (n : ℕ). (0, n)) width ∙ sym (range_of_later c.args.table.now c.args.span.now c.args.k later)
