use Rattle.std.proofs.Common.{◌≡◌, ◌+◌, ◌<◌, true, false, drop, get_or, length, ℕ, List, Bool, Some, refl, sym, ap, ◌∙◌, cond}
use Rattle.std.specs.Prelude.{slice_get}
use Rattle.roster_model.specs.Rules.{is_among}
use Rattle.roster_lines_table.specs.Entries.{Entry, sets_of}
use Rattle.roster_lines_table.specs.Person.{lines_at}
use Rattle.roster_bounds.specs.Chosen.{placing_person}
use Rattle.roster_bounds.proofs.PricedLines.{line_set-at}
use Rattle.roster_bounds.proofs.Placing.{placing_next}
use Rattle.roster_bounds.proofs.node.placing.Goals as goal

-- whether the next line has the pairing decides
next : (table : List (List Entry)) (lines set : List ℕ) (k p : ℕ) (has : Bool) → k < length lines
    → slice_get (sets_of (lines_at table k)) (get_or lines k 0) ≡ Some set → has ≡ is_among set p
    → placing_person table k (drop k lines) p ≡ cond has k (placing_person table (k + 1) (drop (k + 1) lines) p)
next table lines set k p has inside found told =
    let here = line_set-at table k (get_or lines k 0) set found in
    placing_next table lines p k (get_or lines k 0) inside refl
    ∙ ap (λ b. cond b k (placing_person table (k + 1) (drop (k + 1) lines) p)) (ap (λ xs. is_among xs p) here ∙ sym told)

pub returns-then-has : goal.returns-then-has
returns-then-has c =
    let table = c.args.table.now in
    let lines = c.args.lines.now in
    let k = c.loop-k.k in
    sym (next table lines c.set.result k c.args.p true c.loop-k-test.true c.set.ensures c.if-has.ensures.value) ∙ c.loop-k.invariant

pub loop-k-preserved : goal.loop-k-preserved
loop-k-preserved c =
    let table = c.args.table.now in
    let lines = c.args.lines.now in
    let k = c.loop-k.k in
    sym (next table lines c.set.result k c.args.p false c.loop-k-test.true c.set.ensures c.if-has.ensures.value) ∙ c.loop-k.invariant
