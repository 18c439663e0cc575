use Rattle.std.proofs.Common.{◌<◌, ◌∷◌, ◌++◌, [], length, map, sym, ap, ap₂, ◌∙◌, arith}
use Rattle.std.proofs.lemmas.List.{get_or-map, length-map, take_more}
use Rattle.roster_lines_table.specs.Entries.{sets_of}
use Rattle.roster_combine_workers.proofs.root.widths_of.Goals as goal

pub loop-k-preserved : goal.loop-k-preserved
loop-k-preserved c =
    let table = c.args.table.now in
    let k = c.loop-k.k in
    let within : k < length table = omega (arith, c.loop-k-test.true, ap length c.persons-k-end.ensures.value, c.requires.sets.covers, length-map table sets_of) in
    c.in_ok-push.ensures.items
    ∙ ap₂ (λ xs x. xs ++ x ∷ []) c.loop-k.invariant (c.width.ensures ∙ sym (get_or-map length table k [] 0 within))
    ∙ sym (take_more (map length table) k 0 (omega (arith, within, length-map table length)))
