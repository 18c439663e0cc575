use Rattle.std.proofs.Common.{◌≡◌, ◌∙◌, ◌+◌, ◌≤◌, ◌∷◌, [], ap, arith, drop, get_or, length, refl, subst, suc, sym}
use Rattle.std.proofs.Math.Seq.{drop-cons}
use Rattle.std.proofs.lemmas.List.{drop_all}
use Rattle.roster_desk_answers.specs.Broken.{BreakBy, BreaksBy}
use Rattle.roster_desk_answers.proofs.breaking.broken_off.Goals as goal

pub loop-words-preserved : goal.loop-words-preserved
loop-words-preserved c = λ last rest.
    let all = c.deref-words-items.result.now in
    let same : all ≡ c.args.line.now.broken.items = c.deref-words-items.ensures.value in
    let i = c.loop-words.words-index in
    let book = c.loop-words.book in
    let broken = c.in-Ok.broken in
    let words = get_or all i (record { ref_ptr = (0, 0); now = [] }) in
    let next : suc i ≡ i + 1 = omega arith in
    let left : drop i all ≡ words ∷ drop (i + 1) all =
    drop-cons all i _ c.loop-words-test.true ∙ ap (λ n. words ∷ drop n all) next in
    let breaks : BreaksBy book c.args.at words.now broken.problem =
    record {
      off = c.in_ok-off.off;
      is = c.in_ok-off.ensures.is;
      made = broken;
      broken = c.in-Ok.ensures.broken;
      same = refl;
    } in
    let behind = subst (λ l. BreakBy c.args.at broken.problem (drop (i + 1) l) last) (sym same) rest in
    let here = subst (λ l. BreakBy c.args.at book l last) (sym left) (broken.problem, breaks, behind) in
    c.loop-words.invariant last (subst (λ l. BreakBy c.args.at book (drop i l) last) same here)

pub returns : goal.returns
returns c =
    let all = c.args.line.now.broken.items in
    let same = ap length c.deref-words-items.ensures.value in
    let end : length all ≤ c.loop-words.words-index =
    omega (arith, same, c.loop-words-test.false, c.loop-words.auto.words-index-end) in
    let book = c.loop-words.book in
    c.loop-words.invariant book
    (subst (λ l. BreakBy c.args.at book l book) (sym (drop_all c.loop-words.words-index all end)) refl)
