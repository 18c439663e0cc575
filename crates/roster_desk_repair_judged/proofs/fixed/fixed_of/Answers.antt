use Rattle.std.proofs.Common.{◌≡◌, ℕ, ◌+◌, cond, List, [], ◌∷◌, ◌++◌, length, take, get_or, Some, None, ap, ◌∙◌, arith}
use Rattle.std.proofs.lemmas.List.{take_more, length-take-le}
use Rattle.roster_model.specs.records.Duty.{Duty}
use Rattle.roster_desk_repair_terms.specs.Fixed.{fixed_from, reports_before}
use Rattle.roster_desk_repair_judged.proofs.fixed.fixed_of.Goals as goal

-- what is fixed of one number more
fixed-push : (duties : List Duty) (from p : ℕ) (published : List ℕ) (x q : ℕ) → p + length published ≡ q
    → fixed_from duties from p (published ++ x ∷ [])
    ≡ fixed_from duties from p published ++ cond (reports_before duties from q) (Some x) None ∷ []
fixed-push duties from p [] x q at =
    let same : p ≡ q = omega arith in
    ap (λ i. cond (reports_before duties from i) (Some x) None ∷ []) same
fixed-push duties from p (y ∷ published) x q at =
    ap (λ l. cond (reports_before duties from p) (Some y) None ∷ l)
    (fixed-push duties from (p + 1) published x q (omega arith))

pub loop-p-preserved : goal.loop-p-preserved
loop-p-preserved c =
    let duties = c.args.problem.now.duties in
    let from = c.minutes-from.result in
    let published = c.args.published.now in
    let p = c.loop-p.p in
    let front : length (take p published) ≡ p = length-take-le p published (omega arith) in
    let more = ap (λ l. fixed_from duties from 0 l) (take_more published p 0 c.loop-p-test.true) in
    let push = fixed-push duties from 0 (take p published) (get_or published p 0) p (omega (arith, front)) in
    let whole = more ∙ push in
    let items = c.in_ok-push.ensures.items in
    let here = c.fixed_at.ensures in
    cc (whole, items, here, c.loop-p.invariant)
