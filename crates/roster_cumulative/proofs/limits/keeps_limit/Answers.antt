use Rattle.std.proofs.Common.{ℕ, ◌≤◌, leb-true, get_or, sym, subst}
use Rattle.std.proofs.lemmas.Bool.{le-leb}
use Rattle.roster_cumulative.proofs.InRun.{greatest-bounds, greatest-within}
use Rattle.roster_cumulative.proofs.limits.keeps_limit.Goals as goal

pub returns : goal.returns
returns c =
    let minutes = λ (i : ℕ). get_or c.args.table.now i 0 in
    let days = c.args.days.now in
    let n = c.args.n in
    let most = c.args.most in (
      λ holds. greatest-bounds minutes days n most (subst (λ m. m ≤ most) c.greatest_run.ensures.value (leb-true c.greatest_run.result most holds)),
      λ keeps. le-leb c.greatest_run.result most (subst (λ m. m ≤ most) (sym c.greatest_run.ensures.value) (greatest-within minutes days n most keeps)),
    )
