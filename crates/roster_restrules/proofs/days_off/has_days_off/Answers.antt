use Rattle.std.proofs.Common.{arith}
use Rattle.std.proofs.lemmas.Bool.{false≢true}
use Rattle.roster_restrules.proofs.DaysOff.{keeps-iff, keeps-none, lowest-inside}
use Rattle.roster_restrules.proofs.days_off.has_days_off.Goals as goal

pub overflow_shr-result : goal.overflow_shr-result
overflow_shr-result c =
    let table = c.pairs_off-pairs.ensures.table in
    let most = table.most in
    let inside = lowest-inside c.args.days.now.month_days c.args.busy c.pairs_off-pairs.result c.pairs_off-pairs.ensures.bits (omega arith) (omega arith) in
    omega (arith, inside, most)

pub returns-then-pairs-eq0 : goal.returns-then-pairs-eq0
returns-then-pairs-eq0 c list are = (
  λ h. absurd (false≢true h),
  λ keeps. absurd (keeps-none c.args.days.now c.pairs_off-pairs.ensures.table list c.args.busy c.pairs_off-pairs.result are c.pairs_off-pairs.ensures.bits c.if-pairs-eq0.true keeps),
)

pub returns : goal.returns
returns c list are =
    keeps-iff c.args.days.now c.pairs_off-pairs.ensures.table list c.args.busy c.pairs_off-pairs.result are c.pairs_off-pairs.ensures.bits (omega arith) (omega arith)
