use Rattle.std.proofs.Common.{sym, subst}
use Rattle.roster_search.specs.Open.{IsParted}
use Rattle.roster_search.proofs.OpenLemmas.{parted_by}
use Rattle.roster_search.proofs.visiting.part.Goals as goal

pub returns : goal.returns
returns c =
    let first = c.in_ok-first.ensures in
    let others = c.in_ok-keep_other_side.ensures in
    let parted = parted_by c.args.problem.now c.in-Some.branch c.args.most c.args.region c.in_ok-first.first c.keep_other_side.new.region first.narrowed others.other first.fewer others.fewer in
    subst (λ node. IsParted c.args.problem.now c.args.region c.args.most c.in_ok-first.first node) (sym c.of_side.ensures) parted
