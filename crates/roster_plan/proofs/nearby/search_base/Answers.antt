use Rattle.std.proofs.Common.{List, sym, subst}
use Rattle.roster_lines.specs.declared.wanted.Between.{Between}
use Rattle.roster_plan.specs.Near.{IsNear}
use Rattle.roster_plan.proofs.nearby.search_base.Goals as goal

pub returns-clause-best : goal.returns-clause-best
returns-clause-best c = λ told others legal home.
    c.in_ok-nearby.ensures.settled told others legal
    (subst (λ (wanted : List Between). IsNear wanted others) (sym c.deref.ensures.value) (c.in_ok-wanted.ensures.all others legal home))
