use Rattle.std.proofs.Common.{sym, subst}
use Rattle.roster_model.specs.Calendar.{IsTable}
use Rattle.roster_instants.proofs.ZoneLemmas.{table_made}
use Rattle.roster_instants.proofs.days.table.Goals as goal

pub invariant_of-result : goal.invariant_of-result
invariant_of-result c =
    subst (λ d. IsTable d)
    (sym (table_made c.args.period c.args.clocks.now c.window_of-first.result.first c.window_of-first.result.days c.days_of_month.result _ _ _
    c.window_of-first.ensures.first c.window_of-first.ensures.days c.days_of_month.ensures.value
    c.in_ok-instants_at.ensures c.in_ok-instants_at-2.ensures c.in_ok-instants_at-3.ensures))
    c.requires
