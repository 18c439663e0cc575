use Rattle.std.proofs.Common.{sym, subst}
use Rattle.std.specs.Prelude.{All}
use Rattle.std.proofs.lemmas.List.Elements.{All-push}
use Rattle.roster_plan_bound.specs.Prospects.{IsTable}
use Rattle.roster_plan_bound.proofs.prospect.Prospect.add.Goals as goal

pub invariant_of-self-2 : goal.invariant_of-self-2
invariant_of-self-2 c =
    let inner = c.self.inside in
    let is = c.self.invariant in
    let own = IsTable inner.problem.now inner.person inner.timeline.now inner.units.items in
    let table : own c.in_ok-table.table =
    subst (λ v. IsTable v.problem v.person v.timeline v.units c.in_ok-table.table) (sym c.self.view_is) c.in_ok-table.ensures in
    record {
      person = is.person;
      is_timeline = is.is_timeline;
      are_prices = is.are_prices;
      are_units = is.are_units;
      are_tables = subst (All own) (sym c.in_ok-push.ensures.items) (All-push own inner.tables.items c.in_ok-table.table is.are_tables table);
      is_weight = is.is_weight;
      is_short = is.is_short;
      small = is.small;
      is_spare = is.is_spare;
    }
