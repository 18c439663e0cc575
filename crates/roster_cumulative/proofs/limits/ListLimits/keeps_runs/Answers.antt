use Rattle.std.proofs.Common.{◌≡◌, ℕ, Bool, subst}
use Rattle.std.specs.Prelude.{◌↔◌, IsTrue}
use Rattle.roster_model.specs.Rules.Limits.{KeepsLimit}
use Rattle.roster_model.specs.Sums.{on_day}
use Rattle.roster_cumulative.specs.declared.table.Measure.{Measure}
use Rattle.roster_cumulative.specs.Limited.{Limited}
use Rattle.roster_cumulative.specs.Table.{minutes_of}
use Rattle.roster_cumulative.proofs.limits.ListLimits.keeps_runs.Goals as goal

-- what a test says of the list as the limits see it
seen : (l m : Limited) (measure : Measure) (n most : ℕ) (test : Bool) → l ≡ m
    → (IsTrue test ↔ KeepsLimit (on_day (minutes_of measure) l.days l.list) l.days n most)
    → (IsTrue test ↔ KeepsLimit (on_day (minutes_of measure) m.days m.list) m.days n most)
seen l m measure n most test same is = subst (λ (l : Limited). IsTrue test ↔ KeepsLimit (on_day (minutes_of measure) l.days l.list) l.days n most) same is

pub returns-in-Duty-clause-value : goal.returns-in-Duty-clause-value
returns-in-Duty-clause-value c = seen _ c.args.self.now c.args.measure c.args.n c.args.most c.keeps_summed.result c.self.view_is c.keeps_summed.ensures.value

pub returns-in-Flight-clause-value : goal.returns-in-Flight-clause-value
returns-in-Flight-clause-value c = seen _ c.args.self.now c.args.measure c.args.n c.args.most c.keeps_summed-in-Flight.result c.self.view_is c.keeps_summed-in-Flight.ensures.value
