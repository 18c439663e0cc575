use Rattle.std.proofs.Common.{ap, subst}
use Rattle.roster_model.specs.records.Duty.{Duty}
use Rattle.roster_restrules.specs.Times.{IsRestedBy}
use Rattle.roster_restrules.proofs.times.times_of.Goals as goal

pub returns : goal.returns
returns c =
    let release = ap (λ (d : Duty). d.release) c.duty.view_is in
    record {
      report = ap (λ (d : Duty). d.report) c.duty.view_is;
      release = release;
      rested = subst (λ from. IsRestedBy c.args.days.now from c.rested_by.result) release c.rested_by.ensures;
    }
