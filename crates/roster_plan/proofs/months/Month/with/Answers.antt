use Rattle.std.proofs.Common.{sym, subst}
use Rattle.roster_model.specs.declared.limits.TheConstants.{MOST_BASES}
use Rattle.roster_plan.specs.Parts.{AreParts}
use Rattle.roster_plan.proofs.PartLemmas.{part_put, parts_set}
use Rattle.roster_plan.proofs.months.Month.with.Goals as goal

pub told-requires-clause-parts : goal.told-requires-clause-parts
told-requires-clause-parts g c =
    let problem = c.args.problem.now in
    subst (AreParts problem) (sym c.deref.ensures.value)
    (parts_set problem MOST_BASES c.args.base c.args.self.parts.items c.args.part c.requires.base c.requires.month.parts c.requires.part)

pub returns-clause-month : goal.returns-clause-month
returns-clause-month g c = record {
  parts = parts_set c.args.problem.now MOST_BASES c.args.base c.args.self.parts.items c.args.part c.requires.base c.requires.month.parts c.requires.part;
  planned = c.in_ok-planned.ensures;
}

pub returns-clause-part : goal.returns-clause-part
returns-clause-part g c = part_put MOST_BASES c.args.base c.args.self.parts.items c.args.part c.requires.base c.requires.month.parts.covers
