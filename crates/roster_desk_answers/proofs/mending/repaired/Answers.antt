use Rattle.std.proofs.Common.{◌≡◌, refl, rules, subst, sym, true}
use Rattle.roster_desk_answers.specs.Told.{IsRosterOf}
use Rattle.roster_desk_answers.proofs.mending.repaired.Goals as goal

pub returns-in-Ok-repair : goal.returns-in-Ok-repair
returns-in-Ok-repair c =
    let book = c.args.book.now in
    let report = c.args.report.now in
    let start = c.as_slice.result.now in
    let same : start ≡ c.in-Ok.published = search rules in
    let is : IsRosterOf true book report start = subst (IsRosterOf true book report) (sym same) (record { faultless = c.in-Ok.ensures.sound; covers = c.in-Ok.ensures.covers; numbers = c.in-Ok.ensures.numbers; has = c.in-Ok.ensures.has; only = c.in-Ok.ensures.given }) in
    record { made = record { published = start; roster = is; made = c.in-Ok-repair.made; is = c.in-Ok-repair.ensures.made; written = refl } }
