use Rattle.std.proofs.Common.{subst, sym}
use Rattle.std.proofs.lemmas.Result.{IfOk-weaker}
use Rattle.roster_values.specs.declared.rule.TheConstants.Limit.{ALL}
use Rattle.roster_desk_words.specs.Limits.{AreLimitLines, IsLimitLine}
use Rattle.roster_desk_words.specs.Parts.{AreParts}
use Rattle.roster_desk_words.proofs.limits.person_text.Goals as goal

pub returns : goal.returns
returns c =
    let problem = c.args.problem.now in
    IfOk-weaker c.lines_of.result _ _ (λ text are. subst (λ meant. AreLimitLines meant problem c.args.places.now c.args.k text.items)
    (sym c.if-not-is_meant.false)
    (subst (λ list. AreParts (IsLimitLine problem list c.args.k) ALL text.items) c.in_ok-list.ensures are))
    c.lines_of.ensures
