use Rattle.std.proofs.Common.{sym, ◌∙◌}
use Rattle.roster_search_fixing.proofs.PropagationLemmas.{lacks_has}
use Rattle.roster_search_least.proofs.first.may_have.Goals as goal

pub returns : goal.returns
returns c none places there has =
    let lacks = sym (c.possible.ensures c.args.p) ∙ sym c.has.ensures.value ∙ none in
    lacks_has c.args.problem.now c.args.region.now c.args.k c.args.p places c.requires.region c.requires.person lacks there has
