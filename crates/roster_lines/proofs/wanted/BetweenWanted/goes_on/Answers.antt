use Rattle.std.proofs.Common.{sym, ◌∙◌}
use Rattle.roster_lines.proofs.WantedLemmas.{has_before, none_outside, not_before}
use Rattle.roster_lines.proofs.wanted.BetweenWanted.goes_on.Goals as goal

pub returns-then-not-is_in_either : goal.returns-then-not-is_in_either
returns-then-not-is_in_either c refused rest line between =
    none_outside c.args.self.now.must c.args.self.now.may c.args.set.now c.args.p rest
    (sym c.is_in_either.ensures ∙ c.if-not-is_in_either.true) between

pub returns : goal.returns
returns c refused rest line between =
    not_before c.args.set.now c.args.self.now.must c.args.p c.has_before.result refused c.has_before.ensures (has_before c.args.arg2.now c.args.arg3 c.args.self.now.must c.args.self.now.may c.args.set.now c.args.p rest line between)
