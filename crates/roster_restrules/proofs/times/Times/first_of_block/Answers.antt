use Rattle.std.proofs.Common.{◌<◌, ◌≤◌, arith}
use Rattle.std.proofs.lemmas.Int.{ints}
use Rattle.roster_restrules.proofs.TimedLists.{block-begins, block-goes_on}
use Rattle.roster_restrules.proofs.times.Times.first_of_block.Goals as goal

pub returns-then-rested-report : goal.returns-then-rested-report
returns-then-rested-report c =
    let reached : c.at-rested.result.rested ≤ c.at.result.report =
    omega
    (arith, ints, c.if-rested-report.true, c.get-report.ensures.value, c.get-report.ensures.bound) in
    block-begins c.args.self.now c.args.positions.now c.requires.within c.args.i c.at-rested.result c.at.result (omega (arith, c.if-i-gt0.true)) c.requires.inside c.at-rested.ensures c.at.ensures c.get-report.ensures.bound reached

pub returns-else-rested-report : goal.returns-else-rested-report
returns-else-rested-report c =
    let before : c.at.result.report < c.at-rested.result.rested =
    omega
    (arith, ints, c.if-rested-report.false, c.get-report.ensures.value, c.get-report.ensures.bound) in
    block-goes_on c.args.self.now c.args.positions.now c.requires.within c.args.first c.args.i c.at-rested.result c.at.result (omega (arith, c.if-i-gt0.true)) c.requires.inside c.at-rested.ensures c.at.ensures c.get-report.ensures.bound before c.requires.block
