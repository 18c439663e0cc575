use Rattle.std.proofs.Common.{subst}
use Rattle.roster_report.specs.Writing.{TellsLine}
use Rattle.roster_cli.proofs.program.ended.Goals as goal

pub returns-clause-says : goal.returns-clause-says
returns-clause-says g c = subst (λ text. TellsLine g.E.Write.contents text c.args.errors.now c.tell.new.errors) c.message.ensures c.tell.ensures
