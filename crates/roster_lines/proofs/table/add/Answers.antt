use Rattle.std.proofs.Common.{◌≡◌, length, sym, subst, arith}
use Rattle.std.proofs.lemmas.Result.{MatchResult-at_ok, MatchResult-at_err}
use Rattle.roster_model.specs.Lines.{IsFirstCrowded}
use Rattle.roster_lines.specs.SomeLines.{IsFaultOf}
use Rattle.roster_lines.specs.Made.{AreMade, IsTableSoFar}
use Rattle.roster_lines.proofs.Made.{IsFirstCrowded-next, IsTableSoFar-push}
use Rattle.roster_lines.proofs.table.add.Goals as goal

pub returns-in-TooMany-clause-fault : goal.returns-in-TooMany-clause-fault
returns-in-TooMany-clause-fault c =
    let problem = c.args.problem.now in
    let table = c.args.table.now in
    let here : length table ≡ c.persons.result = omega (arith, c.persons.ensures) in
    let fault =
    MatchResult-at_err (AreMade problem (length table))
    (IsFaultOf problem (length table)) _ c.in-Err.is c.requires.made in
    let crowded = subst (IsFaultOf problem (length table)) c.in-TooMany.is fault in
    subst (IsFirstCrowded problem) here
    (IsFirstCrowded-next problem table c.requires.table c.requires.next crowded)

pub returns-clause-table : goal.returns-clause-table
returns-clause-table c =
    let problem = c.args.problem.now in
    let table = c.args.table.now in
    let made =
    MatchResult-at_ok (AreMade problem (length table))
    (IsFaultOf problem (length table)) _ c.in-Ok.is c.requires.made in
    subst (IsTableSoFar problem) (sym c.in_ok-push-in-Ok.ensures)
    (IsTableSoFar-push problem table _ c.requires.table made)
