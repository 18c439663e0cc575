use Rattle.std.proofs.Common.{◌≡◌, ◌∙◌, IsSomeAnd, ℕ, List, Some, option_map, subst}
use Rattle.clap.specs.Words.{Row, found_of, rows_of, subcommand_rows_of}
use Rattle.clap.specs.declared.parser.matches.ArgMatches.{ArgMatches}
use Rattle.clap.specs.declared.parser.matches.ArgMatches.TheViews.{out-ArgMatches}
use Rattle.clap.specs.Matches.{subcommand_name_of}
use Rattle.roster_desk_arguments.specs.Line.{IsWhole}
use Rattle.roster_desk_arguments.proofs.Whole.{name_in_rows, of_book, of_repair, whole_at}
use Rattle.roster_desk_arguments.proofs.asked.asked.Goals as goal

-- the rows of the command that was entered have what it requires
entered : (matches : ArgMatches) (name : List ℕ) (rows : List Row) → Some name ≡ subcommand_name_of matches
    → Some rows ≡ option_map (λ q. q.1) (subcommand_rows_of matches)
    → IsSomeAnd (subcommand_rows_of matches) (λ q. IsWhole q.0 q.1) → IsWhole name rows
entered matches name rows named found whole =
    whole_at (subcommand_rows_of matches) name rows (named ∙ name_in_rows (out-ArgMatches matches).subcommand) found whole

pub returns-in-book-clause-some : goal.returns-in-book-clause-some
returns-in-book-clause-some c = λ whole.
    let rows = rows_of (found_of c.in-Some.found.now) in
    let here = entered c.args.matches.now c.in-Some.command.now rows c.in-Some.ensures.name c.in-Some.ensures.rows whole in
    let has = of_book rows (subst (λ name. IsWhole name rows) c.in-book.is here) in
    c.made.ensures.some has.0 has.1

pub returns-in-repair-clause-some : goal.returns-in-repair-clause-some
returns-in-repair-clause-some c = λ whole.
    let rows = rows_of (found_of c.in-Some.found.now) in
    let here = entered c.args.matches.now c.in-Some.command.now rows c.in-Some.ensures.name c.in-Some.ensures.rows whole in
    let has = of_repair rows (subst (λ name. IsWhole name rows) c.in-repair.is here) in
    c.repaired.ensures.some has.0 has.1 has.2
