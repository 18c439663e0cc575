-- The command line, as `clap` reads it.
use Rattle.std.specs.Prelude.{◌≡◌, ◌≢◌, ⊤, ℕ, List, [], ◌∷◌, Option, Some, option_and_then, option_map, codes, true}
use Rattle.std.specs.Option.{option_map_or}
use Rattle.std.specs.Str.Parse.{digits_value, without_leading_plus}
use Rattle.clap.specs.Words.{App, Kinds, IsAmong, Row, Rule, kind_of, new_app, new_rule, one_of, subcommand_of, subcommand_rows_of, with_rule, with_subcommand}
use Rattle.clap.specs.ValueTests.{is_unsigned_in}
use Rattle.clap.specs.declared.builder.value_parser.ValueParser.TheVariants as parsers
use Rattle.clap.specs.declared.parser.matches.ArgMatches.{ArgMatches}
use Rattle.clap.specs.declared.error.kind.ErrorKind.TheVariants.{OutOfMemory}
use Rattle.roster_model.specs.declared.limits.TheConstants.{MOST_WORKERS}
use Rattle.roster_cli_arguments.specs.declared.line.LineFault.{LineFault}
use Rattle.roster_cli_arguments.specs.declared.line.LineFault.TheVariants as faults
use Rattle.roster_values.specs.declared.command.Command.{Command}
use Rattle.roster_values.specs.declared.command.Command.TheVariants as commands

-- `--workers N`, from 1 to the workers that search together at most, and 1 if it isn't given
abbrev pub workers_rule : Rule
workers_rule = record (new_rule (codes "workers")) {
  long = Some (codes "workers");
  value_names = 1;
  defaults = codes "1" ∷ [];
  parser = Some (parsers.Unsigned 1 MOST_WORKERS);
}

abbrev pub solve_app : App
solve_app = with_rule (new_app (codes "solve")) workers_rule

-- `roster`, which has a version, with its subcommands, of which one has to be given
abbrev pub bare_app : App
bare_app = new_app (codes "roster")

abbrev pub demanding_app : App
demanding_app =
    record bare_app { top = record bare_app.top { has_version = true; subcommand_required = true } }

abbrev pub roster_app : App
roster_app =
    with_subcommand
    (with_subcommand (with_subcommand demanding_app solve_app.top) (new_app (codes "check")).top)
    (new_app (codes "replay")).top

-- the subcommand in the words, by its name
abbrev pub command_name : List (List ℕ) → Option (List ℕ)
command_name words = option_map (λ p. p.0) (subcommand_of roster_app words)

-- the text of the workers' number in the matches of the subcommand
abbrev pub workers_text : List (List ℕ) → Option (List ℕ)
workers_text words = option_and_then (λ p. one_of (codes "workers") p.1) (subcommand_of roster_app words)

-- the number that it spells
abbrev pub number_spelled : List ℕ → ℕ
number_spelled text = digits_value 10 (without_leading_plus text)

-- the number of workers that the words ask for; no command but `solve` has more than one
abbrev pub workers_asked : Command → List (List ℕ) → ℕ
workers_asked commands.Solve words = option_map_or number_spelled (workers_text words) 1
workers_asked commands.Check words = 1
workers_asked commands.Replay words = 1

-- the matches are those of `solve`, with the text of a number of workers within the limits
pub record HasWorkers (m : ArgMatches) (text : List ℕ) : Type 0 where
  pub rows : List Row
  pub entered : subcommand_rows_of m ≡ Some (codes "solve", rows)
  pub read : one_of (codes "workers") rows ≡ Some text
  pub accepted : is_unsigned_in 1 MOST_WORKERS text ≡ true

-- how a command is spelled
abbrev pub spelling : Command → List ℕ
spelling commands.Solve = codes "solve"
spelling commands.Check = codes "check"
spelling commands.Replay = codes "replay"

-- want of memory goes by its own name
abbrev pub NamesMemory : LineFault → Type 0
NamesMemory (faults.Refused error) = kind_of error ≢ OutOfMemory
NamesMemory faults.Memory = ⊤

-- a refusal has one of the kinds
abbrev pub TellsKind : Kinds → LineFault → Type 0
TellsKind kinds (faults.Refused error) = IsAmong (kind_of error) kinds
TellsKind kinds faults.Memory = ⊤
