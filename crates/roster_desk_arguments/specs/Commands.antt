-- The desk's commands and their arguments, as `clap` reads them.
use Rattle.std.specs.Prelude.{ℕ, List, [], ◌∷◌, Some, codes, true}
use Rattle.clap.specs.Words.{App, Rule, new_app, new_rule, with_rule, with_subcommand}
use Rattle.clap.specs.declared.builder.action.ArgAction.TheVariants as actions
use Rattle.clap.specs.declared.builder.value_parser.ValueParser.TheVariants as parsers
use Rattle.roster_model.specs.declared.limits.TheConstants.{MOST_LINES, MOST_UNITS, MOST_WORKERS}

-- ---- the arguments

-- one that may stand at its place
abbrev pub placed_rule : List ℕ → Rule
placed_rule id = record (new_rule id) { value_names = 1 }

-- one that has to stand there
abbrev pub needed_rule : List ℕ → Rule
needed_rule id = record (placed_rule id) { required = true }

abbrev pub book_rule : Rule
book_rule = needed_rule (codes "book")

abbrev pub report_rule : Rule
report_rule = placed_rule (codes "report")

-- one with two dashes before its name, and a value
abbrev pub named_rule : List ℕ → Rule
named_rule id = record (placed_rule id) { long = Some id }

-- such a one that has to be there
abbrev pub demanded_rule : List ℕ → Rule
demanded_rule id = record (named_rule id) { required = true }

-- such a one that may be there more than once
abbrev pub lists_rule : List ℕ → Rule
lists_rule id = record (named_rule id) { action = Some actions.Append }

-- one with two dashes before its name, and no value
abbrev pub flag_rule : List ℕ → Rule
flag_rule id = record (new_rule id) { long = Some id; action = Some actions.SetTrue }

-- one whose value is a number between two
abbrev pub number_rule : List ℕ → ℕ → ℕ → Rule
number_rule id low high = record (named_rule id) { parser = Some (parsers.Unsigned low high) }

-- and such a one with a usual value
abbrev pub usual_rule : List ℕ → ℕ → ℕ → List ℕ → Rule
usual_rule id low high usual = record (number_rule id low high) { defaults = usual ∷ [] }

-- ---- the commands

abbrev pub bounded_plan_app : App
bounded_plan_app =
    with_rule
    (with_rule
    (with_rule (with_rule (new_app (codes "plan")) book_rule) (usual_rule (codes "effort") 0 9 (codes "5")))
    (number_rule (codes "workers") 1 MOST_WORKERS)) (number_rule (codes "sets") 1 MOST_LINES)

abbrev pub plan_app : App
plan_app =
    with_rule
    (with_rule (with_rule bounded_plan_app (named_rule (codes "start"))) (flag_rule (codes "progress")))
    (named_rule (codes "keep"))

abbrev pub begun_why_app : App
begun_why_app = with_rule (with_rule (new_app (codes "why")) book_rule) report_rule

abbrev pub why_app : App
why_app =
    with_rule
    (with_rule (with_rule begun_why_app (named_rule (codes "pairing"))) (named_rule (codes "person")))
    (flag_rule (codes "all"))

abbrev pub limits_app : App
limits_app =
    with_rule
    (with_rule (with_rule (new_app (codes "limits")) book_rule) report_rule) (named_rule (codes "person"))

abbrev pub names_rule : Rule
names_rule = named_rule (codes "names")

abbrev pub begun_table_app : App
begun_table_app =
    with_rule
    (with_rule (with_rule (new_app (codes "table")) book_rule) report_rule) (flag_rule (codes "persons"))

abbrev pub table_app : App
table_app =
    with_rule
    (with_rule (with_rule begun_table_app (flag_rule (codes "semicolon"))) (flag_rule (codes "bom"))) names_rule

abbrev pub chart_app : App
chart_app = with_rule (with_rule (with_rule (new_app (codes "chart")) book_rule) report_rule) names_rule

abbrev pub diff_app : App
diff_app =
    with_rule
    (with_rule
    (with_rule (with_rule (new_app (codes "diff")) book_rule) (needed_rule (codes "report")))
    (needed_rule (codes "other"))) (flag_rule (codes "persons"))

abbrev pub assigns_app : App
assigns_app = with_rule (new_app (codes "assigns")) (needed_rule (codes "report"))

abbrev pub fault_app : App
fault_app = with_rule (new_app (codes "fault")) book_rule

abbrev pub warn_app : App
warn_app = with_rule (new_app (codes "warn")) book_rule

abbrev pub fair_app : App
fair_app = with_rule (new_app (codes "fair")) book_rule

abbrev pub begun_repair_app : App
begun_repair_app =
    with_rule
    (with_rule (with_rule (new_app (codes "repair")) book_rule) (needed_rule (codes "report")))
    (demanded_rule (codes "from"))

abbrev pub repair_app : App
repair_app =
    with_rule
    (with_rule
    (with_rule begun_repair_app (usual_rule (codes "change") 0 MOST_UNITS (codes "500")))
    (named_rule (codes "notice"))) (lists_rule (codes "broken"))

abbrev pub month_app : App
month_app =
    with_rule (with_rule (new_app (codes "book")) (needed_rule (codes "folder"))) (demanded_rule (codes "month"))

abbrev pub book_app : App
book_app =
    with_rule
    (with_rule
    (with_rule (with_rule month_app (lists_rule (codes "base"))) (named_rule (codes "rank")))
    (number_rule (codes "weight") 0 MOST_UNITS)) (named_rule (codes "start"))

abbrev pub carry_app : App
carry_app =
    with_rule
    (with_rule
    (with_rule (with_rule (new_app (codes "carry")) book_rule) (needed_rule (codes "report")))
    (named_rule (codes "flown"))) (named_rule (codes "into"))

-- ---- `roster-desk`, of whose commands one has to be given

abbrev pub bare_app : App
bare_app = new_app (codes "roster-desk")

abbrev pub demanding_app : App
demanding_app = record bare_app { top = record bare_app.top { subcommand_required = true } }

abbrev pub planner_app : App
planner_app =
    with_subcommand (with_subcommand (with_subcommand demanding_app plan_app.top) why_app.top) limits_app.top

abbrev pub shower_app : App
shower_app =
    with_subcommand (with_subcommand (with_subcommand planner_app table_app.top) chart_app.top) diff_app.top

abbrev pub checker_app : App
checker_app =
    with_subcommand (with_subcommand (with_subcommand shower_app assigns_app.top) fault_app.top) warn_app.top

abbrev pub writer_app : App
writer_app =
    with_subcommand (with_subcommand (with_subcommand checker_app repair_app.top) book_app.top) fair_app.top

abbrev pub desk_app : App
desk_app = with_subcommand writer_app carry_app.top
