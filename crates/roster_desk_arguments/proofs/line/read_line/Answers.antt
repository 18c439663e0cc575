use Rattle.std.proofs.Common.{◌≡◌, ◌∙◌, ◌∷◌, ℕ, List, [], IsSomeAnd, Option, Some, None, is_some, option_map, true, true≢false, ap, codes, map, refl, string_bytes, subst, sym}
use Rattle.std.specs.Prelude.{option_and_then, IfSome}
use Rattle.clap.specs.Words.{fault_of, is_simple, is_simple_and_free, one_of, subcommand_of, subcommand_rows_of, HasKind, HasMatchesOf, Row}
use Rattle.clap.specs.declared.parser.matches.ArgMatches.{ArgMatches}
use Rattle.roster_desk_arguments.specs.Line.{spelling, AsksIn, IsWhole, TellsKind}
use Rattle.roster_desk_arguments.specs.declared.line.LineFault.{LineFault}
use Rattle.roster_desk_arguments.specs.declared.line.LineFault.TheVariants as faults
use Rattle.roster_desk_arguments.specs.declared.line.Line.{Line}
use Rattle.clap.specs.declared.error.kind.ErrorKind.TheVariants.{MissingRequiredArgument, ValueValidation}
use Rattle.clap.proofs.OnLiterals.{clap_on_literals}
use Rattle.roster_desk_arguments.specs.Commands.{desk_app}
use Rattle.roster_desk_arguments.proofs.Whole.{asked_whole}
use Rattle.roster_desk_arguments.proofs.line.read_line.Goals.{In-Ok}
use Rattle.roster_desk_arguments.proofs.line.read_line.Goals as goal

-- the desk's command line is one of which clap says exactly what it finds, and what it refuses
is_whole : is_simple desk_app ≡ true
unfolding clap_on_literals
is_whole = refl

is_free : is_simple_and_free desk_app ≡ true
unfolding clap_on_literals
is_free = refl

pub returns-in-Err-clause-kind : goal.returns-in-Err-clause-kind
returns-in-Err-clause-kind c =
    λ _. c.refusal.ensures.kept (fault_of desk_app (map string_bytes c.args.words.now))
    (subst (λ app. HasKind (fault_of app (map string_bytes c.args.words.now)) c.in-Err.error) c.in_ok-command.ensures.app
    (c.in-Err.ensures.kinds (ap is_simple_and_free c.in_ok-command.ensures.app ∙ is_free)))

-- what isn't refused for any reason is want of memory
only_memory : (fault : LineFault) → TellsKind [] fault → fault ≡ faults.Memory
only_memory (faults.Refused error) told = absurd told
only_memory faults.Memory told = refl

pub returns-in-Err-clause-taken : goal.returns-in-Err-clause-taken
returns-in-Err-clause-taken c = λ none.
    only_memory c.refusal.result (subst (λ kinds. TellsKind kinds c.refusal.result) none
    (c.refusal.ensures.kept (fault_of desk_app (map string_bytes c.args.words.now))
    (subst (λ app. HasKind (fault_of app (map string_bytes c.args.words.now)) c.in-Err.error) c.in_ok-command.ensures.app
    (c.in-Err.ensures.kinds (ap is_simple_and_free c.in_ok-command.ensures.app ∙ is_free)))))

-- what clap gives matches of has no fault
faultless : (c : In-Ok) → fault_of desk_app (map string_bytes c.args.words.now) ≡ []
faultless c =
    ap (λ app. fault_of app (map string_bytes c.args.words.now)) (sym c.in_ok-command.ensures.app)
    ∙ c.in-Ok.ensures.kinds (ap is_simple_and_free c.in_ok-command.ensures.app ∙ is_free)

pub returns-in-Some-clause-faultless : goal.returns-in-Some-clause-faultless
returns-in-Some-clause-faultless c = faultless (goal.at.returns-in-Some-clause-faultless c).In-Ok

-- and its matches are those that the words have
abbrev IsAsked : ArgMatches → Line → Type 0
IsAsked matches line = (rows : List Row) × (subcommand_rows_of matches ≡ Some (spelling line, rows)) × AsksIn rows line

pub returns-in-Some-clause-asked : goal.returns-in-Some-clause-asked
returns-in-Some-clause-asked c =
    let words = map string_bytes c.args.words.now in
    let same = (subst (λ app. HasMatchesOf app words c.in-Ok.matches) c.in_ok-command.ensures.app c.in-Ok.ensures.ok.2 is_whole).1 in
    let found = subst (λ line. IfSome line (IsAsked c.in-Ok.matches)) c.in-Some.is c.in_ok-line.ensures.asks in
    record { rows = found.0; named = sym same ∙ found.1; asks = found.2 }

pub returns-clause-kind : goal.returns-clause-kind
returns-clause-kind c = λ some. absurd (some (faultless (goal.at.returns-clause-kind c).In-Ok))

-- they ask for one of the commands, with what it requires
pub returns-clause-taken : goal.returns-clause-taken
returns-clause-taken c = λ none.
    let words = map string_bytes c.args.words.now in
    let same = (subst (λ app. HasMatchesOf app words c.in-Ok.matches) c.in_ok-command.ensures.app c.in-Ok.ensures.ok.2 is_whole).1 in
    let whole = subst (λ found. IsSomeAnd found (λ q. IsWhole q.0 q.1)) (sym same) (asked_whole words none) in
    absurd (true≢false (sym (ap is_some (sym c.in-None.is) ∙ c.in_ok-line.ensures.some whole)))

-- the clauses speak of words that there are: these are taken and ask for a plan, with a number that is given and one
-- that is left out,
abbrev plan_words : List (List ℕ)
plan_words = codes "roster-desk" ∷ codes "plan" ∷ codes "--effort" ∷ codes "9" ∷ codes "book.csv" ∷ []

abbrev value_in : List ℕ → Option (List ℕ)
value_in name = option_and_then (λ p. one_of name p.1) (subcommand_of desk_app plan_words)

planned : (fault_of desk_app plan_words ≡ [])
    × (option_map (λ p. p.0) (subcommand_of desk_app plan_words) ≡ Some (codes "plan"))
    × (value_in (codes "effort") ≡ Some (codes "9"))
    × (value_in (codes "change") ≡ None)
    × (value_in (codes "sets") ≡ None)
unfolding clap_on_literals
planned = (refl, refl, refl, refl, refl)

-- and a number past its limits, or no book, is refused as such
told_past : fault_of desk_app (codes "roster-desk" ∷ codes "plan" ∷ codes "--effort" ∷ codes "10" ∷ codes "book.csv" ∷ []) ≡ ValueValidation ∷ []
unfolding clap_on_literals
told_past = refl

told_none : fault_of desk_app (codes "roster-desk" ∷ codes "plan" ∷ []) ≡ MissingRequiredArgument ∷ []
unfolding clap_on_literals
told_none = refl
