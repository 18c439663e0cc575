use Rattle.std.proofs.Common.{rules, ◌≡◌, ℕ, List, true, refl, ap, map, ◌∙◌, sym, subst, codes, ◌∷◌, [], Some}
use Rattle.clap.specs.Words.{takes, fault_of, is_simple, is_simple_and_free, HasKind, HasMatchesOf}
use Rattle.clap.proofs.OnLiterals.{clap_on_literals}
use Rattle.roster_values.specs.declared.command.Command.{Command}
use Rattle.roster_values.specs.declared.command.Command.TheVariants as commands
use Rattle.roster_cli_arguments.specs.Line.{roster_app, command_name, spelling, workers_asked}
use Rattle.clap.specs.declared.error.kind.ErrorKind.TheVariants.{MissingSubcommand, DisplayHelp, ValueValidation}
use Rattle.roster_cli_arguments.proofs.Workers.{asked_is, has_workers}
use Rattle.roster_cli_arguments.proofs.line.read_line.Given as given
use Rattle.roster_cli_arguments.proofs.line.read_line.Goals.{In-Ok}
use Rattle.roster_cli_arguments.proofs.line.read_line.Goals as goal

-- the program's command line is one of which clap says exactly what it refuses
is_free : is_simple_and_free roster_app ≡ true
unfolding clap_on_literals
is_free = refl

pub returns-in-Err-clause-taken : goal.returns-in-Err-clause-taken
returns-in-Err-clause-taken g c = λ command takes_words names. c.refusal.ensures.memory
    (c.in-Err.ensures.passes
    (ap (λ app. takes app (map g.S.AsStr.text c.args.words.now)) c.in_ok-command.ensures.app ∙ takes_words))

-- what clap gives matches of has no fault
faultless : (g : given.Over) (c : In-Ok g) → fault_of roster_app (map g.S.AsStr.text c.args.words.now) ≡ []
faultless g c =
    ap (λ app. fault_of app (map g.S.AsStr.text c.args.words.now)) (sym c.in_ok-command.ensures.app)
    ∙ c.in-Ok.ensures.kinds (ap is_simple_and_free c.in_ok-command.ensures.app ∙ is_free)

-- the matches of `solve` have the number of workers that the words ask for
is_whole : is_simple roster_app ≡ true
unfolding clap_on_literals
is_whole = refl

pub workers-requires : goal.workers-requires
workers-requires g c =
    let words = map g.S.AsStr.text c.args.words.now in
    let same = (subst (λ app. HasMatchesOf app words c.in-Ok.matches) c.in_ok-command.ensures.app c.in-Ok.ensures.ok.2 is_whole).1 in
    let name : command_name words ≡ Some (codes "solve") = search rules in
    has_workers c.in-Ok.matches words (faultless g (goal.at.workers-requires g c).In-Ok) same name

pub returns-in-Some-solve-clause-workers : goal.returns-in-Some-solve-clause-workers
returns-in-Some-solve-clause-workers g c =
    let words = map g.S.AsStr.text c.args.words.now in
    let same = (subst (λ app. HasMatchesOf app words c.in-Ok.matches) c.in_ok-command.ensures.app c.in-Ok.ensures.ok.2 is_whole).1 in
    let name : command_name words ≡ Some (codes "solve") = search rules in
    let has =
    has_workers c.in-Ok.matches words
    (faultless g (goal.at.returns-in-Some-solve-clause-workers g c).In-Ok) same name in
    c.workers.ensures.value has.0 has.1 ∙ asked_is c.in-Ok.matches words has.0 same has.1

pub returns-in-Some-solve-clause-faultless : goal.returns-in-Some-solve-clause-faultless
returns-in-Some-solve-clause-faultless g c =
    faultless g (goal.at.returns-in-Some-solve-clause-faultless g c).In-Ok

pub returns-in-Some-check-clause-faultless : goal.returns-in-Some-check-clause-faultless
returns-in-Some-check-clause-faultless g c =
    faultless g (goal.at.returns-in-Some-check-clause-faultless g c).In-Ok

pub returns-in-Some-replay-clause-faultless : goal.returns-in-Some-replay-clause-faultless
returns-in-Some-replay-clause-faultless g c =
    faultless g (goal.at.returns-in-Some-replay-clause-faultless g c).In-Ok

-- the clauses speak of words that there are: the program's name and a command's are taken and name that command,
taken : (command : Command) → (takes roster_app (codes "roster" ∷ spelling command ∷ []) ≡ true) × (command_name (codes "roster" ∷ spelling command ∷ []) ≡ Some (spelling command))
unfolding clap_on_literals
taken commands.Solve = (refl, refl)
taken commands.Check = (refl, refl)
taken commands.Replay = (refl, refl)

-- and no command, or a call for help, is refused as such
told_missing : fault_of roster_app (codes "roster" ∷ []) ≡ MissingSubcommand ∷ []
unfolding clap_on_literals
told_missing = refl

told_help : fault_of roster_app (codes "roster" ∷ codes "--help" ∷ []) ≡ DisplayHelp ∷ []
unfolding clap_on_literals
told_help = refl

-- the number of workers is that in the words, and 1 where they give none; past its limits it is refused as such
abbrev with_workers : List ℕ → List (List ℕ)
with_workers number = codes "roster" ∷ codes "solve" ∷ codes "--workers" ∷ number ∷ []

asked : (takes roster_app (with_workers (codes "64")) ≡ true)
    × (workers_asked commands.Solve (with_workers (codes "64")) ≡ 64)
unfolding clap_on_literals
asked = (refl, refl)

unasked : workers_asked commands.Solve (codes "roster" ∷ codes "solve" ∷ []) ≡ 1
unfolding clap_on_literals
unasked = refl

told_past : (fault_of roster_app (with_workers (codes "65")) ≡ ValueValidation ∷ [])
    × (fault_of roster_app (with_workers (codes "0")) ≡ ValueValidation ∷ [])
unfolding clap_on_literals
told_past = (refl, refl)

pub returns-in-Err-clause-kind : goal.returns-in-Err-clause-kind
returns-in-Err-clause-kind g c =
    λ _. c.refusal.ensures.kept (fault_of roster_app (map g.S.AsStr.text c.args.words.now))
    (subst (λ app. HasKind (fault_of app (map g.S.AsStr.text c.args.words.now)) c.in-Err.error) c.in_ok-command.ensures.app
    (c.in-Err.ensures.kinds (ap is_simple_and_free c.in_ok-command.ensures.app ∙ is_free)))
