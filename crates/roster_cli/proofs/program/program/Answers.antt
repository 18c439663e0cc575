use Rattle.std.proofs.Common.{◌≡◌, ◌≢◌, ◌⊎◌, [], IfOk, Some, map, true, refl, sym, ◌∙◌, subst, string_bytes}
use Rattle.std.specs.Process.{exit_status}
use Rattle.clap.specs.Words.{fault_of, takes}
use Rattle.roster_values.specs.declared.command.Command.{Command}
use Rattle.roster_cli_arguments.specs.Line.{roster_app, command_name, spelling}
use Rattle.roster_cli_arguments.specs.declared.line.LineFault.TheVariants.{Memory}
use Rattle.roster_cli.specs.Program.{Asks, texts_of}
use Rattle.roster_cli.proofs.Ends.{differ, is_answered, is_refused}
use Rattle.roster_cli.proofs.program.program.Given as given
use Rattle.roster_cli.proofs.program.program.Goals.{In-Ok-read_line}
use Rattle.roster_cli.proofs.program.program.Goals as goal

-- the words name the command that is handed on
asks : (g : given.Over) (c : In-Ok-read_line g) → Asks c.args.words c.in-Ok-read_line.command
asks g c =
    let named : command_name (texts_of c.in-Ok.words) ≡ Some (spelling c.in-Ok-read_line.command) =
    subst (λ words. command_name (map string_bytes words) ≡ Some (spelling c.in-Ok-read_line.command)) c.as_slice.ensures.value c.in-Ok-read_line.ensures.command in
    subst (λ words. Asks words c.in-Ok-read_line.command) (sym c.in-Ok.is) named

pub returns-in-Ok-read_line-clause-answered : goal.returns-in-Ok-read_line-clause-answered
returns-in-Ok-read_line-clause-answered g c = λ ends.
    (c.in-Ok-read_line.command, asks g (goal.at.returns-in-Ok-read_line-clause-answered g c).In-Ok-read_line, c.run-status.ensures.answered (is_answered _ (sym c.ended.ensures.number ∙ ends)))

pub returns-in-Ok-read_line-clause-refused : goal.returns-in-Ok-read_line-clause-refused
returns-in-Ok-read_line-clause-refused g c = λ ends.
    (c.in-Ok-read_line.command, asks g (goal.at.returns-in-Ok-read_line-clause-refused g c).In-Ok-read_line, c.run-status.ensures.refused (is_refused _ (sym c.ended.ensures.number ∙ ends)))

pub returns-in-Ok-read_line-clause-part : goal.returns-in-Ok-read_line-clause-part
returns-in-Ok-read_line-clause-part g c = λ failed.
    (c.in-Ok-read_line.command, asks g (goal.at.returns-in-Ok-read_line-clause-part g c).In-Ok-read_line, c.run-status.ensures.part (c.run-status.ensures.write_failed.1 failed))

pub returns-in-Ok-read_line-clause-faults : goal.returns-in-Ok-read_line-clause-faults
returns-in-Ok-read_line-clause-faults g c =
    let none : fault_of roster_app (texts_of c.in-Ok.words) ≡ [] =
    subst (λ words. fault_of roster_app (map string_bytes words) ≡ []) c.as_slice.ensures.value c.in-Ok-read_line.ensures.faultless in
    subst (λ words. IfOk words (λ words. fault_of roster_app (texts_of words) ≢ [] → (exit_status c.ended.result ≡ 2) ⊎ (exit_status c.ended.result ≡ 3))) (sym c.in-Ok.is) (λ faults. absurd (faults none))

pub returns-clause-taken : goal.returns-clause-taken
returns-clause-taken g c =
    let told : (command : Command) → takes roster_app (texts_of c.in-Ok.words) ≡ true → command_name (texts_of c.in-Ok.words) ≡ Some (spelling command) → c.in-Err-read_line.fault ≡ Memory =
    subst (λ words. (command : Command) → takes roster_app (map string_bytes words) ≡ true → command_name (map string_bytes words) ≡ Some (spelling command) → c.in-Err-read_line.fault ≡ Memory) c.as_slice.ensures.value c.in-Err-read_line.ensures.taken in
    subst (λ words. IfOk words (λ words. (command : Command) → takes roster_app (texts_of words) ≡ true → command_name (texts_of words) ≡ Some (spelling command) → exit_status c.unasked.result ≢ 2)) (sym c.in-Ok.is)
    (λ command good names two. differ 3 2 refl (sym (c.unasked.ensures.memory (told command good names)) ∙ two))
