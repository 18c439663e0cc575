-- How the definitions see this crate's values.
use Rattle.roster_values.specs.declared.command.Command.{Command}
use Rattle.roster_values.specs.declared.command.Command.TheVariants as commands
use Rattle.roster_values.specs.declared.rule.Limit.{Limit}
use Rattle.roster_values.specs.declared.rule.Limit.TheVariants as limits
use Rattle.roster_values.specs.declared.rule.Rule.{Rule}
use Rattle.roster_values.specs.declared.rule.Rule.TheVariants as rules
use Rattle.roster_values.specs.declared.step.Step.{Step}
use Rattle.roster_values.specs.declared.step.Step.TheVariants as steps
use Rattle.roster_model.specs.Rules as judged
use Rattle.roster_model.specs.Record as asked
use Rattle.roster_model.specs.records.Step as replayed

abbrev pub limit_of : Limit → judged.Limit
limit_of limits.Duty7 = judged.Duty7
limit_of limits.Duty14 = judged.Duty14
limit_of limits.Duty28 = judged.Duty28
limit_of limits.Flight28 = judged.Flight28
limit_of limits.FlightYear = judged.FlightYear
limit_of limits.Flight12 = judged.Flight12

abbrev pub rule_of : Rule → judged.Rule
rule_of rules.Base = judged.BaseRule
rule_of rules.Overlap = judged.OverlapRule
rule_of rules.Leave = judged.LeaveRule
rule_of rules.Rest = judged.RestRule
rule_of rules.Recovery = judged.RecoveryRule
rule_of rules.Duty7 = judged.LimitRule judged.Duty7
rule_of rules.Duty14 = judged.LimitRule judged.Duty14
rule_of rules.Duty28 = judged.LimitRule judged.Duty28
rule_of rules.Flight28 = judged.LimitRule judged.Flight28
rule_of rules.FlightYear = judged.LimitRule judged.FlightYear
rule_of rules.Flight12 = judged.LimitRule judged.Flight12
rule_of rules.Days2 = judged.DaysOffRule

abbrev pub command_of : Command → asked.Command
command_of commands.Solve = asked.Solve
command_of commands.Check = asked.Check
command_of commands.Replay = asked.Replay

abbrev pub step_of : Step → replayed.Step
step_of (steps.Take worker place) = replayed.Take worker place
step_of (steps.Halve worker) = replayed.Halve worker
step_of (steps.Descend worker) = replayed.Descend worker
step_of (steps.Back worker) = replayed.Back worker
step_of (steps.Search worker every) = replayed.Search worker every
