-- How the desk's program ends.
use Rattle.std.specs.Prelude.{ℕ, List, Option, Some, None, codes}
use Rattle.roster_desk_given.specs.declared.status.Status.{Status}
use Rattle.roster_desk_given.specs.declared.status.Status.TheVariants as statuses

-- the exit status of each outcome
abbrev pub exit_number : Status → ℕ
exit_number statuses.Answered = 0
exit_number statuses.Refused = 1
exit_number (statuses.StartRefused line wrong) = 1
exit_number statuses.Memory = 3
exit_number statuses.ReadFailed = 4
exit_number statuses.WriteFailed = 4
exit_number statuses.Closed = 4

-- What standard error is told before the line feed; none if nothing is. Of a report that is refused whoever has its path
-- tells.
abbrev pub message_text : Status → Option (List ℕ)
message_text statuses.Answered = None
message_text statuses.Refused = None
message_text (statuses.StartRefused line wrong) = None
message_text statuses.Memory = Some (codes "error: memory")
message_text statuses.ReadFailed = Some (codes "error: read")
message_text statuses.WriteFailed = Some (codes "error: write")
message_text statuses.Closed = None
