-- What a `jiff` zone that was read from a text says.
use Rattle.std.specs.Prelude.{[], None, pos}
use Rattle.jiff_tz.specs.PosixReader.{tz_text}
use Rattle.jiff_tz.specs.PosixText.{TzText, tz_view}
use Rattle.jiff_tz.specs.declared.timezone.TimeZone.{TimeZone}
use Rattle.jiff_tz.specs.declared.timezone.TimeZone.TheVariants.{Posix}

-- the zone follows a rule
abbrev pub IsRule : TimeZone → Type 0
IsRule (Posix rule) = Unit {0}
IsRule zone = ⊥

-- the rule that it follows; of a zone that follows none nothing is asked
abbrev pub rule_of : TimeZone → TzText
rule_of (Posix rule) = tz_view rule
rule_of zone = tz_text [] (pos 0) None
