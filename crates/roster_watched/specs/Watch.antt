-- What a clause reads of a watched reader or writer.
use Rattle.std.specs.Prelude.{Bool}
use Rattle.roster_watched.specs.declared.watched.Watched.{Watched}

-- the reader or writer inside
abbrev pub inner_of : {D : Type 0} → Watched D → D
inner_of w = w.inner

-- whether it has failed since it was made
abbrev pub has_failed : {D : Type 0} → Watched D → Bool
has_failed w = w.failed

-- whether it was flushed, and no write was asked of it since
abbrev pub is_flushed : {D : Type 0} → Watched D → Bool
is_flushed w = w.flushed
