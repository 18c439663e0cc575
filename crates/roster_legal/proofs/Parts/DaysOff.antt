-- The rule of days off over a part of a duty list.
use Rattle.std.proofs.Common.{◌≡◌, ℕ, ◌+◌, Bool, List}
use Rattle.std.specs.Prelude.{filter, slice_index}
use Rattle.std.proofs.lemmas.List.Elements.{All-filter}
use Rattle.roster_model.specs.Calendar.{Days, common}
use Rattle.roster_model.specs.records.Duty.{Duty}
use Rattle.roster_model.specs.Rules.DaysOff.{IsPairOff, KeepsDaysOff}

IsPairOff-filter : (days : Days) (test : Duty → Bool) (list : List Duty) (i : ℕ) → IsPairOff days list i
    → IsPairOff days (filter test list) i
IsPairOff-filter days test list i off = record {
  begins = off.begins;
  ends = off.ends;
  free = All-filter test (λ duty. common duty.report duty.release (slice_index days.mid i) (slice_index days.mid (i + 2)) ≡ 0) list off.free;
}

pub KeepsDaysOff-filter : (days : Days) (test : Duty → Bool) (list : List Duty) → KeepsDaysOff days list
    → KeepsDaysOff days (filter test list)
KeepsDaysOff-filter days test list keeps = record {
  first = keeps.first;
  second = keeps.second;
  apart = keeps.apart;
  once = IsPairOff-filter days test list keeps.first keeps.once;
  twice = IsPairOff-filter days test list keeps.second keeps.twice;
}
