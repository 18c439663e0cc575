-- The leave rule over a part of a duty list.
use Rattle.std.proofs.Common.{Bool, List}
use Rattle.std.specs.Prelude.{filter}
use Rattle.std.proofs.lemmas.List.Elements.{All-filter}
use Rattle.roster_model.specs.records.Duty.{Duty}
use Rattle.roster_model.specs.records.Leave.{Leave}
use Rattle.roster_model.specs.Rules.Leave.{IsOffLeave, KeepsLeave}

pub KeepsLeave-filter : (leaves : List Leave) (test : Duty → Bool) (list : List Duty) → KeepsLeave leaves list
    → KeepsLeave leaves (filter test list)
KeepsLeave-filter leaves test list keeps = All-filter test (IsOffLeave leaves) list keeps
