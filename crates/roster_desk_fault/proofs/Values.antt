-- Faults that are told as values.
use Rattle.std.proofs.Common.{◌≡◌, ◌+◌, ◌<◌, ◌∙◌, ◌++◌, ◌∷◌, [], List, arith}
use Rattle.std.specs.List.{AllZip}
use Rattle.roster_desk_fault.specs.Firsts.{BeginsAt, IsValue, MayBeFirst}
use Rattle.roster_desk_fault.specs.declared.judging.Fault.{Fault}
use Rattle.roster_desk_fault.specs.declared.judging.First.{First}
use Rattle.roster_desk_fault.specs.declared.judging.Told.{Told}

pub one_more_value : (told : List Told) (faults : List Fault) (x : Told) (y : Fault)
    → AllZip IsValue told faults → IsValue x y → AllZip IsValue (told ++ x ∷ []) (faults ++ y ∷ [])
one_more_value [] [] x y are is = (is, tt)
one_more_value [] (f ∷ faults) x y are is = absurd are
one_more_value (t ∷ told) [] x y are is = absurd are
one_more_value (t ∷ told) (f ∷ faults) x y are is = (are.0, one_more_value told faults x y are.1 is)

pub first_value : (first : First) (told : List Told) (faults : List Fault) → first.row < 18446744073709551616
    → BeginsAt first told → AllZip IsValue told faults → MayBeFirst first.row first.code faults
first_value first [] [] fits begins are = tt
first_value first [] (f ∷ faults) fits begins are = absurd are
first_value first (t ∷ told) [] fits begins are = tt
first_value first (t ∷ told) (f ∷ faults) fits begins are =
    let row : f.row ≡ t.at + 1 = are.0.row (omega (arith, fits, begins.0)) in
    (row ∙ begins.0, are.0.code ∙ begins.1)
