-- When records that come one by one are without a fault, and what then decides.
use Rattle.std.proofs.Common.{◌≡◌, ◌+◌, ◌<◌, List, [], ◌∷◌, ◌++◌, length, Option, Some, None, refl, sym, ap, ◌∙◌, append_assoc, length-append, arith}
use Rattle.std.proofs.lemmas.List.{append-nil}
use Rattle.roster_model.specs.Record.{Record, Command, next_row}
use Rattle.roster_model.specs.Code.{Code, NoPeriod}
use Rattle.roster_model.specs.Faults.{IsFaultlessSoFar, IsFaultlessAfter, code_of, fault_at, fault_or, first_fault, first_fault_after, missing_duty}

-- one more record without a fault
pub faultless-more : (command : Command) (before records : List Record) (fields : Record)
    → IsFaultlessAfter command before records → code_of command (before ++ records) fields ≡ None
    → IsFaultlessAfter command before (records ++ fields ∷ [])
faultless-more command before [] fields h e = (rw append-nil at e, tt)
faultless-more command before (first ∷ rest) fields h e =
    (h.0, faultless-more command (before ++ first ∷ []) rest fields h.1 (rw append_assoc e))

-- what comes after records without a fault decides alone
first_fault_after-faultless : (command : Command) (before records rest : List Record)
    → IsFaultlessAfter command before records
    → first_fault_after command before (records ++ rest) ≡ first_fault_after command (before ++ records) rest
unfolding first_fault_after
first_fault_after-faultless command before [] rest h = rw append-nil refl
first_fault_after-faultless command before (first ∷ records) rest h =
    ap (λ (code : Option Code). fault_or code (next_row before) (first_fault_after command (before ++ first ∷ []) (records ++ rest))) h.0
    ∙ first_fault_after-faultless command (before ++ first ∷ []) records rest h.1
    ∙ ap (λ (b : List Record). first_fault_after command b rest) (append_assoc before (first ∷ []) records)

-- the first fault of a book with a record is that of its records
first_fault-is-after : (command : Command) (records : List Record) → 0 < length records
    → first_fault command records ≡ first_fault_after command [] records
unfolding first_fault
first_fault-is-after command [] some = absurd (omega arith)
first_fault-is-after command (fields ∷ rest) some = refl

-- the first fault, at a record after others without one
pub first_fault-at : (command : Command) (seen : List Record) (fields : Record) (rest : List Record)
    (code : Code)
    → IsFaultlessSoFar command seen → code_of command seen fields ≡ Some code
    → first_fault command (seen ++ fields ∷ rest) ≡ Some (fault_at (length seen + 1) code)
unfolding first_fault_after
first_fault-at command seen fields rest code faultless e =
    first_fault-is-after command (seen ++ fields ∷ rest) (rw length-append (omega arith))
    ∙ first_fault_after-faultless command [] seen (fields ∷ rest) faultless
    ∙ ap (λ (o : Option Code). fault_or o (next_row seen) (first_fault_after command (seen ++ fields ∷ []) rest)) e

-- the same if no record has one
pub first_fault-at-end : (command : Command) (records : List Record) → IsFaultlessSoFar command records
    → 0 < length records
    → first_fault command records ≡ missing_duty records
unfolding first_fault_after
first_fault-at-end command records faultless some =
    first_fault-is-after command records some
    ∙ ap (first_fault_after command []) (sym (append-nil records))
    ∙ first_fault_after-faultless command [] records [] faultless

-- the same if there is no record
pub first_fault-of-none : (command : Command) → first_fault command [] ≡ Some (fault_at 1 NoPeriod)
unfolding first_fault
first_fault-of-none command = refl
