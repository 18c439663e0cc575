-- What a clause reads of files.
use Rattle.std.specs.Prelude.{◌≡◌, ℕ, Bool, List, true}
use Rattle.roster_desk_program.specs.declared.files.Files.{Files}
use Rattle.roster_desk_program.specs.declared.files.Unread.{Unread}
use Rattle.roster_desk_program.specs.declared.files.Unread.TheVariants as faults

-- who has them
abbrev pub shelf_of : {S : Type 0} → Files S → S
shelf_of files = files.shelf

-- whether one couldn't be opened, read or put
abbrev pub has_missed : {S : Type 0} → Files S → Bool
has_missed files = files.failed

-- Why the file at the path wasn't opened. One that can't be opened counts as failed, and isn't known to open.
-- Want of memory is told only if it may run out, and leaves the count as it was.
abbrev pub IsUnopened : {S : Type 0} → (S → List ℕ → Type 0) → (S → List ℕ → Type 0) → List ℕ
    → Files S → Files S → Unread → Type 0
IsUnopened must_open may_lack path old new faults.Unopened =
    (has_missed new ≡ true) × ¬ must_open (shelf_of old) path
IsUnopened must_open may_lack path old new faults.Memory =
    (has_missed new ≡ has_missed old) × may_lack (shelf_of old) path
IsUnopened must_open may_lack path old new faults.Broken = ⊥
IsUnopened must_open may_lack path old new faults.TooLong = ⊥
