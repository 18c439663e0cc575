-- The lines of a table as those of a region.
use Prim.Native.Nat.{◌∣◌}
use Rattle.std.specs.Prelude.{ℕ, List, map, take, drop, get_or, length, slice_index_or, ◌<◌, ℤ, pos, ◌-ℤ◌, ◌*ℤ◌, unsigned_abs, All}
use Rattle.roster_cost.specs.Amounts.{IsWithin}
use Rattle.roster_lines_table.specs.Entries.{Entry, costs_of}
use Rattle.roster_search_regions.specs.declared.choice.TheConstants.{MOST_EXTRA}
use Rattle.roster_search_regions.specs.Regions.{AllowedLine, allowed}

-- what an entry costs more than the first of them
abbrev pub extra_in : List Entry → Entry → ℤ
extra_in entries entry = entry.cost -ℤ slice_index_or (costs_of entries) 0 (pos 0)

-- an entry's line, with what it costs more than the first one, at so many parts a cost unit
abbrev pub allowed_in : ℕ → List Entry → Entry → AllowedLine
allowed_in scale entries entry = allowed entry.set (pos scale *ℤ extra_in entries entry)

-- the lines of the entries from one number up to another, which isn't one of them
abbrev pub allowed_between : ℕ → List Entry → ℕ → ℕ → List AllowedLine
allowed_between scale entries low high = map (allowed_in scale entries) (drop low (take high entries))

-- no entry costs so much more than the first one, or less, that it can't be counted in such parts
abbrev pub AreCounted : ℕ → List Entry → Type 0
AreCounted scale entries = All (λ entry. IsWithin MOST_EXTRA (pos scale *ℤ extra_in entries entry)) entries

-- none of the first so many entries costs more than the first one, or less, by more than a limit
abbrev pub AreNearBefore : ℕ → ℕ → List Entry → Type 0
AreNearBefore limit high entries =
    (i : ℕ) (d : Entry) → i < high → i < length entries
    → IsWithin limit (extra_in entries (get_or entries i d))

-- none of them costs so much more, or less, that it can't be counted in such parts
abbrev pub AreCountedBefore : ℕ → ℕ → List Entry → Type 0
AreCountedBefore scale high entries =
    (i : ℕ) (d : Entry) → i < high → i < length entries
    → IsWithin MOST_EXTRA (pos scale *ℤ extra_in entries (get_or entries i d))

-- what each of the first so many entries costs more than the first one, or less, is divided by the number
abbrev pub AreDividedBefore : ℕ → ℕ → List Entry → Type 0
AreDividedBefore unit high entries =
    (i : ℕ) (d : Entry) → i < high → i < length entries
    → unit ∣ unsigned_abs (extra_in entries (get_or entries i d))
