-- Short keys of names, by which most names are told apart.
use Rattle.std.specs.Prelude.{ℕ, ◌*◌, ◌^◌, ◌%◌, List, bit_or, map}
use Rattle.std.specs.List.{fold}

-- a name's last eight bytes as a number
unfoldable pub key_of_name : List ℕ → ℕ
key_of_name name = fold (λ key byte. bit_or (key * 2 ^ 8 % 2 ^ 64) byte) 0 name

-- the keys of entries' names; `id_of` gives the name of an entry
abbrev pub keys_of : {X : Type 0} → (X → List ℕ) → List X → List ℕ
keys_of id_of entries = map (λ entry. key_of_name (id_of entry)) entries
