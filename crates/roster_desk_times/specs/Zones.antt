-- What may be the name of a zone.
use Rattle.std.specs.Prelude.{◌==◌, ◌&&◌, ◌||◌, ℕ, Bool, List, codes, length, not}
use Rattle.std.specs.Char.{is_ascii_alphanumeric}
use Rattle.std.specs.List.{list_all, list_any, slice_split}

-- a letter, a digit, or one of these
abbrev pub is_of_names : ℕ → Bool
is_of_names byte = is_ascii_alphanumeric byte || list_any (λ other. other == byte) (codes "/_-+")

-- something stands between any two slashes, before the first and behind the last one
abbrev pub has_no_empty_part : List ℕ → Bool
has_no_empty_part text = list_all (λ part. not (length part == 0)) (slice_split (λ byte. byte == 47) text)

-- Such a path has no . in it, and doesn't begin at the root: so it never leads out of a folder.
abbrev pub is_zone_name : List ℕ → Bool
is_zone_name text = list_all is_of_names text && has_no_empty_part text
