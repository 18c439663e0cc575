-- What the bytes of a field must look like.
use Rattle.std.specs.Prelude.{ℕ, Bool, ◌&&◌, ◌||◌, ◌==◌, if◌then◌else◌, List, drop, length, ℤ, pos, int_le, slice_index, slice_range}
use Rattle.std.specs.Cmp.Lexicographic.{pointwise}
use Rattle.std.specs.Char.{is_ascii_digit, is_ascii_alphanumeric, is_ascii_graphic}
use Rattle.std.specs.Int.{is_in_range}
use Rattle.std.specs.List.{list_all}
use Rattle.roster_model.specs.declared.limits.TheConstants.{MOST_NAME_BYTES, MOST_DIGITS, MOST_ZONE_BYTES}
use Rattle.std.specs.Str.Parse.{starts_with_minus, digits_value, signed_digits_value}

-- an ASCII letter or digit, `_` or `-`
abbrev pub is_identifier_byte : ℕ → Bool
is_identifier_byte c = is_ascii_alphanumeric c || (c == 95) || (c == 45)

-- such bytes, as many as a name may have, of which the first is a letter or a digit
unfoldable pub is_identifier : List ℕ → Bool
is_identifier text =
    is_in_range 1 MOST_NAME_BYTES (length text) && is_ascii_alphanumeric
    (slice_index text 0) && list_all is_identifier_byte text

-- what follows a minus, or the whole text
abbrev pub unsigned_part : List ℕ → List ℕ
unsigned_part text = if starts_with_minus text then drop 1 text else text

-- a minus that may be left out, and as many digits as a number may have
unfoldable pub is_number : List ℕ → Bool
is_number text =
    is_in_range 1 MOST_DIGITS (length (unsigned_part text)) && list_all is_ascii_digit (unsigned_part text)

-- the number that such a text spells
unfoldable pub number_of : List ℕ → ℤ
number_of text = signed_digits_value 10 text

-- the number is one from 0 to most
abbrev pub is_amount : ℕ → ℤ → Bool
is_amount most z = int_le (pos 0) z && int_le z (pos most)

-- visible ASCII bytes, as many as a zone text may have
unfoldable pub is_zone_text : List ℕ → Bool
is_zone_text text = is_in_range 1 MOST_ZONE_BYTES (length text) && list_all is_ascii_graphic text

-- a digit where the shape has `0`, and else the shape's own byte
abbrev pub fits_shape : ℕ → ℕ → Bool
fits_shape s c = if s == 48 then is_ascii_digit c else (c == s)

-- the text has the shape, byte by byte
abbrev pub has_shape : List ℕ → List ℕ → Bool
has_shape shape text = pointwise fits_shape shape text

-- the number that the digits from place a up to b spell
abbrev pub number_at : List ℕ → ℕ → ℕ → ℕ
number_at text a b = digits_value 10 (slice_range text a b)
