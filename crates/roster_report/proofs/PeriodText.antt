-- A month as it is written.
use Rattle.std.proofs.Common.{◌≡◌, ◌/◌, ◌%◌, ◌<◌, ◌∷◌, ◌++◌, pos, append_assoc}
use Rattle.std.specs.Fmt.{decimal, signed_decimal}
use Rattle.std.specs.Int.{w8, w16, cast_signed, cast_unsigned}
use Rattle.std.proofs.lemmas.Int.{to_z-of_z, fits_signed_from_abs}
use Rattle.std.specs.Prelude.{unsigned_abs}
use Rattle.roster_model.specs.Calendar.{Period}
use Rattle.roster_model.specs.Texts.{period_text}

-- its year, a dash, and its two digits, where its numbers are read from an i16 and an i8
pub period_text-written : (period : Period) → period.year < 32768 → period.month < 128 → signed_decimal (cast_signed w16 (cast_unsigned w16 (pos period.year))) ++ 45 ∷ (decimal (unsigned_abs (cast_signed w8 (cast_unsigned w8 (pos period.month))) / 10) ++ decimal (unsigned_abs (cast_signed w8 (cast_unsigned w8 (pos period.month))) % 10)) ≡ period_text period
period_text-written period year month =
    rw (to_z-of_z w16 (pos period.year) (fits_signed_from_abs w16 (pos period.year) year), to_z-of_z w8 (pos period.month) (fits_signed_from_abs w8 (pos period.month) month)) simp append_assoc
