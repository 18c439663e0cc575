-- A base at UTC: each local day is a day of 1440 minutes.
use Rattle.std.proofs.Common.{◌≡◌, ◌∙◌, ap, refl, ℕ, ◌+◌, ◌*◌, ◌%◌, ◌<◌, pos, Bool, true, List, [], ◌∷◌, map, Some, None, Ok, codes, arith}
use Rattle.std.specs.List.{list_all, range_with_len}
use Rattle.std.proofs.lemmas.Bool.{and_from, lt-ltb}
use Rattle.jiff_core.proofs.SignedLemmas.{signed_arith}
use Rattle.jiff_tz.proofs.OnLiterals.{jiff_tz_on_literals}
use Rattle.jiff_tz.specs.PosixReader.{read_whole, tz_text}
use Rattle.jiff_tz.specs.PosixText.{TzText}
use Rattle.roster_model.specs.Calendar.{Period, days_of_window, first_day}
use Rattle.roster_model.specs.Clocks.{second_at, offset_at, is_minute_at, minute_at}
use Rattle.roster_model.specs.Zone.{days_of_zone, days_by_rule, has_minutes, rises, rises_on, days_shown, instants_at}
use Rattle.roster_instants.specs.Laws.{IsPlainAtUtc, utc_days, utc_instants}

abbrev utc : TzText
utc = tz_text (codes "UTC") (pos 0) None

utc_read : read_whole (codes "UTC0") ≡ Some utc
unfolding jiff_tz_on_literals
utc_read = refl

utc_second : (day hour : ℕ) → second_at utc day hour ≡ pos (day * 86_400 + hour * 3_600)
unfolding second_at offset_at
utc_second day hour = omega (arith, signed_arith)

pub utc_minute : (day hour : ℕ) → minute_at utc day hour ≡ day * 1440 + hour * 60
utc_minute day hour = rw (utc_second day hour) (omega arith)

utc_whole : (day hour : ℕ) → is_minute_at utc day hour ≡ true
utc_whole day hour =
    let none : (day * 86_400 + hour * 3_600) % 60 ≡ 0 = omega arith in
    rw (utc_second day hour, none) refl

utc_rises : (day : ℕ) → rises_on utc day ≡ true
utc_rises day =
    let morning : day * 1440 + 0 * 60 < day * 1440 + 8 * 60 = omega arith in
    let evening : day * 1440 + 8 * 60 < day * 1440 + 22 * 60 = omega arith in
    let night : day * 1440 + 22 * 60 < (day + 1) * 1440 + 0 * 60 = omega arith in
    rw (utc_minute day 0, utc_minute day 8, utc_minute day 22, utc_minute (day + 1) 0)
    (and_from _ _ (and_from _ _ (lt-ltb _ _ morning) (lt-ltb _ _ evening)) (lt-ltb _ _ night))

-- what holds of every number holds of each in a list
all_always : (test : ℕ → Bool) → ((k : ℕ) → test k ≡ true) → (ks : List ℕ) → list_all test ks ≡ true
all_always test holds [] = refl
all_always test holds (k ∷ ks) = and_from _ _ (holds k) (all_always test holds ks)

map_alike : (f g : ℕ → ℕ) → ((k : ℕ) → f k ≡ g k) → (ks : List ℕ) → map f ks ≡ map g ks
map_alike f g same [] = refl
map_alike f g same (k ∷ ks) = rw (same k, map_alike f g same ks) refl

utc_are : (day n hour minute : ℕ) → hour * 60 ≡ minute
    → instants_at utc hour day n ≡ utc_instants minute day n
utc_are day n hour minute same =
    map_alike (λ d. minute_at utc d hour) (λ d. d * 1440 + minute)
    (λ d. utc_minute d hour ∙ ap (λ m. d * 1440 + m) same) (range_with_len day n)

utc_table : (period : Period) → days_shown period utc ≡ utc_days period
utc_table period =
    let first = first_day period in
    let n = days_of_window period in
    rw (utc_are first (n + 1) 0 0 refl, utc_are first n 8 480 refl, utc_are first n 22 1320 refl) refl

utc_has_minutes : (period : Period) → has_minutes period utc ≡ true
utc_has_minutes period =
    let each = λ (hour n : ℕ). all_always (λ d. is_minute_at utc d hour) (λ d. utc_whole d hour) (range_with_len (first_day period) n) in
    and_from _ _ (and_from _ _ (each 0 (days_of_window period + 1)) (each 8 (days_of_window period)))
    (each 22 (days_of_window period))

utc_all_rise : (period : Period) → rises period utc ≡ true
utc_all_rise period =
    all_always (λ d. rises_on utc d) utc_rises (range_with_len (first_day period) (days_of_window period))

utc_rule : (period : Period) → days_by_rule period utc ≡ Ok (utc_days period)
unfolding days_by_rule
utc_rule period = rw (utc_has_minutes period, utc_all_rise period) (ap (λ d. Ok d) (utc_table period))

pub plain_at_utc : IsPlainAtUtc
unfolding days_of_zone
plain_at_utc period = rw utc_read (utc_rule period)
