-- The instants of a window's hours lie in the range of `jiff` and of minutes.
use Rattle.std.proofs.Common.{◌≡◌, ◌∙◌, ap, ℕ, ◌*◌, ◌<◌, ◌≤◌, ℤ, pos, negsuc, ◌≤ℤ◌, to_z, of_z, w64, Result, Ok, IsOk, arith, subst}
use Rattle.std.specs.Prelude.{int_div}
use Rattle.std.proofs.lemmas.Int.{ints}
use Rattle.std.proofs.lemmas.Result.{IfOk-at_ok}
use Rattle.jiff_core.proofs.SignedLemmas.{signed_arith}
use Rattle.jiff_core.specs.Date.{epoch_day}
use Rattle.jiff_core.specs.Time.{time_nanos}
use Rattle.jiff_core.specs.declared.error.Error.{Error}
use Rattle.jiff_core.specs.declared.offset.Offset.{Offset}
use Rattle.jiff_core.specs.declared.timestamp.Timestamp.{Timestamp}
use Rattle.jiff_core.specs.declared.civil.datetime.DateTime.{DateTime}
use Rattle.jiff_tz.specs.Ambiguous.{IsInstantAt, compatible_offset, instant_of}
use Rattle.jiff_tz.specs.PosixText.{TzText}
use Rattle.jiff_tz.specs.Zone.{ambiguous_at}
use Rattle.jiff_tz.specs.declared.timezone.TimeZone.{TimeZone}
use Rattle.roster_model.specs.Clocks.{second_at}
use Rattle.roster_instants.proofs.MarkLemmas.{nanos}
use Rattle.roster_instants.proofs.ClockLemmas.{moment_nanos, instant_of_rule}
use Rattle.roster_instants.specs.declared.clocks.TheConstants.{FIRST_DAY, LAST_DAY}
use Rattle.roster_instants.specs.Rule.{IsRule, rule_of}

-- the datetime shows this hour of this day, which a window may hold
pub record IsHour (dt : DateTime) (day hour : ℕ) : Type 0 where
  pub date : epoch_day dt.date ≡ pos day
  pub time : time_nanos dt.time ≡ hour * 3_600_000_000_000
  pub from : FIRST_DAY ≤ day
  pub to : day ≤ LAST_DAY
  pub within : hour < 24

-- its instant by any offset lies between 1970 and 9999
pub instant_bounds : (dt : DateTime) (offset : Offset) (day hour : ℕ) → IsHour dt day hour
    → (pos 0 ≤ℤ instant_of dt offset) × (instant_of dt offset ≤ℤ nanos (pos 253_400_000_000))
instant_bounds dt offset day hour is =
    let at = moment_nanos dt day hour is.date is.time in
    let from = is.from in
    let to = is.to in
    let within = is.within in
    rw at (omega (arith, signed_arith, offset.in_range), omega (arith, signed_arith, offset.in_range))

pub converts : (zone : TimeZone) (dt : DateTime) (day hour : ℕ) (r : Result Timestamp Error)
    → IsHour dt day hour
    → IsInstantAt dt (compatible_offset (ambiguous_at zone dt)) r → IsOk r
converts zone dt day hour r is at =
    let bounds = instant_bounds dt (compatible_offset (ambiguous_at zone dt)) day hour is in
    at.succeeds.1 (omega (arith, signed_arith, bounds.0), omega (arith, signed_arith, bounds.1))

-- a whole second that isn't negative, in whole seconds
whole_second : (s n : ℤ) → pos 0 ≤ℤ nanos s → n ≡ int_div (nanos s) (pos 1_000_000_000) → n ≡ s
whole_second (pos k) n h e = omega (arith, signed_arith)
whole_second (negsuc k) n h e = absurd (omega (arith, signed_arith))

-- the seconds of the instant
pub record IsSecond (view : TzText) (day hour : ℕ) (n : ℤ) : Type 0 where
  pub second : ℕ
  pub seconds : n ≡ pos second
  pub is : second_at view day hour ≡ pos second
  pub most : second ≤ 253_400_000_000

natural : (view : TzText) (day hour : ℕ) (s n : ℤ) → n ≡ s → second_at view day hour ≡ s → pos 0 ≤ℤ nanos s
    → nanos s ≤ℤ nanos (pos 253_400_000_000) → IsSecond view day hour n
natural view day hour (pos k) n same is low high =
    record { second = k; seconds = same; is = is; most = omega (arith, signed_arith) }
natural view day hour (negsuc k) n same is low high = absurd (omega (arith, signed_arith))

pub second_of : (zone : TimeZone) (view : TzText) (dt : DateTime) (day hour : ℕ) (r : Result Timestamp Error)
    (t : Timestamp) (n : ℤ)
    → IsRule zone → view ≡ rule_of zone → IsHour dt day hour
    → IsInstantAt dt (compatible_offset (ambiguous_at zone dt)) r → r ≡ Ok t
    → n ≡ int_div t.nanosecond (pos 1_000_000_000) → IsSecond view day hour n
second_of zone view dt day hour r t n rule same is at ok e =
    let instant = IfOk-at_ok (λ (x : Timestamp). x.nanosecond ≡ instant_of dt (compatible_offset (ambiguous_at zone dt))) ok at.value in
    let law = instant_of_rule zone dt day hour rule is.date is.time is.to in
    let bounds = instant_bounds dt (compatible_offset (ambiguous_at zone dt)) day hour is in
    let s = second_at (rule_of zone) day hour in
    let low : pos 0 ≤ℤ nanos s = let P : ℤ → Type 0 = λ x. pos 0 ≤ℤ x in subst P law bounds.0 in
    let high : nanos s ≤ℤ nanos (pos 253_400_000_000) = let Q : ℤ → Type 0 = λ x. x ≤ℤ nanos (pos 253_400_000_000) in subst Q law bounds.1 in
    let whole = whole_second s n low (e ∙ ap (λ x. int_div x (pos 1_000_000_000)) (instant ∙ law)) in
    natural view day hour s n whole (ap (λ z. second_at z day hour) same) low high

-- it stays what it is in a signed type
pub second_back : (n : ℤ) (k : ℕ) → n ≡ pos k → k ≤ 253_400_000_000 → to_z w64 (of_z w64 n) ≡ pos k
second_back n k same most = omega (arith, ints)
