-- The clocks of a zone text are never as much as 26 hours ahead of UTC or behind it, so a month by them
-- is little longer than its days.
use Rattle.std.proofs.Common.{◌≡◌, ℕ, ◌+◌, ◌*◌, ◌/◌, ◌<◌, ◌≤◌, ℤ, pos, negsuc, neg_ℤ, ◌+ℤ◌, ◌-ℤ◌, ◌<ℤ◌, ◌≤ℤ◌, int_lt, unsigned_abs, Bool, true, false, not, ◌&&◌, ◌==◌, cond, nat_le, leb-true, List, length, Option, Some, None, refl, subst, arith}
use Rattle.std.specs.Prelude.{IfSome}
use Rattle.std.specs.Option.{option_and_then}
use Rattle.std.proofs.lemmas.Option.{IfSome_then}
use Rattle.jiff_core.proofs.SignedLemmas.{signed_arith}
use Rattle.jiff_tz.specs.PosixReader.{Read, at_most, begins, begins_name, read_abbreviation, read_byte, read_day_time, read_dst, read_exactly_two, read_minutes, read_after_minute, read_offset, read_sign, read_sixty, read_tz, read_up_to_two, read_whole, signed_by, tz_text}
use Rattle.jiff_tz.specs.PosixRule.{in_span, in_window, match_some}
use Rattle.jiff_tz.specs.PosixText.{DstText, TzText}
use Rattle.jiff_tz.specs.Year.{year_of_day}
use Rattle.roster_model.specs.declared.limits.TheConstants.{MOST_MONTH_MINUTES}
use Rattle.roster_model.specs.Clocks.{change_in, minute_at, moment, offset_at, offset_by, second_at}

-- ---- what a text spells

-- a reader that goes on where another ended
after : {A B : Type 0} (P : A → Type 0) (Q : B → Type 0) (read : Option A) (next : A → Option B)
    → IfSome read P → ((x : A) → P x → IfSome (next x) Q) → IfSome (option_and_then next read) Q
after P Q None next first rest = tt
after P Q (Some x) next first rest = rest x first

-- of which nothing is known
anything : {A : Type 0} (read : Option A) → IfSome read (λ _. Unit {0})
anything None = tt
anything (Some x) = tt

either : {A : Type 0} (P : A → Type 0) (test : Bool) (a b : Option A) → IfSome a P → IfSome b P
    → IfSome (cond test a b) P
either P true a b first second = first
either P false a b first second = second

where_true : {A : Type 0} (P : A → Type 0) (test : Bool) (x : A) → (test ≡ true → P x)
    → IfSome (cond test (Some x) None) P
where_true P true x holds = holds refl
where_true P false x holds = tt

limited : (limit : ℕ) (read : Read ℕ) → IfSome (at_most limit read) (λ p. p.0 ≤ limit)
limited limit None = tt
limited limit (Some p) = where_true (λ q. q.0 ≤ limit) (nat_le p.0 limit) p (λ yes. leb-true p.0 limit yes)

sixty : (text : List ℕ) → IfSome (read_sixty text) (λ p. p.0 ≤ 59)
unfolding read_sixty
sixty text =
    after (λ _. Unit {0}) (λ p. p.0 ≤ 59) (read_byte 58 text) (λ rest. at_most 59 (read_exactly_two rest))
    (anything (read_byte 58 text))
    (λ rest _. limited 59 (read_exactly_two rest))

after_minute : (minute : ℕ × List ℕ) → minute.0 ≤ 59 → IfSome (read_after_minute minute) (λ p. p.0 ≤ 3_599)
after_minute minute few =
    either (λ p. p.0 ≤ 3_599) (begins 58 minute.1)
    (option_and_then (λ second. Some (minute.0 * 60 + second.0, second.1)) (read_sixty minute.1))
    (Some (minute.0 * 60, minute.1))
    (after (λ p. p.0 ≤ 59) (λ p. p.0 ≤ 3_599) (read_sixty minute.1) (λ second. Some (minute.0 * 60 + second.0, second.1)) (sixty minute.1) (λ second below. omega arith))
    (omega arith)

minutes : (text : List ℕ) → IfSome (read_minutes text) (λ p. p.0 ≤ 3_599)
unfolding read_minutes
minutes text =
    either (λ p. p.0 ≤ 3_599) (begins 58 text) (option_and_then read_after_minute (read_sixty text))
    (Some (0, text))
    (after (λ p. p.0 ≤ 59) (λ p. p.0 ≤ 3_599) (read_sixty text) read_after_minute (sixty text) after_minute)
    (omega arith)

-- so many seconds lie between a number and its negative
pub record IsBelow (most : ℕ) (seconds : ℤ) : Type 0 where
  pub behind : neg_ℤ (pos most) <ℤ seconds
  pub ahead : seconds <ℤ pos most

signed : (most : ℕ) (negative : Bool) (n : ℕ) → n < most → IsBelow most (signed_by negative n)
signed most true n few = record { behind = omega (arith, signed_arith); ahead = omega (arith, signed_arith) }
signed most false n few = record { behind = omega (arith, signed_arith); ahead = omega (arith, signed_arith) }

-- an offset that is written has at most 24 hours, 59 minutes and 59 seconds
offset : (text : List ℕ) → IfSome (read_offset text) (λ p. IsBelow 90_000 p.0)
unfolding read_offset
offset text =
    after (λ p. p.0 ≤ 24) (λ p. IsBelow 90_000 p.0) (at_most 24 (read_up_to_two (read_sign text).1))
    (λ hour. option_and_then (λ rest. Some (signed_by (not (read_sign text).0) (hour.0 * 3600 + rest.0), rest.1)) (read_minutes hour.1))
    (limited 24 (read_up_to_two (read_sign text).1))
    (λ hour few. after (λ p. p.0 ≤ 3_599) (λ p. IsBelow 90_000 p.0) (read_minutes hour.1)
    (λ rest. Some (signed_by (not (read_sign text).0) (hour.0 * 3600 + rest.0), rest.1)) (minutes hour.1)
    (λ rest below. signed 90_000 (not (read_sign text).0) (hour.0 * 3600 + rest.0) (omega arith)))

-- one of summer time may be left out, and is then an hour more
hour_more : (standard : ℤ) → IsBelow 90_000 standard → IsBelow 93_600 (standard +ℤ pos 3600)
hour_more standard near = record { behind = omega (arith, signed_arith, near.behind, near.ahead); ahead = omega (arith, signed_arith, near.behind, near.ahead) }

farther : (seconds : ℤ) → IsBelow 90_000 seconds → IsBelow 93_600 seconds
farther seconds near = record { behind = omega (arith, signed_arith, near.behind, near.ahead); ahead = omega (arith, signed_arith, near.behind, near.ahead) }

summer_offset : (standard : ℤ) (text : List ℕ) → IsBelow 90_000 standard → IfSome (cond (begins 44 text) (Some (standard +ℤ pos 3600, text)) (read_offset text)) (λ p. IsBelow 93_600 p.0)
summer_offset standard text near =
    either (λ p. IsBelow 93_600 p.0) (begins 44 text) (Some (standard +ℤ pos 3600, text)) (read_offset text)
    (hour_more standard near)
    (IfSome_then (read_offset text) (offset text) (λ p below. farther p.0 below))

summer : (standard : ℤ) (text : List ℕ) → IsBelow 90_000 standard
    → IfSome (read_dst standard text) (λ p. IsBelow 93_600 p.0.seconds)
unfolding read_dst
summer standard text near =
    after (λ _. Unit {0}) (λ p. IsBelow 93_600 p.0.seconds) (read_abbreviation text) _
    (anything (read_abbreviation text)) (λ name _.
    after (λ p. IsBelow 93_600 p.0) (λ p. IsBelow 93_600 p.0.seconds)
    (cond (begins 44 name.1) (Some (standard +ℤ pos 3600, name.1)) (read_offset name.1)) _
    (summer_offset standard name.1 near) (λ offset below.
    after (λ _. Unit {0}) (λ p. IsBelow 93_600 p.0.seconds) (read_byte 44 offset.1) _
    (anything (read_byte 44 offset.1)) (λ start_text _.
    after (λ _. Unit {0}) (λ p. IsBelow 93_600 p.0.seconds) (read_day_time start_text) _
    (anything (read_day_time start_text)) (λ start _.
    after (λ _. Unit {0}) (λ p. IsBelow 93_600 p.0.seconds) (read_byte 44 start.1) _
    (anything (read_byte 44 start.1)) (λ finish_text _.
    after (λ _. Unit {0}) (λ p. IsBelow 93_600 p.0.seconds) (read_day_time finish_text) _
    (anything (read_day_time finish_text)) (λ finish _. below))))))

-- both offsets of a rule
pub record AreNear (zone : TzText) : Type 0 where
  pub standard : IsBelow 93_600 zone.std_seconds
  pub summer : IfSome zone.dst (λ d. IsBelow 93_600 d.seconds)

front : (text : List ℕ) → IfSome (read_tz text) (λ p. AreNear p.0)
unfolding read_tz
front text =
    after (λ _. Unit {0}) (λ p. AreNear p.0) (read_abbreviation text) _ (anything (read_abbreviation text))
    (λ name _.
    after (λ p. IsBelow 90_000 p.0) (λ p. AreNear p.0) (read_offset name.1) _ (offset name.1) (λ found near.
    either (λ p. AreNear p.0) (begins_name found.1)
    (option_and_then (λ dst. Some (tz_text name.0 found.0 (Some dst.0), dst.1)) (read_dst found.0 found.1))
    (Some (tz_text name.0 found.0 None, found.1))
    (after (λ p. IsBelow 93_600 p.0.seconds) (λ p. AreNear p.0) (read_dst found.0 found.1) (λ dst. Some (tz_text name.0 found.0 (Some dst.0), dst.1)) (summer found.0 found.1 near)
    (λ dst below. record { standard = farther found.0 near; summer = below }))
    (record { standard = farther found.0 near; summer = tt })))

whole : (text : List ℕ) → IfSome (read_whole text) AreNear
unfolding read_whole
whole text =
    after (λ p. AreNear p.0) AreNear (read_tz text) (λ p. cond (length p.1 == 0) (Some p.0) None) (front text)
    (λ p near. either AreNear (length p.1 == 0) (Some p.0) None near tt)

pub read-near : (text : List ℕ) (zone : TzText) → read_whole text ≡ Some zone → AreNear zone
read-near text zone read = subst (λ r. IfSome r AreNear) read (whole text)

-- ---- how long a month is

-- one of the two is the offset at a moment
one_of : (test : Bool) (a b : ℤ) → IsBelow 93_600 a → IsBelow 93_600 b → IsBelow 93_600 (cond test a b)
one_of true a b first second = first
one_of false a b first second = second

by_season : (standard summer : ℤ) (season : ℤ × ℤ) (at : ℤ) → IsBelow 93_600 standard → IsBelow 93_600 summer
    → IsBelow 93_600 (offset_by standard summer season at)
by_season standard summer season at first second =
    one_of (int_lt summer standard) _ _
    (one_of (in_window season at) _ _ second
    (one_of (in_span (season.0 +ℤ (summer -ℤ standard)) season.0 at) _ _ first
    (one_of (in_span season.1 (season.1 -ℤ (summer -ℤ standard)) at) _ _ second first)))
    (one_of (in_window season at && not (in_span season.0 (season.0 +ℤ (summer -ℤ standard)) at)) _ _ second first)

by_rule : (standard : ℤ) (summer : Option DstText) (year at : ℤ) → IsBelow 93_600 standard
    → IfSome summer (λ d. IsBelow 93_600 d.seconds)
    → IsBelow 93_600 (match_some summer standard (λ d. offset_by standard d.seconds (change_in year d.start, change_in year d.finish) at))
by_rule standard None year at first second = first
by_rule standard (Some d) year at first second =
    by_season standard d.seconds (change_in year d.start, change_in year d.finish) at first second

near_at : (zone : TzText) (year at : ℤ) → AreNear zone → IsBelow 93_600 (offset_at zone year at)
unfolding offset_at
near_at zone year at near = by_rule zone.std_seconds zone.dst year at near.standard near.summer

-- numbers that lie so far apart at most, and so their sizes
sizes : (a b : ℤ) (most : ℕ) → (a -ℤ b) ≤ℤ pos most → (b -ℤ a) ≤ℤ pos most
    → unsigned_abs a ≤ unsigned_abs b + most
sizes (pos a) (pos b) most up down = omega (arith, signed_arith)
sizes (pos a) (negsuc b) most up down = omega (arith, signed_arith)
sizes (negsuc a) (pos b) most up down = omega (arith, signed_arith)
sizes (negsuc a) (negsuc b) most up down = omega (arith, signed_arith)

in_minutes : (a b : ℕ) → a ≤ b + 60 * MOST_MONTH_MINUTES → a / 60 ≤ b / 60 + MOST_MONTH_MINUTES
in_minutes a b h = omega arith

moments : (day n : ℕ) (a b : ℤ) → n ≤ 31 → IsBelow 93_600 a → IsBelow 93_600 b
    → unsigned_abs (moment (day + n) 0 -ℤ b) ≤ unsigned_abs (moment day 0 -ℤ a) + 60 * MOST_MONTH_MINUTES
moments day n a b few first second =
    sizes (moment (day + n) 0 -ℤ b) (moment day 0 -ℤ a) (60 * MOST_MONTH_MINUTES)
    (omega (arith, signed_arith, first.behind, first.ahead, second.behind, second.ahead))
    (omega (arith, signed_arith, first.behind, first.ahead, second.behind, second.ahead))

pub days-short : (zone : TzText) (day n : ℕ) → AreNear zone → n ≤ 31
    → minute_at zone (day + n) 0 ≤ minute_at zone day 0 + MOST_MONTH_MINUTES
unfolding second_at
days-short zone day n near few =
    let first = near_at zone (year_of_day (pos day)) (moment day 0) near in
    let last = near_at zone (year_of_day (pos (day + n))) (moment (day + n) 0) near in
    in_minutes (unsigned_abs (second_at zone (day + n) 0)) (unsigned_abs (second_at zone day 0))
    (moments day n _ _ few first last)
