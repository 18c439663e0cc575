use Rattle.std.proofs.Common.{◌≡◌, pos, refl, arith}
use Rattle.std.proofs.lemmas.Bool.{false_from_ne_true}
use Rattle.std.proofs.lemmas.Int.{ints}
use Rattle.std.proofs.lemmas.Result.{IfOk-at_ok}
use Rattle.jiff_core.specs.Date.{epoch_day}
use Rattle.roster_model.specs.Calendar.{day_number, is_real_date}
use Rattle.roster_instants.proofs.DayLemmas.{is_real_from_date, date_from_is_real, Ok-from_ok, not_Ok, day_of_parts, year_in_i16, two_digits_in_i8}
use Rattle.roster_instants.proofs.minute.day_number.Goals as goal
use Rattle.roster_instants.proofs.minute.day_number.Goals.{In_ok-date}

-- the number of the date that `jiff` has made
the_number : (c : In_ok-date)
    → epoch_day c.in_ok-date.date ≡ pos (day_number c.args.year c.args.month c.args.day)
the_number c =
    let parts =
    IfOk-at_ok _
    (Ok-from_ok c.new.result c.in_ok-date.date c.in_ok-date.ensures.value) c.new.ensures.value in
    day_of_parts c.in_ok-date.date c.args.year c.args.month c.args.day c.requires.from c.requires.to c.requires.month_fits c.requires.day_fits parts

pub number_of-requires : goal.number_of-requires
number_of-requires c = rw (the_number c) (omega (arith, ints))

-- what `jiff` refuses is no day of the calendar
pub returns-in_err-date : goal.returns-in_err-date
returns-in_err-date c =
    let year = year_in_i16 c.args.year c.requires.to in
    let month = two_digits_in_i8 c.args.month c.requires.month_fits in
    let digits = two_digits_in_i8 c.args.day c.requires.day_fits in
    rw c.from_residual.ensures
    (false_from_ne_true (is_real_date c.args.year c.args.month c.args.day) (λ real. not_Ok c.new.result c.in_err-date.ensures.value
    (c.new.ensures.succeeds.1 (rw (year, month, digits) (date_from_is_real c.args.year c.args.month c.args.day c.requires.to real)))))

pub returns : goal.returns
returns c =
    let year = year_in_i16 c.args.year c.requires.to in
    let month = two_digits_in_i8 c.args.month c.requires.month_fits in
    let digits = two_digits_in_i8 c.args.day c.requires.day_fits in
    let there =
    c.new.ensures.succeeds.0
    (rw (Ok-from_ok c.new.result c.in_ok-date.date c.in_ok-date.ensures.value) refl) in
    let same = the_number (goal.at.returns c).In_ok-date in
    (is_real_from_date c.args.year c.args.month c.args.day (rw (year, month, digits) at there), cc, c.number_of.ensures.bound)
