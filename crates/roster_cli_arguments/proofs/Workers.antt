-- Where clap finds no fault in the words, `solve` has a number of workers within its limits: each value
-- that the walk over the words keeps has passed the parser of `--workers`.
use Rattle.std.proofs.Common.{◌≡◌, ℕ, zero, suc, Bool, true, false, cond, not, ◌&&◌, ◌||◌, List, [], ◌∷◌, ◌++◌, ◌∙◌, length, drop, Option, Some, None, is_some, option_map, codes, refl, ap, sym, subst, arith}
use Rattle.std.specs.Prelude.{find, fold, slice_get, slice_index, option_and_then, encode_utf8}
use Rattle.std.specs.Option.{option_map_or}
use Rattle.std.specs.Str.{bytes_eq, chars}
use Rattle.std.proofs.lemmas.Option.{same_Some}
use Rattle.roster_model.specs.declared.limits.TheConstants.{MOST_WORKERS}
use Rattle.clap.specs.Lexer.{long_of, short_of}
use Rattle.clap.specs.Faults.{bundle_fault, bundle_step_fault, entered_fault, fault_of, flag_word_fault, flags_fault, level_fault, long_fault, option_fault, other_fault, react_fault, short_fault, step_fault, turn_fault, use_fault, walk_fault, word_fault}
use Rattle.clap.specs.Kinds.{Kinds, or_else, range_kinds}
use Rattle.clap.specs.Simple.{Shape, argument_words, built, entered, filled, help_rule, label_of, names_of, rows_at, subcommand_of, with_index}
use Rattle.clap.specs.ValueTests.{is_unsigned_in}
use Rattle.clap.specs.Walk.{one_of, rows_of, Held, Names, Outcome, Row, Rule, Step, Text, Waiting, Walk, after_flag, after_step, answers_to, arg_by_id, arg_by_long, attached_value, bundle_met, bundle_step, done, has_long, has_row, has_short, idle, long_met, long_or_other, more_values, next, nothing_held, option, option_met, option_word, plain, plain_word, positional, refused, row_text, rows_after, settled, settled_rows, short_met, short_or_plain, stop_after, subcommand, subcommand_or_other, trailing, used, used_by_id, value, waits, walk, walk_from, walked, walked_from, with_default, with_values, without, word_met}
use Rattle.clap.specs.declared.builder.value_parser.Reading.TheVariants.{AsWritten}
use Rattle.clap.specs.declared.error.kind.ErrorKind.{ErrorKind}
use Rattle.clap.specs.declared.error.kind.ErrorKind.TheVariants.{DisplayHelp}
use Rattle.clap.specs.declared.parser.matches.ValueSource.{ValueSource}
use Rattle.clap.specs.declared.parser.matches.ValueSource.TheVariants.{CommandLine, DefaultValue}
use Rattle.std.specs.Prelude.{Ok, Err, Result, ◌≤◌}
use Rattle.std.specs.Str.Parse.{ParsesUnsigned}
use Rattle.clap.specs.Matches.{ReadsOne, found_of, one_text}
use Rattle.clap.specs.Simple.{subcommand_rows_of}
use Rattle.clap.specs.declared.builder.value_parser.ValueParser.TheVariants as parsers
use Rattle.clap.specs.declared.parser.matches.ArgMatches.{ArgMatches}
use Rattle.clap.proofs.ValueTestLemmas.{accepts-Accepts}
use Rattle.clap.proofs.WalkLemmas.{one_text-rows}
use Rattle.roster_values.specs.declared.command.Command.TheVariants.{Solve}
use Rattle.roster_cli_arguments.specs.Line.{HasWorkers, command_name, number_spelled, roster_app, workers_asked, workers_rule}

-- ---- the parts of `solve`

abbrev Each : {X : Type 0} → (X → Type 0) → List X → Type 0
Each P [] = Unit {0}
Each P (x ∷ xs) = P x × Each P xs

-- what holds of none and of each holds of the one that is found
find_each : {X : Type 0} (P : Option X → Type 0) (test : X → Bool) (xs : List X) → P None
    → Each (λ x. P (Some x)) xs → P (find test xs)
find_each P test [] none each = none
find_each P test (x ∷ xs) none each =
    let Q : Bool → Type 0 = λ b. P (cond b (Some x) (find test xs)) in
    elim (test x) as Q [ true ↦ each.0 | false ↦ find_each P test xs none each.1 ]

-- ---- the command `solve` as clap builds it

abbrev worker : Rule
worker = with_index 1 (filled workers_rule)

abbrev help : Rule
help = with_index 1 (filled help_rule)

abbrev rules : List Rule
rules = worker ∷ help ∷ []

abbrev subs : List Shape
subs = (built roster_app).subs

abbrev shape_at : List Shape → ℕ → Shape
shape_at [] i = roster_app.top
shape_at (s ∷ shapes) zero = s
shape_at (s ∷ shapes) (suc i) = shape_at shapes i

abbrev solve : Shape
solve = shape_at subs 0

-- ---- kinds of faults

either : (a b : Kinds) → or_else a b ≡ [] → (a ≡ []) × (b ≡ [])
either [] b e = (refl, e)
either (k ∷ ks) b e = cc e

unfaulted : (b : Bool) (k : ErrorKind) → cond b [] (k ∷ []) ≡ [] → b ≡ true
unfaulted true k e = refl
unfaulted false k e = cc e

-- ---- rows

-- the first value of the row is a number within the limits
record IsCounted (row : Row) : Type 0 where
  reading : row.reading ≡ AsWritten
  text : Text
  first : slice_get row.values 0 ≡ Some text
  accepted : is_unsigned_in 1 MOST_WORKERS text ≡ true

abbrev AreCounted : List Row → Type 0
AreCounted rows = Each IsCounted rows

first_stays : (values more : List Text) (text : Text) → slice_get values 0 ≡ Some text
    → slice_get (values ++ more) 0 ≡ Some text
first_stays [] more text first = cc first
first_stays (v ∷ values) more text first = first

with_counted : (how : ValueSource) (v : Text) (vs : List Text) (rows : List Row)
    → is_unsigned_in 1 MOST_WORKERS v ≡ true → AreCounted rows
    → AreCounted (with_values (codes "workers") AsWritten how (v ∷ vs) rows)
with_counted how v vs [] accepted good =
    (record { reading = refl; text = v; first = refl; accepted = accepted }, tt)
with_counted how v vs (row ∷ rows) accepted good =
    let own = good.0 in
    let P : Bool → Type 0 = λ b. AreCounted (cond b (more_values how (v ∷ vs) row ++ rows) (row ∷ with_values (codes "workers") AsWritten how (v ∷ vs) rows)) in
    elim (bytes_eq row.id (codes "workers")) as P [
      | true ↦ (record { reading = own.reading; text = own.text; first = first_stays row.values (v ∷ vs) own.text own.first; accepted = own.accepted }, good.1)
      | false ↦ (good.0, with_counted how v vs rows accepted good.1)
    ]

without_counted : (rows : List Row) → AreCounted rows → AreCounted (without (codes "workers") rows)
without_counted [] good = tt
without_counted (row ∷ rows) good =
    let P : Bool → Type 0 = λ b. AreCounted (cond b ([] ++ rows) (row ∷ without (codes "workers") rows)) in
    elim (bytes_eq row.id (codes "workers")) as P [ true ↦ good.1 | false ↦ (good.0, without_counted rows good.1) ]

-- ---- one use

used_counted : (again : Bool) (values : List Text) (rows : List Row) → AreCounted rows
    → use_fault again worker values rows ≡ [] → AreCounted (used worker values rows)
used_counted again [] rows good e = cc e
used_counted again (v ∷ vs) rows good e =
    let own = either _ _ e in
    let passed = either _ _ own.1 in
    let value = either _ _ passed.1 in
    with_counted CommandLine v vs (without (codes "workers") rows) (unfaulted _ _ value.0)
    (without_counted rows good)

shows_help : (first : Kinds) → or_else first (DisplayHelp ∷ []) ≡ [] → ⊥
shows_help [] e = cc e
shows_help (k ∷ ks) e = cc e

no_help : (again : Bool) (values : List Text) (rows : List Row) → use_fault again help values rows ≡ [] → ⊥
no_help again values rows e = shows_help (range_kinds 0 0 (length values)) e

-- ---- what is pending is used

settled_counted : (again : Bool) (pending : Option (Text × List Text)) (rows : List Row) → AreCounted rows
    → option_map_or (λ p. option_map_or (λ a. use_fault again a p.1 rows) (arg_by_id rules p.0) []) pending [] ≡ []
    → AreCounted (settled_rows rules pending rows)
settled_counted again None rows good e = good
settled_counted again (Some p) rows good e =
    let P : Option Rule → Type 0 = λ o. option_map_or (λ (a : Rule). use_fault again a p.1 rows) o [] ≡ [] → AreCounted (used_by_id o p.1 rows) in
    find_each P (λ a. bytes_eq a.id p.0) rules (λ e. good)
    (λ e. used_counted again p.1 rows good e, (λ e. absurd (no_help again p.1 rows e), tt)) e

-- ---- flags

option_counted : (again : Bool) (v : Option Text) (h : Held) → AreCounted h.rows
    → option_fault rules again worker v h ≡ [] → AreCounted (option_met rules worker v h).0.rows
option_counted again (Some v) h good e =
    let own = either _ _ e in
    used_counted again (v ∷ []) (settled rules h).rows
    (settled_counted again h.pending h.rows good own.0) own.1
option_counted again None h good e = settled_counted again h.pending h.rows good e

no_help_met : (again : Bool) (h : Held) → react_fault rules again help [] h ≡ [] → ⊥
no_help_met again h e = no_help again [] (settled rules h).rows (either _ _ e).1

no_long_help : (again : Bool) (v : Option Text) (h : Held) → long_fault rules again (Some help) v h ≡ [] → ⊥
no_long_help again (Some v) h e = cc e
no_long_help again None h e = no_help_met again h e

long_counted : (again : Bool) (name : Text) (v : Option Text) (h : Held) → AreCounted h.rows
    → long_fault rules again (arg_by_long rules name) v h ≡ []
    → AreCounted (long_met rules (arg_by_long rules name) v h).0.rows
long_counted again name v h good e =
    let P : Option Rule → Type 0 =
    λ o. long_fault rules again o v h ≡ [] → AreCounted (long_met rules o v h).0.rows in
    find_each P (λ a. not (is_some a.index) && has_long a name) rules (λ e. good)
    (λ e. option_counted again v h good e, (λ e. absurd (no_long_help again v h e), tt)) e

bundle_counted : (again : Bool) (k : ℕ) (flags : Text) (skip : ℕ) (so_far : Outcome) (h : Held)
    → AreCounted h.rows
    → flags_fault rules again k flags skip h ≡ [] → AreCounted (bundle_met rules k flags skip so_far h).0.rows
unfolding bundle_met flags_fault
bundle_counted again zero flags skip so_far h good e = good
bundle_counted again (suc k) flags skip so_far h good e =
    by (λ rest skip e. bundle_counted again k rest skip so_far h good e) (slice_get (chars flags) 0) skip e
  where
    by : ((rest : Text) (skip : ℕ) → flags_fault rules again k rest skip h ≡ [] → AreCounted (bundle_met rules k rest skip so_far h).0.rows)
        → (first : Option ℕ) (skip : ℕ)
        → bundle_step_fault rules again first flags skip h (flags_fault rules again k) ≡ []
        → AreCounted (bundle_step rules first flags skip so_far h (bundle_met rules k)).0.rows
    by more None skip e = good
    by more (Some x) zero e =
        let rest : Text = drop (length (encode_utf8 x)) flags in
        let P : Option Rule → Type 0 = λ o. short_fault rules again o rest h (flags_fault rules again k rest 0) ≡ [] → AreCounted (short_met rules o rest h (bundle_met rules k rest 0 done)).0.rows in
        find_each P (λ a. not (is_some a.index) && has_short a x) rules (λ e. good) (λ e. option_counted again (attached_value rest) h good e, (λ e. absurd (no_help_met again h (either _ _ e).0), tt)) e
    by more (Some x) (suc skip) e = more (drop (length (encode_utf8 x)) flags) skip e

-- ---- words

plain_counted : (waiting : Waiting) (word : Text) (h : Held) → AreCounted h.rows
    → AreCounted (plain_word rules waiting word h).0.rows
plain_counted idle word h good = good
plain_counted positional word h good = good
plain_counted (option id) word h good =
    let P : Option Rule → Type 0 = λ o. AreCounted (option_word o id word h).0.rows in
    find_each P (λ a. bytes_eq a.id id) rules good (good, (good, tt))

flag_counted : (waiting : Waiting) (word : Text) (h : Held) (met : Outcome) → AreCounted h.rows
    → AreCounted (after_flag rules waiting word h met).0.rows
flag_counted waiting word h done good = good
flag_counted waiting word h (waits id) good = good
flag_counted waiting word h plain good = plain_counted waiting word h good
flag_counted waiting word h refused good = plain_counted waiting word h good

short_counted : (again : Bool) (waiting : Waiting) (word : Text) (flags : Option Text) (h : Held)
    → AreCounted h.rows
    → option_map_or (λ f. bundle_fault rules again f h) flags [] ≡ []
    → AreCounted (short_or_plain rules waiting word flags h).0.rows
short_counted again waiting word None h good e = plain_counted waiting word h good
short_counted again waiting word (Some flags) h good e =
    flag_counted waiting word _ _
    (bundle_counted again (length flags) flags h.skip plain (record h { skip = 0 }) good e)

named_counted : (again : Bool) (waiting : Waiting) (word : Text) (name : Option (Text × Option Text)) (h : Held) → AreCounted h.rows
    → flag_word_fault rules again name word h ≡ []
    → AreCounted (long_or_other rules waiting word name h).0.rows
named_counted again waiting word (Some p) h good e =
    flag_counted waiting word _ _ (long_counted again p.0 p.1 h good e)
named_counted again waiting word None h good e = short_counted again waiting word (short_of word) h good e

other_counted : (waiting : Waiting) (position : ℕ) (word : Text) (h : Held) → AreCounted h.rows
    → other_fault solve None word h ≡ []
    → AreCounted (subcommand_or_other rules None waiting position word h).0.rows
other_counted waiting position word h good e =
    let P : Bool → Type 0 =
    λ b. cond b [] (flag_word_fault rules solve.args_override_self (long_of word) word h) ≡ []
    → AreCounted (cond b (h, trailing position) (long_or_other rules waiting word (long_of word) h)).0.rows in
    elim (bytes_eq word (45 ∷ 45 ∷ [])) as P [ true ↦ λ e. good | false ↦ λ e. named_counted solve.args_override_self waiting word (long_of word) h good e ] e

word_counted : (is_trailing : Bool) (waiting : Waiting) (position : ℕ) (word : Text) (h : Held)
    → AreCounted h.rows
    → word_fault solve [] is_trailing waiting word h ≡ []
    → AreCounted (word_met rules [] is_trailing waiting position word h).0.rows
word_counted true waiting position word h good e = good
word_counted false idle position word h good e = other_counted idle position word h good e
word_counted false positional position word h good e = other_counted positional position word h good e
word_counted false (option id) position word h good e = other_counted (option id) position word h good e

step_counted : (word : Text) (w : Walk) (h : Held) (step : Step) → AreCounted h.rows
    → AreCounted (after_step rules word w h step).held.rows
step_counted word w h (next waiting) good = good
step_counted word w h (trailing position) good = good
step_counted word w h (subcommand name) good = good
step_counted word w h value good = good

turn_counted : (w : Walk) (word : Text) → AreCounted w.held.rows → turn_fault solve [] w word ≡ []
    → AreCounted (walked rules [] w word).held.rows
unfolding walked
turn_counted w word good e = by w.stopped e
  where
    by : (stopped : Option (Text × List Text))
        → cond (is_some stopped) [] (or_else (word_fault solve [] w.is_trailing w.waiting word w.held) (step_fault solve w.position (word_met rules [] w.is_trailing w.waiting w.position word w.held).0 (word_met rules [] w.is_trailing w.waiting w.position word w.held).1)) ≡ []
        → AreCounted (walked_from rules [] stopped w word).held.rows
    by (Some p) e = good
    by None e =
        step_counted word w _ _
        (word_counted w.is_trailing w.waiting w.position word w.held good (either _ _ e).0)

walk_counted : (words : List Text) (w : Walk) → AreCounted w.held.rows → walk_fault solve [] w words ≡ []
    → AreCounted (fold (walked rules []) w words).held.rows
unfolding walk_fault
walk_counted [] w good e = good
walk_counted (word ∷ words) w good e =
    let own = either _ _ e in
    walk_counted words (walked rules [] w word) (turn_counted w word good own.0) own.1

-- ---- after the walk

abbrev is_workers : Row → Bool
is_workers row = bytes_eq row.id (codes "workers")

-- what is read of the row is a number within the limits
pub record HasNumber (row : Option Row) : Type 0 where
  pub text : Text
  pub read : option_and_then row_text row ≡ Some text
  pub accepted : is_unsigned_in 1 MOST_WORKERS text ≡ true

of_counted : (row : Row) → IsCounted row → HasNumber (Some row)
of_counted row good =
    record { text = good.text; read = rw (good.reading, good.first) refl; accepted = good.accepted }

found_number : (rows : List Row) → AreCounted rows → has_row (codes "workers") rows ≡ true
    → HasNumber (find is_workers rows)
found_number [] good has = cc has
found_number (row ∷ rows) good has =
    let P : Bool → Type 0 = λ b. (b || has_row (codes "workers") rows) ≡ true → HasNumber (cond b (Some row) (find is_workers rows)) in
    elim (is_workers row) as P [ true ↦ λ has. of_counted row good.0 | false ↦ λ has. found_number rows good.1 has ] has

passed_over : (row : Row) (rows : List Row) → is_workers row ≡ false → HasNumber (find is_workers rows)
    → HasNumber (find is_workers (row ∷ rows))
passed_over row rows is has = subst (λ b. HasNumber (cond b (Some row) (find is_workers rows))) (sym is) has

default_number : (rows : List Row) → has_row (codes "workers") rows ≡ false
    → HasNumber (find is_workers (with_values (codes "workers") AsWritten DefaultValue (codes "1" ∷ []) rows))
default_number [] none = record { text = codes "1"; read = refl; accepted = refl }
default_number (row ∷ rows) none = by (λ none. default_number rows none) (is_workers row) refl
  where
    by : (has_row (codes "workers") rows ≡ false → HasNumber (find is_workers (with_values (codes "workers") AsWritten DefaultValue (codes "1" ∷ []) rows)))
        → (b : Bool) → is_workers row ≡ b → HasNumber (find is_workers (with_values (codes "workers") AsWritten DefaultValue (codes "1" ∷ []) (row ∷ rows)))
    by rest true is = cc (rw is at none)
    by rest false is =
        let after : List Row = with_values (codes "workers") AsWritten DefaultValue (codes "1" ∷ []) rows in
        let same : with_values (codes "workers") AsWritten DefaultValue (codes "1" ∷ []) (row ∷ rows)
        ≡ row ∷ after =
        rw is refl in
        subst (λ all. HasNumber (find is_workers all)) (sym same)
        (passed_over row after is (rest (rw is at none)))

number_given : (rows : List Row) → AreCounted rows → HasNumber (find is_workers (with_default rows worker))
number_given rows good = by (has_row (codes "workers") rows) refl
  where
    by : (b : Bool) → has_row (codes "workers") rows ≡ b
        → HasNumber (find is_workers (with_default rows worker))
    by true is = rw is (found_number rows good is)
    by false is = rw is (default_number rows is)

help_adds_none : (rows : List Row) → with_default rows help ≡ rows
help_adds_none rows =
    let P : Bool → Type 0 = λ b. cond b rows rows ≡ rows in
    elim (has_row (codes "help") rows) as P [ true ↦ refl | false ↦ refl ]

level_given : (words : List Text) → level_fault solve [] nothing_held words false [] ≡ []
    → HasNumber (find is_workers (rows_after rules [] words))
level_given words e =
    let own = either _ _ e in
    let end : Held = (walk rules [] nothing_held words).held in
    let good = walk_counted words (walk_from nothing_held) tt own.0 in
    let kept = settled_counted solve.args_override_self end.pending end.rows good (either _ _ own.1).0 in
    subst (λ rows. HasNumber (find is_workers rows))
    (sym (help_adds_none (with_default (settled rules end).rows worker)))
    (number_given (settled rules end).rows kept)

-- ---- the subcommand

abbrev Given : List Row → Type 0
Given rows = HasNumber (find is_workers rows)

abbrev Enters : Text × List Text → List Row → Option Shape → Type 0
Enters p rows s =
    option_map_or (λ s. level_fault s [] nothing_held p.1 false []) s [] ≡ []
    → option_map (λ s. rows_at s p.1) s ≡ Some (codes "solve", rows) → Given rows

not_check : codes "check" ≡ codes "solve" → ⊥
not_check e = let first : ◌≡◌ {A = ℕ} 99 115 = ap (λ name. slice_index name 0) e in absurd (omega arith)

not_replay : codes "replay" ≡ codes "solve" → ⊥
not_replay e = let first : ◌≡◌ {A = ℕ} 114 115 = ap (λ name. slice_index name 0) e in absurd (omega arith)

not_help : codes "help" ≡ codes "solve" → ⊥
not_help e = let first : ◌≡◌ {A = ℕ} 104 115 = ap (λ name. slice_index name 0) e in absurd (omega arith)

other_name : (found : Text × List Row) (rows : List Row) → Some found ≡ Some (codes "solve", rows)
    → (found.0 ≡ codes "solve" → ⊥) → Given rows
other_name found rows is apart =
    absurd (apart (ap (λ (q : Text × List Row). q.0) (same_Some found (codes "solve", rows) is)))

entered_given : (stop : Option (Text × List Text)) (rows : List Row)
    → entered_fault (built roster_app) stop ≡ []
    → entered (built roster_app) stop ≡ Some (codes "solve", rows) → Given rows
entered_given None rows e is = cc is
entered_given (Some p) rows e is =
    find_each (Enters p rows) (λ s. answers_to p.0 (label_of s)) subs (λ e is. cc is) (
      λ e is. (let same = same_Some _ _ is in subst Given (ap (λ q. q.1) same) (level_given p.1 e)),
      (
        λ e is. other_name (rows_at (shape_at subs 1) p.1) rows is not_check,
        (
          λ e is. other_name (rows_at (shape_at subs 2) p.1) rows is not_replay,
          (λ e is. other_name (rows_at (shape_at subs 3) p.1) rows is not_help, tt),
        ),
      ),
    ) e is

-- a level has no fault where the one below it has none
faultless_below : (s : Shape) (names : Names) (h : Held) (words : List Text) (has_subcommand : Bool) (below : Kinds) → level_fault s names h words has_subcommand below ≡ [] → below ≡ []
faultless_below s names h words has_subcommand below e = (either _ _ (either _ _ e).1).0

-- the number of workers that `solve` has, where clap finds no fault
pub workers_given : (words : List Text) (rows : List Row) → fault_of roster_app words ≡ []
    → subcommand_of roster_app words ≡ Some (codes "solve", rows)
    → HasNumber (find (λ row. bytes_eq row.id (codes "workers")) rows)
workers_given words rows e is =
    let stop : Option (Text × List Text) =
    stop_after (built roster_app).top.rules (names_of (built roster_app))
    (argument_words roster_app words) in
    entered_given stop rows (faultless_below (built roster_app).top (names_of (built roster_app)) nothing_held (argument_words roster_app words) _ (entered_fault (built roster_app) stop) e) is

named_rows : (name : Text) (found : Option (Text × List Row)) → option_map (λ p. p.0) found ≡ Some name
    → (rows : List Row) × (found ≡ Some (name, rows))
named_rows name None is = cc is
named_rows name (Some p) is = (p.1, ap (λ n. Some (n, p.1)) (same_Some _ _ is))

-- the matches of `solve` have the text of that number
pub has_workers : (m : ArgMatches) (words : List Text) → fault_of roster_app words ≡ []
    → subcommand_rows_of m ≡ subcommand_of roster_app words
    → command_name words ≡ Some (codes "solve") → (text : Text) × HasWorkers m text
has_workers m words faultless same name =
    let entered = named_rows (codes "solve") (subcommand_of roster_app words) name in
    let given = workers_given words entered.0 faultless entered.1 in
    (given.text, record { rows = entered.0; entered = same ∙ entered.1; read = given.read; accepted = given.accepted })

-- and it is what the words ask for
pub asked_is : (m : ArgMatches) (words : List Text) (text : Text)
    → subcommand_rows_of m ≡ subcommand_of roster_app words → HasWorkers m text
    → number_spelled text ≡ workers_asked Solve words
asked_is m words text same has =
    let entered : subcommand_of roster_app words ≡ Some (codes "solve", has.rows) = sym same ∙ has.entered in
    rw (entered, has.read) refl

-- ---- the number

-- a number within the limits is what `parse` reads of its text
pub reads_number : {E : Type 0} (G : List ℕ → Result ℕ E → Type 0) (text : Text) (number : Option ℕ)
    → ReadsOne G text number
    → ((t : Text) (r : Result ℕ E) → G t r → ParsesUnsigned 64 10 t r)
    → is_unsigned_in 1 MOST_WORKERS text ≡ true → number ≡ Some (number_spelled text)
reads_number G text (Some n) read parses accepted = ap Some (parses text (Ok n) read).1
reads_number G text None read parses accepted =
    let within = accepts-Accepts false (parsers.Unsigned 1 MOST_WORKERS) text accepted in
    absurd (parses text (Err read.0) read.1 (within.0, within.1))

pub number_within : (text : Text) → is_unsigned_in 1 MOST_WORKERS text ≡ true
    → (1 ≤ number_spelled text) × (number_spelled text ≤ MOST_WORKERS)
number_within text accepted =
    let within = accepts-Accepts false (parsers.Unsigned 1 MOST_WORKERS) text accepted in
    (within.2, within.3)

-- so it is what `get_one` gives of the matches of `solve`
pub number_found : {E : Type 0} (G : List ℕ → Result ℕ E → Type 0) (m found : ArgMatches) (text : Text) (number : Option ℕ) → HasWorkers m text
    → option_map (λ p. p.1) (subcommand_rows_of m) ≡ Some (rows_of (found_of found))
    → ((t : Text) → one_text (found_of found) (codes "workers") ≡ Some t → ReadsOne G t number)
    → ((t : Text) (r : Result ℕ E) → G t r → ParsesUnsigned 64 10 t r) → number ≡ Some (number_spelled text)
number_found G m found text number has rows reads parses =
    let same : has.rows ≡ rows_of (found_of found) =
    same_Some _ _ (sym (ap (option_map (λ (p : Text × List Row). p.1)) has.entered) ∙ rows) in
    let one =
    one_text-rows (found_of found) (codes "workers") ∙ ap (one_of (codes "workers")) (sym same)
    ∙ has.read in
    reads_number G text number (reads text one) parses has.accepted
