-- Where clap finds no fault in the words, they name one of the desk's commands, and each argument that the command
-- requires has a value: each row that the walk over the words keeps has one.
use Rattle.std.proofs.Common.{◌≡◌, ℕ, zero, suc, Bool, true, false, cond, not, ◌&&◌, ◌||◌, ◌==◌, List, [], ◌∷◌, ◌++◌, length, drop, Option, Some, None, IfSome, IsSomeAnd, is_some, option_map, codes, refl, sym, subst, ◌∙◌, Box, box_value, bytes_eq, nat_lt}
use Rattle.std.specs.Prelude.{find, fold, slice_get, option_and_then, encode_utf8}
use Rattle.std.specs.List.{list_all, list_any}
use Rattle.std.specs.Option.{option_map_or}
use Rattle.std.specs.Str.{chars}
use Rattle.std.proofs.lemmas.Option.{same_Some}
use Rattle.std.proofs.lemmas.Slice.Eq.{bytes_eq-Decides}
use Rattle.clap.specs.Lexer.{long_of, short_of}
use Rattle.clap.specs.Facts.{explicit_source, unwrap_or_range}
use Rattle.clap.specs.Values.{is_request}
use Rattle.clap.specs.Takes.{is_given}
use Rattle.clap.specs.Faults.{action_fault, bundle_fault, bundle_step_fault, check_fault, entered_fault, fault_of, flag_word_fault, flags_fault, level_fault, long_fault, option_fault, other_fault, positional_fault, react_fault, settle_fault, short_fault, step_fault, stray_fault, turn_fault, use_fault, walk_fault, word_fault}
use Rattle.clap.specs.Kinds.{Kinds, check_kinds, or_else, range_kinds}
use Rattle.clap.specs.Simple.{Shape, argument_words, built, entered, label_of, names_of, rows_at, subcommand_of, subcommand_rows}
use Rattle.clap.specs.Walk.{first_of, Held, Names, Outcome, Row, Rule, Step, Text, Waiting, Walk, action_of, after_flag, after_step, answers_to, arg_by_id, arg_by_index, arg_by_long, at_row, attached_value, bundle_met, bundle_step, default_rows, done, finished, flag_met, has_long, has_row, has_short, idle, is_pending, long_met, long_or_other, more_values, next, nothing_held, option, option_met, option_word, plain, plain_word, positional, positional_held, pushed, reacted, reading_by, refused, rows_after, settled, settled_rows, short_met, short_or_plain, stop_after, subcommand, subcommand_met, subcommand_or_other, takes_several, takes_values, to_positional, trailing, used, used_as, used_by_id, value, values_or_missing, waits, walk, walk_from, walked, walked_from, with_default, with_values, without, word_met}
use Rattle.clap.specs.declared.builder.action.ArgAction.{ArgAction}
use Rattle.clap.specs.declared.builder.action.ArgAction.TheVariants.{Set, Append, SetTrue, SetFalse, Count, Help, HelpShort, HelpLong, Version}
use Rattle.clap.specs.declared.builder.value_parser.Reading.{Reading}
use Rattle.clap.specs.declared.error.kind.ErrorKind.TheVariants.{DisplayHelp, InvalidSubcommand, InvalidValue, TooManyValues}
use Rattle.clap.specs.declared.parser.matches.ValueSource.{ValueSource}
use Rattle.clap.specs.declared.parser.matches.ValueSource.TheVariants.{CommandLine, DefaultValue}
use Rattle.clap.specs.declared.parser.matches.ArgMatches.TheViews.{out-SubCommand}
use Rattle.clap.specs.declared.parser.matches.SubCommand.{SubCommand}
use Rattle.roster_desk_arguments.specs.Commands.{desk_app}
use Rattle.roster_desk_arguments.specs.Line.{IsWhole, has_required}

-- ---- parts of lists

abbrev Each : {X : Type 0} → (X → Type 0) → List X → Type 0
Each P [] = Unit {0}
Each P (x ∷ xs) = P x × Each P xs

-- what holds of none, and of each by what is known of it, holds of the one that is found
find_each : {X : Type 0} (P : Option X → Type 0) (Q : X → Type 0) (test : X → Bool) (xs : List X) → P None
    → ((x : X) → Q x → P (Some x)) → Each Q xs → P (find test xs)
find_each P Q test [] none some each = none
find_each P Q test (x ∷ xs) none some each =
    let R : Bool → Type 0 = λ b. P (cond b (Some x) (find test xs)) in
    elim (test x) as R [ true ↦ some x each.0 | false ↦ find_each P Q test xs none some each.1 ]

-- and what holds of each that passes the test
find_passed : {X : Type 0} (P : Option X → Type 0) (test : X → Bool) (xs : List X) → P None
    → Each (λ x. test x ≡ true → P (Some x)) xs → P (find test xs)
find_passed P test [] none each = none
find_passed P test (x ∷ xs) none each = by (find_passed P test xs none each.1) (test x) refl
  where
    by : P (find test xs) → (b : Bool) → test x ≡ b → P (cond b (Some x) (find test xs))
    by rest true is = each.0 is
    by rest false is = rest

-- ---- truth values

both : (a b : Bool) → a ≡ true → b ≡ true → (a && b) ≡ true
both true b p q = q
both false b p q = cc p

parts : (a b : Bool) → (a && b) ≡ true → (a ≡ true) × (b ≡ true)
parts true b e = (refl, e)
parts false b e = cc e

neither : (a b : Bool) → (a || b) ≡ false → (a ≡ false) × (b ≡ false)
neither true b e = cc e
neither false b e = (refl, e)

not_false : (b : Bool) → not b ≡ false → b ≡ true
not_false true e = refl
not_false false e = cc e

or_none : (b : Bool) → (b || false) ≡ true → b ≡ true
or_none true e = refl
or_none false e = cc e

-- ---- kinds of faults

either : (a b : Kinds) → or_else a b ≡ [] → (a ≡ []) × (b ≡ [])
either [] b e = (refl, e)
either (k ∷ ks) b e = cc e

-- ---- rows

abbrev has_first : List Text → Bool
has_first values = is_some (slice_get values 0)

abbrev IsFilled : Row → Type 0
IsFilled row = has_first row.values ≡ true

abbrev AreFilled : List Row → Type 0
AreFilled rows = Each IsFilled rows

first_stays : (values more : List Text) → has_first values ≡ true → has_first (values ++ more) ≡ true
first_stays [] more first = cc first
first_stays (v ∷ values) more first = first

all_filled : (some more : List Row) → AreFilled some → AreFilled more → AreFilled (some ++ more)
all_filled [] more a b = b
all_filled (row ∷ some) more a b = (a.0, all_filled some more a.1 b)

at_filled : (id : Text) (change : Row → List Row) (missing rows : List Row)
    → ((row : Row) → IsFilled row → AreFilled (change row)) → AreFilled missing → AreFilled rows
    → AreFilled (at_row id change missing rows)
at_filled id change missing [] changed none good = none
at_filled id change missing (row ∷ rows) changed none good =
    let P : Bool → Type 0 = λ b. AreFilled (cond b (change row ++ rows) (row ∷ at_row id change missing rows)) in
    elim (bytes_eq row.id id) as P [
      | true ↦ all_filled (change row) rows (changed row good.0) good.1
      | false ↦ (good.0, at_filled id change missing rows changed none good.1)
    ]

with_filled : (id : Text) (how : Reading) (source : ValueSource) (values : List Text) (rows : List Row)
    → has_first values ≡ true → AreFilled rows → AreFilled (with_values id how source values rows)
with_filled id how source values rows first good =
    at_filled id (more_values source values) (record {
      id = id;
      values = values;
      count = None;
      source = Some source;
      reading = how;
    } ∷ []) rows (λ row filled. (first_stays row.values values filled, tt)) (first, tt) good

without_filled : (id : Text) (rows : List Row) → AreFilled rows → AreFilled (without id rows)
without_filled id rows good = at_filled id (λ _. []) [] rows (λ row filled. tt) tt good

-- ---- one use

used_filled : (x : ArgAction) (id : Text) (how : Reading) (values : List Text) (rows : List Row)
    → has_first values ≡ true → AreFilled rows → AreFilled (used_as x id how values rows)
used_filled Set id how values rows first good =
    with_filled id how CommandLine values (without id rows) first (without_filled id rows good)
used_filled Append id how values rows first good = with_filled id how CommandLine values rows first good
used_filled SetTrue id how values rows first good =
    with_filled id how CommandLine values (without id rows) first (without_filled id rows good)
used_filled SetFalse id how values rows first good =
    with_filled id how CommandLine values (without id rows) first (without_filled id rows good)
used_filled Count id how [] rows first good = cc first
used_filled Count id how (v ∷ vs) rows first good =
    with_filled id how CommandLine (v ∷ vs) (without id rows) first (without_filled id rows good)
used_filled Help id how values rows first good = good
used_filled HelpShort id how values rows first good = good
used_filled HelpLong id how values rows first good = good
used_filled Version id how values rows first good = good

-- a use without a fault has a value, or one that stands for it
abbrev Fills : Rule → Type 0
Fills a = (again : Bool) (values : List Text) (rows : List Row) → use_fault again a values rows ≡ []
    → has_first (values_or_missing a values) ≡ true

-- what shows it: a value is wanted, there is one that stands for it, or each use is a call for help
abbrev fills : Rule → Bool
fills a = nat_lt 0 (unwrap_or_range a.range).start_inclusive || (has_first a.missing || is_request (action_of a))

no_request : (x : ArgAction) (again : Bool) (a : Rule) (values : List Text) (rows : List Row)
    → is_request x ≡ true → action_fault x again a values rows ≡ [] → ⊥
no_request Set again a values rows is e = cc is
no_request Append again a values rows is e = cc is
no_request SetTrue again a values rows is e = cc is
no_request SetFalse again a values rows is e = cc is
no_request Count again a values rows is e = cc is
no_request Help again a values rows is e = cc e
no_request HelpShort again a values rows is e = cc e
no_request HelpLong again a values rows is e = cc e
no_request Version again a values rows is e = cc e

wants_value : (least most : ℕ) → nat_lt 0 least ≡ true → range_kinds least most 0 ≡ [] → ⊥
wants_value least most is e =
    let refuses : range_kinds least most 0 ≡ InvalidValue ∷ [] = rw is refl in
    cc (sym refuses ∙ e)

filled_by : (least : ℕ) (most : ℕ) (first asks : Bool) (action : Kinds)
    → (nat_lt 0 least || (first || asks)) ≡ true → (asks ≡ true → action ≡ [] → ⊥)
    → or_else (range_kinds least most 0) action ≡ [] → first ≡ true
filled_by least most first asks action is none e = by (nat_lt 0 least) refl first asks is none
  where
    by : (b : Bool) → nat_lt 0 least ≡ b → (f a : Bool) → (b || (f || a)) ≡ true
        → (a ≡ true → action ≡ [] → ⊥) → f ≡ true
    by true wants f a is none = absurd (wants_value least most wants (either _ _ e).0)
    by false wants true a is none = refl
    by false wants false a is none = absurd (none is (either _ _ e).1)

filling : (a : Rule) → fills a ≡ true → Fills a
filling a is again (v ∷ vs) rows e = refl
filling a is again [] rows e =
    filled_by (unwrap_or_range a.range).start_inclusive (unwrap_or_range a.range).end_inclusive
    (has_first a.missing) (is_request (action_of a))
    (action_fault (action_of a) again a (values_or_missing a []) rows) is
    (no_request (action_of a) again a (values_or_missing a []) rows) e

each_filling : (rules : List Rule) → list_all fills rules ≡ true → Each Fills rules
each_filling [] is = tt
each_filling (a ∷ rules) is =
    let own = parts (fills a) (list_all fills rules) is in
    (filling a own.0, each_filling rules own.1)

-- ---- a level of the parse whose uses have values
module _ (s : Shape) (each : Each Fills s.rules) where
  one_filled : (a : Rule) (values : List Text) (rows : List Row) → Fills a → AreFilled rows
      → use_fault s.args_override_self a values rows ≡ [] → AreFilled (used a values rows)
  one_filled a values rows has good e =
      used_filled (action_of a) a.id (reading_by a) (values_or_missing a values) rows
      (has s.args_override_self values rows e) good

  -- what is pending is used
  settled_filled : (pending : Option (Text × List Text)) (rows : List Row) → AreFilled rows
      → option_map_or (λ p. option_map_or (λ a. use_fault s.args_override_self a p.1 rows) (arg_by_id s.rules p.0) []) pending [] ≡ []
      → AreFilled (settled_rows s.rules pending rows)
  settled_filled None rows good e = good
  settled_filled (Some p) rows good e =
      let P : Option Rule → Type 0 = λ o. option_map_or (λ (a : Rule). use_fault s.args_override_self a p.1 rows) o [] ≡ [] → AreFilled (used_by_id o p.1 rows) in
      find_each P Fills (λ a. bytes_eq a.id p.0) s.rules (λ e. good)
      (λ a has e. one_filled a p.1 rows has good e) each e

  react_filled : (a : Rule) (values : List Text) (h : Held) → Fills a → AreFilled h.rows
      → react_fault s.rules s.args_override_self a values h ≡ []
      → AreFilled (reacted s.rules a values h).rows
  react_filled a values h has good e =
      let own = either _ _ e in
      one_filled a values (settled s.rules h).rows has (settled_filled h.pending h.rows good own.0) own.1

  -- ---- flags

  option_filled : (a : Rule) (v : Option Text) (h : Held) → Fills a → AreFilled h.rows
      → option_fault s.rules s.args_override_self a v h ≡ [] → AreFilled (option_met s.rules a v h).0.rows
  option_filled a (Some v) h has good e = react_filled a (v ∷ []) h has good e
  option_filled a None h has good e = settled_filled h.pending h.rows good e

  flag_filled : (a : Rule) (v : Option Text) (h : Held) → Fills a → AreFilled h.rows
      → cond (is_some v) (TooManyValues ∷ []) (react_fault s.rules s.args_override_self a [] h) ≡ []
      → AreFilled (flag_met s.rules a v h).0.rows
  flag_filled a (Some v) h has good e = good
  flag_filled a None h has good e = react_filled a [] h has good e

  named_filled : (a : Rule) (v : Option Text) (h : Held) → Fills a → AreFilled h.rows
      → long_fault s.rules s.args_override_self (Some a) v h ≡ []
      → AreFilled (long_met s.rules (Some a) v h).0.rows
  named_filled a v h has good e =
      let P : Bool → Type 0 =
      λ b. cond b (option_fault s.rules s.args_override_self a v h) (cond (is_some v) (TooManyValues ∷ []) (react_fault s.rules s.args_override_self a [] h)) ≡ []
      → AreFilled (cond b (option_met s.rules a v h) (flag_met s.rules a v h)).0.rows in
      elim (takes_values a) as P [
        | true ↦ λ e. option_filled a v h has good e
        | false ↦ λ e. flag_filled a v h has good e
      ] e

  long_filled : (name : Text) (v : Option Text) (h : Held) → AreFilled h.rows
      → long_fault s.rules s.args_override_self (arg_by_long s.rules name) v h ≡ []
      → AreFilled (long_met s.rules (arg_by_long s.rules name) v h).0.rows
  long_filled name v h good e =
      let P : Option Rule → Type 0 =
      λ o. long_fault s.rules s.args_override_self o v h ≡ [] → AreFilled (long_met s.rules o v h).0.rows in
      find_each P Fills (λ a. not (is_some a.index) && has_long a name) s.rules (λ e. good)
      (λ a has e. named_filled a v h has good e) each e

  short_filled : (a : Rule) (rest : Text) (h : Held) (fault : Held → Kinds) (met : Held → Held × Outcome)
      → Fills a → AreFilled h.rows
      → ((after : Held) → AreFilled after.rows → fault after ≡ [] → AreFilled (met after).0.rows)
      → short_fault s.rules s.args_override_self (Some a) rest h fault ≡ []
      → AreFilled (short_met s.rules (Some a) rest h met).0.rows
  short_filled a rest h fault met has good more e =
      let P : Bool → Type 0 =
      λ b. cond b (option_fault s.rules s.args_override_self a (attached_value rest) h) (or_else (react_fault s.rules s.args_override_self a [] h) (fault (reacted s.rules a [] h))) ≡ []
      → AreFilled (cond b (option_met s.rules a (attached_value rest) h) (met (reacted s.rules a [] h))).0.rows in
      elim (takes_values a) as P [
        | true ↦ λ e. option_filled a (attached_value rest) h has good e
        | false ↦ λ e. (
            let own = either _ _ e in
            more (reacted s.rules a [] h) (react_filled a [] h has good own.0) own.1)
      ] e

  bundle_filled : (k : ℕ) (flags : Text) (skip : ℕ) (so_far : Outcome) (h : Held) → AreFilled h.rows
      → flags_fault s.rules s.args_override_self k flags skip h ≡ []
      → AreFilled (bundle_met s.rules k flags skip so_far h).0.rows
  unfolding bundle_met flags_fault
  bundle_filled zero flags skip so_far h good e = good
  bundle_filled (suc k) flags skip so_far h good e =
      by (λ rest skip so_far h good e. bundle_filled k rest skip so_far h good e) (slice_get (chars flags) 0) skip e
    where
      by : ((rest : Text) (skip : ℕ) (so_far : Outcome) (h : Held) → AreFilled h.rows
          → flags_fault s.rules s.args_override_self k rest skip h ≡ []
          → AreFilled (bundle_met s.rules k rest skip so_far h).0.rows)
          → (first : Option ℕ) (skip : ℕ)
          → bundle_step_fault s.rules s.args_override_self first flags skip h (flags_fault s.rules s.args_override_self k) ≡ []
          → AreFilled (bundle_step s.rules first flags skip so_far h (bundle_met s.rules k)).0.rows
      by more None skip e = good
      by more (Some x) zero e =
          let rest : Text = drop (length (encode_utf8 x)) flags in
          let P : Option Rule → Type 0 =
          λ o. short_fault s.rules s.args_override_self o rest h (flags_fault s.rules s.args_override_self k rest 0) ≡ []
          → AreFilled (short_met s.rules o rest h (bundle_met s.rules k rest 0 done)).0.rows in
          find_each P Fills (λ a. not (is_some a.index) && has_short a x) s.rules (λ e. good)
          (λ a has e. short_filled a rest h (flags_fault s.rules s.args_override_self k rest 0) (bundle_met s.rules k rest 0 done) has good (more rest 0 done) e) each e
      by more (Some x) (suc skip) e = more (drop (length (encode_utf8 x)) flags) skip so_far h good e

  -- ---- words

  plain_filled : (waiting : Waiting) (word : Text) (h : Held) → AreFilled h.rows
      → AreFilled (plain_word s.rules waiting word h).0.rows
  plain_filled idle word h good = good
  plain_filled positional word h good = good
  plain_filled (option id) word h good =
      let P : Option Rule → Type 0 = λ o. AreFilled (option_word o id word h).0.rows in
      find_each P Fills (λ a. bytes_eq a.id id) s.rules good (λ a has. good) each

  met_filled : (waiting : Waiting) (word : Text) (h : Held) (met : Outcome) → AreFilled h.rows
      → AreFilled (after_flag s.rules waiting word h met).0.rows
  met_filled waiting word h done good = good
  met_filled waiting word h (waits id) good = good
  met_filled waiting word h plain good = plain_filled waiting word h good
  met_filled waiting word h refused good = plain_filled waiting word h good

  shorts_filled : (waiting : Waiting) (word : Text) (flags : Option Text) (h : Held) → AreFilled h.rows
      → option_map_or (λ f. bundle_fault s.rules s.args_override_self f h) flags [] ≡ []
      → AreFilled (short_or_plain s.rules waiting word flags h).0.rows
  shorts_filled waiting word None h good e = plain_filled waiting word h good
  shorts_filled waiting word (Some flags) h good e =
      met_filled waiting word _ _
      (bundle_filled (length flags) flags h.skip plain (record h { skip = 0 }) good e)

  flags_filled : (waiting : Waiting) (word : Text) (name : Option (Text × Option Text)) (h : Held)
      → AreFilled h.rows → flag_word_fault s.rules s.args_override_self name word h ≡ []
      → AreFilled (long_or_other s.rules waiting word name h).0.rows
  flags_filled waiting word (Some p) h good e = met_filled waiting word _ _ (long_filled p.0 p.1 h good e)
  flags_filled waiting word None h good e = shorts_filled waiting word (short_of word) h good e

  other_filled : (waiting : Waiting) (position : ℕ) (word : Text) (h : Held) → AreFilled h.rows
      → other_fault s None word h ≡ []
      → AreFilled (subcommand_or_other s.rules None waiting position word h).0.rows
  other_filled waiting position word h good e =
      let P : Bool → Type 0 =
      λ b. cond b [] (flag_word_fault s.rules s.args_override_self (long_of word) word h) ≡ []
      → AreFilled (cond b (h, trailing position) (long_or_other s.rules waiting word (long_of word) h)).0.rows in
      elim (bytes_eq word (45 ∷ 45 ∷ [])) as P [
        | true ↦ λ e. good
        | false ↦ λ e. flags_filled waiting word (long_of word) h good e
      ] e

  word_filled : (is_trailing : Bool) (waiting : Waiting) (position : ℕ) (word : Text) (h : Held)
      → AreFilled h.rows → word_fault s [] is_trailing waiting word h ≡ []
      → AreFilled (word_met s.rules [] is_trailing waiting position word h).0.rows
  word_filled true waiting position word h good e = good
  word_filled false idle position word h good e = other_filled idle position word h good e
  word_filled false positional position word h good e = other_filled positional position word h good e
  word_filled false (option id) position word h good e = other_filled (option id) position word h good e

  positional_filled : (a : Rule) (word : Text) (h : Held) → AreFilled h.rows
      → positional_fault s.rules s.args_override_self a h ≡ []
      → AreFilled (positional_held s.rules a word h).rows
  positional_filled a word h good e =
      let P : Bool → Type 0 =
      λ b. cond b [] (settle_fault s.rules s.args_override_self h) ≡ []
      → AreFilled (pushed a.id word (cond b h (settled s.rules h))).rows in
      elim (is_pending a h.pending && takes_several a) as P [
        | true ↦ λ e. good
        | false ↦ λ e. settled_filled h.pending h.rows good e
      ] e

  step_filled : (word : Text) (w : Walk) (h : Held) (step : Step) → AreFilled h.rows
      → step_fault s w.position h step ≡ [] → AreFilled (after_step s.rules word w h step).held.rows
  step_filled word w h (next waiting) good e = good
  step_filled word w h (trailing position) good e = good
  step_filled word w h (subcommand name) good e = good
  step_filled word w h value good e =
      let P : Option Rule → Type 0 =
      λ o. option_map_or (λ (a : Rule). positional_fault s.rules s.args_override_self a h) o (stray_fault s) ≡ []
      → AreFilled (to_positional s.rules o word w h).held.rows in
      find_each P Fills (λ a. option_map_or (λ k. k == w.position) a.index false) s.rules (λ e. good)
      (λ a has e. positional_filled a word h good e) each e

  turn_filled : (w : Walk) (word : Text) → AreFilled w.held.rows → turn_fault s [] w word ≡ []
      → AreFilled (walked s.rules [] w word).held.rows
  unfolding walked
  turn_filled w word good e = by w.stopped e
    where
      by : (stopped : Option (Text × List Text))
          → cond (is_some stopped) [] (or_else (word_fault s [] w.is_trailing w.waiting word w.held) (step_fault s w.position (word_met s.rules [] w.is_trailing w.waiting w.position word w.held).0 (word_met s.rules [] w.is_trailing w.waiting w.position word w.held).1)) ≡ []
          → AreFilled (walked_from s.rules [] stopped w word).held.rows
      by (Some p) e = good
      by None e =
          let own = either _ _ e in
          step_filled word w _ _
          (word_filled w.is_trailing w.waiting w.position word w.held good own.0) own.1

  walk_filled : (words : List Text) (w : Walk) → AreFilled w.held.rows → walk_fault s [] w words ≡ []
      → AreFilled (fold (walked s.rules []) w words).held.rows
  unfolding walk_fault
  walk_filled [] w good e = good
  walk_filled (word ∷ words) w good e =
      let own = either _ _ e in
      walk_filled words (walked s.rules [] w word) (turn_filled w word good own.0) own.1

-- ---- after the walk

of_defaults : (id : Text) (how : Reading) (values : List Text) (rows : List Row) → AreFilled rows
    → AreFilled (default_rows id how values rows)
of_defaults id how [] rows good = good
of_defaults id how (v ∷ vs) rows good = with_filled id how DefaultValue (v ∷ vs) rows refl good

default_filled : (rows : List Row) (a : Rule) → AreFilled rows → AreFilled (with_default rows a)
default_filled rows a good =
    let P : Bool → Type 0 = λ b. AreFilled (cond b rows (default_rows a.id (reading_by a) a.defaults rows)) in
    elim (has_row a.id rows) as P [ true ↦ good | false ↦ of_defaults a.id (reading_by a) a.defaults rows good ]

defaults_filled : (rules : List Rule) (rows : List Row) → AreFilled rows → AreFilled (fold with_default rows rules)
defaults_filled [] rows good = good
defaults_filled (a ∷ rules) rows good = defaults_filled rules (with_default rows a) (default_filled rows a good)

-- what is given has a value
given_first : (id : Text) (rows : List Row) → AreFilled rows → is_given id rows ≡ true
    → is_some (first_of id rows) ≡ true
given_first id rows good e =
    let P : Option Row → Type 0 =
    λ o. option_map_or (λ (r : Row). explicit_source r.source) o false ≡ true
    → is_some (option_and_then (λ (r : Row). slice_get r.values 0) o) ≡ true in
    find_each P IsFilled (λ r. bytes_eq r.id id) rows (λ e. cc e) (λ r filled e. filled) good e

one_given : (required : Bool) (id : Text) (rows : List Row) → AreFilled rows
    → (required && not (is_given id rows)) ≡ false → (not required || is_some (first_of id rows)) ≡ true
one_given false id rows good e = refl
one_given true id rows good e = given_first id rows good (not_false (is_given id rows) e)

all_given : (rules : List Rule) (rows : List Row) → AreFilled rows
    → list_any (λ a. a.required && not (is_given a.id rows)) rules ≡ false
    → list_all (λ a. not a.required || is_some (first_of a.id rows)) rules ≡ true
all_given [] rows good e = refl
all_given (a ∷ rules) rows good e =
    let own =
    neither (a.required && not (is_given a.id rows)) (list_any (λ a. a.required && not (is_given a.id rows)) rules) e in
    both (not a.required || is_some (first_of a.id rows))
    (list_all (λ a. not a.required || is_some (first_of a.id rows)) rules)
    (one_given a.required a.id rows good own.0) (all_given rules rows good own.1)

-- the last checks: a subcommand that is wanted is there, and so is an argument
checked : (help command argument : Bool) → check_kinds help command argument ≡ []
    → (command ≡ false) × (argument ≡ false)
checked true command argument e = cc e
checked false true argument e = cc e
checked false false true e = cc e
checked false false false e = (refl, refl)

unlifted : (negates missing : Bool) → (not (negates && false) && missing) ≡ false → missing ≡ false
unlifted true missing e = e
unlifted false missing e = e

wanted : (has wants : Bool) → (not has && wants) ≡ false → wants ≡ true → has ≡ true
wanted true wants e is = refl
wanted false wants e is = cc (sym is ∙ e)

command_wanted : (s : Shape) (rows : List Row) (has : Bool) → s.subcommand_required ≡ true
    → check_fault s rows has ≡ [] → has ≡ true
command_wanted s rows has is e = wanted has s.subcommand_required (checked _ _ _ e).0 is

-- a level without a fault has none in its walk, in what is below it, in what is pending, and in the last checks
level_parts : (s : Shape) (names : Names) (words : List Text) (has : Bool) (below : Kinds)
    → level_fault s names nothing_held words has below ≡ []
    → (walk_fault s names (walk_from nothing_held) words ≡ []) × (below ≡ [])
    × (settle_fault s.rules s.args_override_self (walk s.rules names nothing_held words).held ≡ [])
    × (check_fault s (finished s.rules (walk s.rules names nothing_held words).held) has ≡ [])
level_parts s names words has below e =
    let walked_well = either _ _ e in
    let below_well = either _ _ walked_well.1 in
    let settled_well = either _ _ below_well.1 in
    let given_well = either _ _ settled_well.1 in
    (walked_well.0, below_well.0, settled_well.0, given_well.1)

-- and a value for each argument that it requires
level_whole : (s : Shape) (words : List Text) → list_all fills s.rules ≡ true
    → level_fault s [] nothing_held words false [] ≡ [] → has_required (rows_after s.rules [] words) s ≡ true
level_whole s words is e =
    let each = each_filling s.rules is in
    let end : Held = (walk s.rules [] nothing_held words).held in
    let own = level_parts s [] words false [] e in
    let rows : List Row = rows_after s.rules [] words in
    let good : AreFilled rows =
    defaults_filled s.rules (settled s.rules end).rows
    (settled_filled s each end.pending end.rows (walk_filled s each words (walk_from nothing_held) tt own.0) own.2) in
    all_given s.rules rows good
    (unlifted s.subcommand_negates_reqs (list_any (λ a. a.required && not (is_given a.id rows)) s.rules) (checked _ _ _ own.3).1)

-- ---- the desk's level, whose walk stops at no call for help

abbrev top : Shape
top = (built desk_app).top

abbrev names : Names
names = names_of (built desk_app)

abbrev IsApart : Option (Text × List Text) → Type 0
IsApart None = Unit {0}
IsApart (Some p) = bytes_eq p.0 (codes "help") ≡ false

abbrev StepsApart : Step → Type 0
StepsApart (subcommand name) = bytes_eq name (codes "help") ≡ false
StepsApart (next waiting) = Unit {0}
StepsApart (trailing position) = Unit {0}
StepsApart value = Unit {0}

plain_apart : (waiting : Waiting) (word : Text) (h : Held) → StepsApart (plain_word top.rules waiting word h).1
plain_apart idle word h = tt
plain_apart positional word h = tt
plain_apart (option id) word h = tt

flag_apart : (waiting : Waiting) (word : Text) (h : Held) (met : Outcome)
    → StepsApart (after_flag top.rules waiting word h met).1
flag_apart waiting word h done = tt
flag_apart waiting word h (waits id) = tt
flag_apart waiting word h plain = plain_apart waiting word h
flag_apart waiting word h refused = plain_apart waiting word h

short_apart : (waiting : Waiting) (word : Text) (flags : Option Text) (h : Held)
    → StepsApart (short_or_plain top.rules waiting word flags h).1
short_apart waiting word None h = plain_apart waiting word h
short_apart waiting word (Some flags) h = flag_apart waiting word _ _

long_apart : (waiting : Waiting) (word : Text) (name : Option (Text × Option Text)) (h : Held)
    → StepsApart (long_or_other top.rules waiting word name h).1
long_apart waiting word (Some p) h = flag_apart waiting word _ _
long_apart waiting word None h = short_apart waiting word (short_of word) h

no_help : (b : Bool) → cond (b && true) (DisplayHelp ∷ InvalidSubcommand ∷ []) [] ≡ [] → b ≡ false
no_help true e = cc e
no_help false e = refl

other_apart : (met : Option Text) (waiting : Waiting) (position : ℕ) (word : Text) (h : Held)
    → other_fault top met word h ≡ []
    → StepsApart (subcommand_or_other top.rules met waiting position word h).1
other_apart (Some name) waiting position word h e = no_help (bytes_eq name (codes "help")) e
other_apart None waiting position word h e =
    let P : Bool → Type 0 =
    λ b. StepsApart (cond b (h, trailing position) (long_or_other top.rules waiting word (long_of word) h)).1 in
    elim (bytes_eq word (45 ∷ 45 ∷ [])) as P [ true ↦ tt | false ↦ long_apart waiting word (long_of word) h ]

word_apart : (is_trailing : Bool) (waiting : Waiting) (position : ℕ) (word : Text) (h : Held)
    → word_fault top names is_trailing waiting word h ≡ []
    → StepsApart (word_met top.rules names is_trailing waiting position word h).1
word_apart true waiting position word h e = tt
word_apart false waiting position word h e =
    other_apart (subcommand_met names waiting word) waiting position word h e

rule_apart : (o : Option Rule) (word : Text) (w : Walk) (h : Held) → IsApart w.stopped
    → IsApart (to_positional top.rules o word w h).stopped
rule_apart None word w h apart = apart
rule_apart (Some a) word w h apart = tt

step_apart : (word : Text) (w : Walk) (h : Held) (step : Step) → IsApart w.stopped → StepsApart step
    → IsApart (after_step top.rules word w h step).stopped
step_apart word w h (next waiting) apart steps = apart
step_apart word w h (trailing position) apart steps = apart
step_apart word w h (subcommand name) apart steps = steps
step_apart word w h value apart steps = rule_apart (arg_by_index top.rules w.position) word w h apart

turn_apart : (w : Walk) (word : Text) → IsApart w.stopped → turn_fault top names w word ≡ []
    → IsApart (walked top.rules names w word).stopped
unfolding walked
turn_apart w word apart e = by w.stopped apart e
  where
    by : (stopped : Option (Text × List Text)) → IsApart stopped
        → cond (is_some stopped) [] (or_else (word_fault top names w.is_trailing w.waiting word w.held) (step_fault top w.position (word_met top.rules names w.is_trailing w.waiting w.position word w.held).0 (word_met top.rules names w.is_trailing w.waiting w.position word w.held).1)) ≡ []
        → IsApart (walked_from top.rules names stopped w word).stopped
    by (Some p) stays e = stays
    by None stays e =
        step_apart word w _ _ apart
        (word_apart w.is_trailing w.waiting w.position word w.held (either _ _ e).0)

walk_apart : (words : List Text) (w : Walk) → IsApart w.stopped → walk_fault top names w words ≡ []
    → IsApart (fold (walked top.rules names) w words).stopped
unfolding walk_fault
walk_apart [] w apart e = apart
walk_apart (word ∷ words) w apart e =
    let own = either _ _ e in
    walk_apart words (walked top.rules names w word) (turn_apart w word apart own.0) own.1

-- ---- the commands

abbrev subs : List Shape
subs = (built desk_app).subs

abbrev shape_at : List Shape → ℕ → Shape
shape_at [] i = top
shape_at (s ∷ shapes) zero = s
shape_at (s ∷ shapes) (suc i) = shape_at shapes i

abbrev Enters : Text × List Text → Option Shape → Type 0
Enters p o =
    option_map_or (λ s. level_fault s [] nothing_held p.1 false []) o [] ≡ []
    → IfSome (option_map (λ s. rows_at s p.1) o) (λ q. IsWhole q.0 q.1)

help_apart : (name : Text) → bytes_eq name (codes "help") ≡ false → (bytes_eq (codes "help") name || false) ≡ true → ⊥
help_apart name apart is =
    let same : codes "help" ≡ name = (bytes_eq-Decides (codes "help") name).0 (or_none (bytes_eq (codes "help") name) is) in
    let yes : bytes_eq name (codes "help") ≡ true = (bytes_eq-Decides name (codes "help")).1 (sym same) in
    cc (sym apart ∙ yes)

entered_whole : (stop : Option (Text × List Text)) → IsApart stop → entered_fault (built desk_app) stop ≡ []
    → IfSome (entered (built desk_app) stop) (λ q. IsWhole q.0 q.1)
unfolding IsWhole
entered_whole None apart e = tt
entered_whole (Some p) apart e =
    find_passed (Enters p) (λ s. answers_to p.0 (label_of s)) subs (λ e. tt) (
      λ is e. level_whole (shape_at subs 0) p.1 refl e,
      (
        λ is e. level_whole (shape_at subs 1) p.1 refl e,
        (
          λ is e. level_whole (shape_at subs 2) p.1 refl e,
          (
            λ is e. level_whole (shape_at subs 3) p.1 refl e,
            (
              λ is e. level_whole (shape_at subs 4) p.1 refl e,
              (
                λ is e. level_whole (shape_at subs 5) p.1 refl e,
                (
                  λ is e. level_whole (shape_at subs 6) p.1 refl e,
                  (
                    λ is e. level_whole (shape_at subs 7) p.1 refl e,
                    (
                      λ is e. level_whole (shape_at subs 8) p.1 refl e,
                      (
                        λ is e. level_whole (shape_at subs 9) p.1 refl e,
                        (
                          λ is e. level_whole (shape_at subs 10) p.1 refl e,
                          (
                            λ is e. level_whole (shape_at subs 11) p.1 refl e,
                            (
                              λ is e. level_whole (shape_at subs 12) p.1 refl e,
                              (λ is e. absurd (help_apart p.0 apart is), tt),
                            ),
                          ),
                        ),
                      ),
                    ),
                  ),
                ),
              ),
            ),
          ),
        ),
      ),
    ) e

some_and : {X : Type 0} (P : X → Type 0) (o : Option X) → is_some o ≡ true → IfSome o P → IsSomeAnd o P
some_and P None some h = cc some
some_and P (Some x) some h = h

-- words without a fault ask for one of the desk's commands, with what it requires
pub asked_whole : (words : List Text) → fault_of desk_app words ≡ []
    → IsSomeAnd (subcommand_of desk_app words) (λ q. IsWhole q.0 q.1)
asked_whole words e =
    let given : List Text = argument_words desk_app words in
    let stop : Option (Text × List Text) = stop_after top.rules names given in
    let found : Option (Text × List Row) = entered (built desk_app) stop in
    let own = level_parts top names given (is_some found) (entered_fault (built desk_app) stop) e in
    let apart = walk_apart given (walk_from nothing_held) tt own.0 in
    let some =
    command_wanted top (finished top.rules (walk top.rules names nothing_held given).held) (is_some found) refl own.3 in
    some_and (λ q. IsWhole q.0 q.1) found some (entered_whole stop apart own.1)

-- ---- what each command requires

pub of_plan : (rows : List Row) → IsWhole (codes "plan") rows → is_some (first_of (codes "book") rows) ≡ true
unfolding IsWhole
of_plan rows whole = (parts _ _ whole).0

pub of_why : (rows : List Row) → IsWhole (codes "why") rows → is_some (first_of (codes "book") rows) ≡ true
unfolding IsWhole
of_why rows whole = (parts _ _ whole).0

pub of_limits : (rows : List Row) → IsWhole (codes "limits") rows → is_some (first_of (codes "book") rows) ≡ true
unfolding IsWhole
of_limits rows whole = (parts _ _ whole).0

pub of_table : (rows : List Row) → IsWhole (codes "table") rows → is_some (first_of (codes "book") rows) ≡ true
unfolding IsWhole
of_table rows whole = (parts _ _ whole).0

pub of_chart : (rows : List Row) → IsWhole (codes "chart") rows → is_some (first_of (codes "book") rows) ≡ true
unfolding IsWhole
of_chart rows whole = (parts _ _ whole).0

pub of_diff : (rows : List Row) → IsWhole (codes "diff") rows → (is_some (first_of (codes "book") rows) ≡ true)
    × (is_some (first_of (codes "other") rows) ≡ true)
unfolding IsWhole
of_diff rows whole =
    let book = parts _ _ whole in
    let report = parts _ _ book.1 in
    (book.0, (parts _ _ report.1).0)

pub of_assigns : (rows : List Row) → IsWhole (codes "assigns") rows
    → is_some (first_of (codes "report") rows) ≡ true
unfolding IsWhole
of_assigns rows whole = (parts _ _ whole).0

pub of_fault : (rows : List Row) → IsWhole (codes "fault") rows → is_some (first_of (codes "book") rows) ≡ true
unfolding IsWhole
of_fault rows whole = (parts _ _ whole).0

pub of_warn : (rows : List Row) → IsWhole (codes "warn") rows → is_some (first_of (codes "book") rows) ≡ true
unfolding IsWhole
of_warn rows whole = (parts _ _ whole).0

pub of_fair : (rows : List Row) → IsWhole (codes "fair") rows → is_some (first_of (codes "book") rows) ≡ true
unfolding IsWhole
of_fair rows whole = (parts _ _ whole).0

pub of_carry : (rows : List Row) → IsWhole (codes "carry") rows
    → (is_some (first_of (codes "book") rows) ≡ true) × (is_some (first_of (codes "report") rows) ≡ true)
unfolding IsWhole
of_carry rows whole =
    let book = parts _ _ whole in
    (book.0, (parts _ _ book.1).0)

pub of_repair : (rows : List Row) → IsWhole (codes "repair") rows
    → (is_some (first_of (codes "book") rows) ≡ true) × (is_some (first_of (codes "report") rows) ≡ true)
    × (is_some (first_of (codes "from") rows) ≡ true)
unfolding IsWhole
of_repair rows whole =
    let book = parts _ _ whole in
    let report = parts _ _ book.1 in
    (book.0, report.0, (parts _ _ report.1).0)

pub of_book : (rows : List Row) → IsWhole (codes "book") rows
    → (is_some (first_of (codes "folder") rows) ≡ true) × (is_some (first_of (codes "month") rows) ≡ true)
unfolding IsWhole
of_book rows whole =
    let folder = parts _ _ whole in
    (folder.0, (parts _ _ folder.1).0)

-- there is no other command
none_named : (P : Shape → Type 0) (name : Text) (shapes : List Shape) → Each (λ s. name ≡ s.name → ⊥) shapes
    → IsSomeAnd (find (λ s. bytes_eq s.name name) shapes) P → ⊥
none_named P name [] apart found = found
none_named P name (s ∷ shapes) apart found =
    let Q : Bool → Type 0 =
    λ b. (b ≡ true → s.name ≡ name) → IsSomeAnd (cond b (Some s) (find (λ s. bytes_eq s.name name) shapes)) P → ⊥ in
    elim (bytes_eq s.name name) as Q [
      | true ↦ λ same found. apart.0 (sym (same refl))
      | false ↦ λ same found. none_named P name shapes apart.1 found
    ] (bytes_eq-Decides s.name name).0 found

pub no_other : (name : Text) (rows : List Row) → Each (λ s. name ≡ s.name → ⊥) desk_app.subs
    → IsWhole name rows → ⊥
unfolding IsWhole
no_other name rows apart whole =
    none_named (λ command. has_required rows command ≡ true) name desk_app.subs apart whole

-- what is known of the rows of the subcommand that was entered
pub whole_at : (o : Option (Text × List Row)) (name : Text) (rows : List Row) → Some name ≡ option_map (λ q. q.0) o
    → Some rows ≡ option_map (λ q. q.1) o → IsSomeAnd o (λ q. IsWhole q.0 q.1) → IsWhole name rows
whole_at None name rows is-name is-rows whole = absurd whole
whole_at (Some q) name rows is-name is-rows whole =
    subst (λ n. IsWhole n rows) (sym (same_Some name q.0 is-name))
    (subst (λ r. IsWhole q.0 r) (sym (same_Some rows q.1 is-rows)) whole)

-- and of its name
module _ {Z : Type 0} where
  pub name_in_rows : (entered : Option (Box SubCommand Z))
      → option_map (λ b. (out-SubCommand (box_value b)).name.now) entered ≡ option_map (λ q. q.0) (subcommand_rows entered)
  name_in_rows None = refl
  name_in_rows (Some b) = refl
