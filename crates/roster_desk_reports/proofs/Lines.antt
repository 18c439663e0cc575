-- What the lines of a report say, line by line.
use Rattle.std.proofs.Common.{◌≡◌, ℕ, ◌+◌, ◌<◌, ◌++◌, ◌∷◌, List, Bool, Option, None, Some, true, false, get_or, map, drop, take, length, [], Bor, refl, sym, ap, ◌∙◌}
use Rattle.std.specs.Prelude.{◌&&◌, ◌||◌, not}
use Rattle.std.specs.List.{list_all}
use Rattle.std.specs.Option.{option_or}
use Rattle.std.proofs.lemmas.List.{at_drop_more, append-nil, map-append, take_more}
use Rattle.std.proofs.lemmas.Grind.{flat_map-append}
use Rattle.std.proofs.lemmas.List.Folds.{list_all-append}
use Rattle.roster_model.specs.Form.{is_identifier}
use Rattle.roster_model.specs.Problem.{Problem}
use Rattle.roster_desk_reports.specs.Faults.{Heading, IsTold, IsWrongAt, Told, fault_of_report, fault_of_text, first_fault, form_fault, heading_at, heading_from, heading_of, is_blank, is_month_of, line_fault, month_fault, pairings_in, placing_fault, told_or}
use Rattle.roster_desk_reports.specs.Text.{Given, given_by, given_from, name_of, names_of, numbered_by_text, words_of}
use Rattle.roster_desk_reports.specs.declared.fault.ReportFault.{ReportFault}
use Rattle.roster_desk_reports.specs.declared.fault.ReportFault.TheVariants.{At, Memory}
use Rattle.roster_desk_reports.specs.declared.fault.Wrong.{Wrong}

-- ---- what the next line says, and what the lines behind it say

pub given_next : (number : ℕ) (lines : List (List ℕ)) (i : ℕ) (line : List ℕ) → i < length lines
    → get_or lines i line ≡ line → given_from number (drop i lines)
    ≡ map (λ given. (number, given)) (given_by (words_of line)) ++ given_from (number + 1) (drop (i + 1) lines)
given_next number lines i line few at =
    at_drop_more (given_from number) lines i line few
    ∙ ap (λ text. map (λ given. (number, given)) (given_by (words_of text)) ++ given_from (number + 1) (drop (i + 1) lines)) at

pub heading_next : (number : ℕ) (lines : List (List ℕ)) (i : ℕ) (line : List ℕ) → i < length lines
    → get_or lines i line ≡ line → heading_from number (drop i lines)
    ≡ heading_at (words_of line) number (heading_from (number + 1) (drop (i + 1) lines))
heading_next number lines i line few at =
    at_drop_more (heading_from number) lines i line few
    ∙ ap (λ text. heading_at (words_of text) number (heading_from (number + 1) (drop (i + 1) lines))) at

-- what is told of the lines behind the next one
abbrev pub told_later : Bool → ℕ → ℕ → List ℕ → List (List ℕ) → Option Told
told_later begun count number line rest =
    first_fault (begun || not (is_blank (words_of line))) (count + pairings_in (words_of line)) (number + 1) rest

pub fault_next : (begun : Bool) (count number : ℕ) (lines : List (List ℕ)) (i : ℕ) (line : List ℕ)
    → i < length lines → get_or lines i line ≡ line → first_fault begun count number (drop i lines)
    ≡ told_or number (line_fault begun count (words_of line)) (told_later begun count number line (drop (i + 1) lines))
fault_next begun count number lines i line few at =
    at_drop_more (first_fault begun count number) lines i line few
    ∙ ap (λ text. told_or number (line_fault begun count (words_of text)) (told_later begun count number text (drop (i + 1) lines))) at

-- ---- what is told

-- what is wrong with a line is told
pub told_here : (number : ℕ) (told : Option Wrong) (later : Option Told) (fault : ReportFault)
    → IsWrongAt number told fault → IsTold (told_or number told later) fault
told_here number told later (At line wrong) is =
    ap (λ here. told_or number here later) is.1 ∙ ap (λ n. Some (n, wrong)) (sym is.0)
told_here number told later Memory is = tt

-- what is told first stays
pub told_first : (first later : Option Told) (fault : ReportFault) → IsTold first fault
    → IsTold (option_or first later) fault
told_first first later (At line wrong) is = ap (λ told. option_or told later) is
told_first first later Memory is = tt

-- of a report of the book's month only its lines are told
pub placing_told : (problem : Problem) (heading : Heading) (told : Option Told)
    → is_month_of problem heading.0 ≡ true → option_or (month_fault problem (Some heading)) told ≡ told
placing_told problem heading told month = rw month refl

-- what is wrong with a report that can be one
pub report_told : (problem : Problem) (text : List ℕ) (heading : Heading) (all : List (ℕ × Given))
    → fault_of_text text ≡ None → heading_of text ≡ Some heading → all ≡ numbered_by_text text
    → fault_of_report problem text
    ≡ option_or (month_fault problem (Some heading)) (placing_fault problem [] all)
report_told problem text heading all sound month given =
    ap (λ told. option_or told (option_or (month_fault problem (heading_of text)) (placing_fault problem [] (numbered_by_text text)))) sound
    ∙ ap (λ found. option_or (month_fault problem found) (placing_fault problem [] (numbered_by_text text))) month
    ∙ ap (λ lines. option_or (month_fault problem (Some heading)) (placing_fault problem [] lines)) (sym given)

-- ---- a line's names, and their form

-- one word more
pub names_next : (old : List (List ℕ)) (words : List (Bor (List ℕ))) (i : ℕ) (d : Bor (List ℕ)) (new : List (List ℕ))
    → i < length words → old ≡ names_of (map (λ word. word.now) (take i words))
    → new ≡ old ++ name_of (get_or words i d).now
    → new ≡ names_of (map (λ word. word.now) (take (i + 1) words))
names_next old words i d new few so_far next =
    let more : map (λ word. word.now) (take (i + 1) words) ≡ map (λ word. word.now) (take i words) ++ (get_or words i d).now ∷ [] =
    ap (map (λ word. word.now)) (take_more words i d few) ∙ map-append (λ word. word.now) (take i words) (get_or words i d ∷ []) in
    next ∙ ap (λ names. names ++ name_of (get_or words i d).now) so_far
    ∙ ap (λ last. names_of (map (λ word. word.now) (take i words)) ++ last) (sym (append-nil (name_of (get_or words i d).now)))
    ∙ sym (flat_map-append name_of (map (λ word. word.now) (take i words)) ((get_or words i d).now ∷ []))
    ∙ ap names_of (sym more)

-- the next name's form, and that of those behind it
form_at : (words : List (List ℕ)) (i : ℕ) (word : List ℕ) → i < length words → get_or words i word ≡ word
    → list_all is_identifier (names_of (drop i words))
    ≡ (list_all is_identifier (name_of word) && list_all is_identifier (names_of (drop (i + 1) words)))
form_at words i word few at =
    at_drop_more (λ rest. list_all is_identifier (names_of rest)) words i word few
    ∙ ap (λ text. list_all is_identifier (name_of text ++ names_of (drop (i + 1) words))) at
    ∙ list_all-append is_identifier (name_of word) (names_of (drop (i + 1) words))

pub form_next : (words : List (List ℕ)) (i : ℕ) (word : List ℕ) → i < length words
    → get_or words i word ≡ word → list_all is_identifier (name_of word) ≡ true
    → list_all is_identifier (names_of (drop i words)) ≡ list_all is_identifier (names_of (drop (i + 1) words))
form_next words i word few at form =
    form_at words i word few at
    ∙ ap (λ here. here && list_all is_identifier (names_of (drop (i + 1) words))) form

pub form_stop : (words : List (List ℕ)) (i : ℕ) (word : List ℕ) → i < length words
    → get_or words i word ≡ word → list_all is_identifier (name_of word) ≡ false
    → list_all is_identifier (names_of (drop i words)) ≡ false
form_stop words i word few at form =
    form_at words i word few at
    ∙ ap (λ here. here && list_all is_identifier (names_of (drop (i + 1) words))) form

-- what is wrong with a part is wrong with the whole
pub form_told : (number : ℕ) (part whole : Bool) (fault : ReportFault) → (part ≡ false → whole ≡ false)
    → IsWrongAt number (form_fault part) fault → IsWrongAt number (form_fault whole) fault
form_told number part whole Memory then is = tt
form_told number true whole (At line wrong) then is = absurd cc
form_told number false whole (At line wrong) then is = (is.0, ap form_fault (then refl) ∙ is.1)
