-- What the text of a report says of who has what.
use Rattle.std.specs.Prelude.{ℕ, Bool, List, [], ◌∷◌, ◌++◌, ◌+◌, if◌then◌else◌, not, length, map, codes, take, drop, nat_eq, slice_index_or}
use Rattle.std.specs.Borrow.{Bor}
use Rattle.std.specs.Char.{is_ascii_whitespace}
use Rattle.std.specs.List.{filter, flat_map, slice_split}
use Rattle.std.specs.Str.{bytes_eq}
use Rattle.roster_desk_reports.specs.declared.report.CrewLine.{CrewLine}

-- the bytes of words, or of lines, that were parted
abbrev pub texts : List (Bor (List ℕ)) → List (List ℕ)
texts words = map (λ word. word.now) words

-- the text without the byte order mark before it, if it has one
abbrev pub text_of : List ℕ → List ℕ
text_of text = if bytes_eq (take 3 text) (239 ∷ 187 ∷ 191 ∷ []) then drop 3 text else text

-- the lines of a text
abbrev pub lines_of : List ℕ → List (List ℕ)
lines_of text = slice_split (λ byte. nat_eq byte 10) text

-- the words of a line, which blanks part
abbrev pub words_of : List ℕ → List (List ℕ)
words_of line = filter (λ word. not (nat_eq (length word) 0)) (slice_split is_ascii_whitespace line)

-- the word at a place; no byte if there is none
abbrev pub word_at : List (List ℕ) → ℕ → List ℕ
word_at words i = slice_index_or words i []

-- the word as a name, if it is one: `-` is none
abbrev pub name_of : List ℕ → List (List ℕ)
name_of word = if bytes_eq word (codes "-") then [] else word ∷ []

abbrev pub names_of : List (List ℕ) → List (List ℕ)
names_of words = flat_map name_of words

-- A person, and the names of their pairings.
abbrev pub Given : Type 0
Given = (List ℕ) × List (List ℕ)

abbrev pub is_crew : List (List ℕ) → Bool
is_crew words = bytes_eq (word_at words 0) (codes "CREW")

-- what the words of a line give: only those of a `CREW` line give something, by its second word and those behind the seventh
abbrev pub given_by : List (List ℕ) → List Given
given_by words = if is_crew words then (word_at words 1, names_of (drop 7 words)) ∷ [] else []

-- ---- line by line, each with its number

-- the lines from this number on
abbrev pub given_from : ℕ → List (List ℕ) → List (ℕ × Given)
given_from number [] = []
given_from number (line ∷ rest) =
    map (λ given. (number, given)) (given_by (words_of line)) ++ given_from (number + 1) rest

abbrev pub numbered_by_text : List ℕ → List (ℕ × Given)
numbered_by_text text = given_from 1 (lines_of (text_of text))

-- what a text gives, in its order
abbrev pub given_by_text : List ℕ → List Given
given_by_text text = map (λ numbered. numbered.1) (numbered_by_text text)

-- the same of lines that were read
abbrev pub given_by_line : CrewLine → Given
given_by_line crew = (crew.person, crew.pairings.items)

abbrev pub numbered_by_line : CrewLine → ℕ × Given
numbered_by_line crew = (crew.line, given_by_line crew)

-- ---- records

-- the record that gives a pairing to a person
abbrev pub assign_record : List ℕ → List ℕ → List ℕ
assign_record person pairing = codes "assign," ++ pairing ++ codes "," ++ person ++ 10 ∷ []

-- those of what a person is given
abbrev pub assigns_of : Given → List ℕ
assigns_of given = flat_map (assign_record given.0) given.1
