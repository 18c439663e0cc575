-- What a report gives of a book that doesn't have all of its persons and pairings.
use Rattle.std.specs.Prelude.{◌++◌, ◌∷◌, ℕ, Bool, List, [], Option, codes, filter, if◌then◌else◌, is_some, map}
use Rattle.std.specs.List.{flat_map, list_all}
use Rattle.std.specs.Option.{option_or}
use Rattle.roster_model.specs.Problem.{Problem}
use Rattle.roster_model.specs.Record.{place_named}
use Rattle.roster_desk_reports.specs.Faults.{Told, fault_of_text, heading_of, month_fault, placing_fault}
use Rattle.roster_desk_reports.specs.Text.{Given, numbered_by_text}

-- the book has a pairing of the name
abbrev pub is_known : Problem → List ℕ → Bool
is_known problem name = is_some (place_named (λ pairing. pairing.id) name problem.pairings)

-- the book has a person of the name
abbrev pub is_there : Problem → List ℕ → Bool
is_there problem name = is_some (place_named (λ person. person.id) name problem.persons)

abbrev pub known_names : Problem → List (List ℕ) → List (List ℕ)
known_names problem names = filter (is_known problem) names

-- what a person is given of the book's pairings, with the number of the line
abbrev pub known_numbered : Problem → ℕ × Given → ℕ × Given
known_numbered problem numbered = (numbered.0, (numbered.1.0, known_names problem numbered.1.1))

-- so it is of the book's persons
abbrev pub known_lines : Problem → List (ℕ × Given) → List (ℕ × Given)
known_lines problem lines = map (known_numbered problem) (filter (λ numbered. is_there problem numbered.1.0) lines)

-- what a text gives the book's persons of its pairings, in its order
abbrev pub known_by_text : Problem → List ℕ → List Given
known_by_text problem text = map (λ numbered. numbered.1) (known_lines problem (numbered_by_text text))

-- what is wrong with the report as one of a book that doesn't have all of its persons and pairings
abbrev pub fault_of_known : Problem → List ℕ → Option Told
fault_of_known problem text =
    option_or (fault_of_text text)
    (option_or (month_fault problem (heading_of text))
    (placing_fault problem [] (known_lines problem (numbered_by_text text))))

-- ---- what is passed over

-- the name of a pairing and a blank, if the book doesn't have it
abbrev pub unknown_name : Problem → List ℕ → List ℕ
unknown_name problem pairing = if is_known problem pairing then [] else pairing ++ 32 ∷ []

-- the line of the pairings of a person that the book doesn't have, if there are some
abbrev pub unknown_line : Problem → Given → List ℕ
unknown_line problem given =
    if list_all (is_known problem) given.1 then []
    else codes "not in the book: " ++ flat_map (unknown_name problem) given.1 ++ codes "of " ++ given.0 ++ 10 ∷ []

-- the line of the person if the book doesn't have the person, and else that of the pairings
abbrev pub unknown_of : Problem → Given → List ℕ
unknown_of problem given =
    if is_there problem given.0 then unknown_line problem given
    else codes "not in the book: person " ++ given.0 ++ 10 ∷ []
