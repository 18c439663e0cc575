-- A report of the book as it was.
use Rattle.std.proofs.Common.{◌≡◌, ◌∙◌, ◌∷◌, ℕ, Bool, List, [], None, Some, ap, cond, false, filter, map, refl, sym, true}
use Rattle.std.specs.Option.{option_or}
use Rattle.std.proofs.lemmas.Simd.{map-map}
use Rattle.roster_model.specs.Problem.{Problem}
use Rattle.roster_desk_reports.specs.Faults.{Heading, fault_of_text, heading_of, month_fault, placing_fault}
use Rattle.roster_desk_reports.specs.Known.{fault_of_known, is_there, known_by_text, known_lines, known_numbered}
use Rattle.roster_desk_reports.specs.Text.{Given, given_by_line, given_by_text, numbered_by_line, numbered_by_text}
use Rattle.roster_desk_reports.specs.declared.report.CrewLine.{CrewLine}

-- what passes of the images of a list is the images of what passes of it
keep : {X Y : Type 0} (f : X → Y) (x : X) (test : Bool) (ys : List Y) (xs : List X) → ys ≡ map f xs
    → cond test (f x ∷ ys) ys ≡ map f (cond test (x ∷ xs) xs)
keep f x true ys xs same = ap (λ rest. f x ∷ rest) same
keep f x false ys xs same = same

filter-map : {X Y : Type 0} (p : Y → Bool) (f : X → Y) (xs : List X)
    → filter p (map f xs) ≡ map f (filter (λ x. p (f x)) xs)
filter-map p f [] = refl
filter-map p f (x ∷ xs) =
    keep f x (p (f x)) (filter p (map f xs)) (filter (λ y. p (f y)) xs) (filter-map p f xs)

-- its lines, with what the book has of them
pub known-numbered : (problem : Problem) (text : List ℕ) (lines known : List CrewLine)
    → map numbered_by_line lines ≡ numbered_by_text text
    → map numbered_by_line known
    ≡ map (λ crew. known_numbered problem (numbered_by_line crew)) (filter (λ crew. is_there problem crew.person) lines)
    → map numbered_by_line known ≡ known_lines problem (numbered_by_text text)
known-numbered problem text lines known all some =
    some
    ∙ sym (map-map (known_numbered problem) numbered_by_line (filter (λ crew. is_there problem crew.person) lines))
    ∙ ap (map (known_numbered problem)) (sym (filter-map (λ numbered. is_there problem numbered.1.0) numbered_by_line lines))
    ∙ ap (known_lines problem) all

pub known-given : (problem : Problem) (text : List ℕ) (lines known : List CrewLine)
    → map numbered_by_line lines ≡ numbered_by_text text
    → map numbered_by_line known
    ≡ map (λ crew. known_numbered problem (numbered_by_line crew)) (filter (λ crew. is_there problem crew.person) lines)
    → map given_by_line known ≡ known_by_text problem text
known-given problem text lines known all some =
    let second : ℕ × Given → Given = λ numbered. numbered.1 in
    sym (map-map second numbered_by_line known)
    ∙ ap (map second) (known-numbered problem text lines known all some)

-- what is wrong with it as one of the book
pub known-told : (problem : Problem) (text : List ℕ) (heading : Heading) (all : List (ℕ × Given))
    → fault_of_text text ≡ None → heading_of text ≡ Some heading
    → all ≡ known_lines problem (numbered_by_text text)
    → fault_of_known problem text
    ≡ option_or (month_fault problem (Some heading)) (placing_fault problem [] all)
known-told problem text heading all sound month given =
    let own = known_lines problem (numbered_by_text text) in
    ap (λ told. option_or told (option_or (month_fault problem (heading_of text)) (placing_fault problem [] own))) sound
    ∙ ap (λ found. option_or (month_fault problem found) (placing_fault problem [] own)) month
    ∙ ap (λ lines. option_or (month_fault problem (Some heading)) (placing_fault problem [] lines)) (sym given)

-- what all its lines give
pub given-text : (text : List ℕ) (lines : List CrewLine) → map numbered_by_line lines ≡ numbered_by_text text
    → map given_by_line lines ≡ given_by_text text
given-text text lines all =
    let second : ℕ × Given → Given = λ numbered. numbered.1 in
    sym (map-map second numbered_by_line lines) ∙ ap (map second) all
