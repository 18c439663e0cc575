-- What names ask for.
use Rattle.std.specs.Prelude.{ℕ, List, Option, Some, None, Result, Ok, option_map, ok_or}
use Rattle.roster_model.specs.Problem.{Problem}
use Rattle.roster_model.specs.Record.{place_named}
use Rattle.roster_desk_given.specs.declared.asked.Unknown.{Unknown}
use Rattle.roster_desk_given.specs.declared.asked.Unknown.TheVariants as unknown

-- nothing if no name is given; else the place of the entry with the name, or if there is none the fault
abbrev pub asked_for : {X : Type 0} → (X → List ℕ) → List X → Unknown → Option (List ℕ)
    → Result (Option ℕ) Unknown
asked_for id_of entries fault None = Ok None
asked_for id_of entries fault (Some name) = ok_or (option_map Some (place_named id_of name entries)) fault

abbrev pub pairing_asked : Problem → Option (List ℕ) → Result (Option ℕ) Unknown
pairing_asked problem name = asked_for (λ pairing. pairing.id) problem.pairings unknown.Pairing name

abbrev pub person_asked : Problem → Option (List ℕ) → Result (Option ℕ) Unknown
person_asked problem name = asked_for (λ person. person.id) problem.persons unknown.Person name
