-- The bases of persons and of pairings.
use Rattle.std.specs.Prelude.{ℕ, Bool, nat_lt, ◌==◌, List, length, option_map, slice_get, unwrap_or}
use Rattle.std.specs.List.{filter, list_any, range_with_len}
use Rattle.roster_model.specs.Problem.{Problem}

-- the base of the person at place k, and that of the pairing at place p
abbrev pub base_of_person : Problem → ℕ → ℕ
base_of_person problem k = unwrap_or (option_map (λ person. person.base) (slice_get problem.persons k)) 0

abbrev pub base_of_pairing : Problem → ℕ → ℕ
base_of_pairing problem p = unwrap_or (option_map (λ pairing. pairing.base) (slice_get problem.pairings p)) 0

-- one base alone
abbrev pub only : ℕ → ℕ → Bool
only n base = base == n

-- the bases before a number
abbrev pub before : ℕ → ℕ → Bool
before n base = nat_lt base n

-- somebody is of the base
abbrev pub has_crew : Problem → ℕ → Bool
has_crew problem base = list_any (λ person. person.base == base) problem.persons

-- the persons of the base among the first n, by their places, in book order
abbrev pub persons_before : Problem → ℕ → ℕ → List ℕ
persons_before problem base n = filter (λ k. only base (base_of_person problem k)) (range_with_len 0 n)

-- all of them, and its pairings
abbrev pub persons_of : Problem → ℕ → List ℕ
persons_of problem base = persons_before problem base (length problem.persons)

abbrev pub pairings_of : Problem → ℕ → List ℕ
pairings_of problem base =
    filter (λ p. only base (base_of_pairing problem p)) (range_with_len 0 (length problem.pairings))
