-- A pairing that breaks off: what of it reports from an instant on is left, and is a pairing of its own or stays
-- with somebody.
use Rattle.std.specs.Prelude.{◌≡◌, ℕ, ◌<◌, Bool, true, not, ◌&&◌, nat_le, if◌then◌else◌, List, [], ◌∷◌, ◌++◌, length, map, filter, Option, Some, None, slice_get}
use Rattle.std.specs.List.{list_any}
use Rattle.std.specs.Str.{bytes_eq}
use Rattle.roster_model.specs.Problem.{Problem, units_of, weight_of}
use Rattle.roster_model.specs.records.Duty.{Duty, Holder, OfPairing, OfPerson, is_held_by_pairing}
use Rattle.roster_model.specs.records.Pairing.{Pairing}
use Rattle.roster_desk_repair_terms.specs.Fixed.{reports_before, unnumbered, unrowed}
use Rattle.roster_desk_repair_terms.specs.Repaired.{IsSamePerson, name_of}
use Rattle.roster_desk_repair_judged.specs.declared.broken.Break.{Break}
use Rattle.roster_desk_repair_judged.specs.declared.broken.Rest.TheVariants as rests
use Rattle.roster_desk_repair_judged.specs.declared.broken.Rest.{Rest}

-- the duty is left of the pairing
abbrev pub is_left : Break → Duty → Bool
is_left off duty = is_held_by_pairing off.pairing duty.holder && nat_le off.at duty.report

-- one of its duties reports before the instant, and another is left
abbrev pub is_under_way : Problem → Break → Bool
is_under_way book off =
    reports_before book.duties off.at off.pairing && list_any (is_left off) book.duties

-- who has what is left: a pairing behind all others of the book, or the person with whom it stays
abbrev pub holder_of_rest : Problem → Rest → Holder
holder_of_rest book (rests.Positioned report release) = OfPairing (length book.pairings)
holder_of_rest book (rests.Stays k) = OfPerson k

-- the duty of the book, with who has it then
abbrev pub turned : Problem → Break → Duty → Duty
turned book off duty =
    record duty { holder = (if is_left off duty then holder_of_rest book off.rest else duty.holder); row = 0 }

-- the pairing of the rest, if it is one: its name and that it is the one that breaks off in all else
abbrev pub pairings_of_rest : List ℕ → Option Pairing → Rest → List Pairing
pairings_of_rest name None rest = []
pairings_of_rest name (Some pairing) (rests.Positioned report release) =
    record pairing { id = name; row = 0 } ∷ []
pairings_of_rest name (Some pairing) (rests.Stays k) = []

-- where the first of the duties of the pairing at place p reports
abbrev pub station_of : List Duty → ℕ → List ℕ
station_of [] p = []
station_of (duty ∷ duties) p = if is_held_by_pairing p duty.holder then duty.station else station_of duties p

-- a duty of the pairing at place p that has no sectors
abbrev pub lead : List ℕ → ℕ → List ℕ → ℕ → ℕ → Duty
lead name p station report release = record {
  id = name;
  holder = OfPairing p;
  station = station;
  report = report;
  release = release;
  sectors = [];
  row = 0;
}

-- The duty that brings somebody there from where the pairing began, if the rest is a pairing: the first of it, of the
-- same name.
abbrev pub positioning : Problem → ℕ → List ℕ → Rest → List Duty
positioning book p name (rests.Positioned report release) =
    lead name (length book.pairings) (station_of book.duties p) report release ∷ []
positioning book p name (rests.Stays k) = []

abbrev pub is_named : List ℕ → Duty → Bool
is_named name duty = bytes_eq duty.id name

-- The other book is the book in which the pairing breaks off, with its persons and their leave. Nothing else
-- changes, and the pairing of the rest costs nobody anything, as one that the book doesn't have.
pub record IsBrokenOff (book : Problem) (off : Break) (name : List ℕ) (broken : Problem) : Type 0 where
  pub begun : is_under_way book off ≡ true
  pub weight : weight_of broken ≡ weight_of book
  pub persons : length broken.persons ≡ length book.persons
  pub names : map name_of broken.persons ≡ map name_of book.persons
  pub same : (k : ℕ) → k < length book.persons → IsSamePerson book broken k
  pub leaves : broken.leaves ≡ book.leaves
  pub pairings : map unnumbered broken.pairings
      ≡ map unnumbered book.pairings ++ pairings_of_rest name (slice_get book.pairings off.pairing) off.rest
  pub duties : map unrowed (filter (λ duty. not (is_named name duty)) broken.duties)
      ≡ map (turned book off) book.duties
  pub first : map unrowed (filter (is_named name) broken.duties) ≡ positioning book off.pairing name off.rest
  pub units : (k p : ℕ) → k < length book.persons → p < length broken.pairings
      → units_of broken k p ≡ units_of book k p
