-- What of a published roster is fixed, and the rosters of the rest. A list of what is fixed has for each
-- pairing of the book, in book order, the number that stands for who keeps it, or nothing if it is rostered
-- anew.
use Rattle.std.specs.Prelude.{ℕ, ◌+◌, zero, suc, Bool, ◌&&◌, nat_lt, if◌then◌else◌, List, [], ◌∷◌, map, Option, Some, None, slice_get}
use Rattle.std.specs.List.{list_any}
use Rattle.roster_model.specs.Problem.{Problem}
use Rattle.roster_model.specs.records.Duty.{Duty, Holder, OfPairing, OfPerson, is_held_by_pairing}
use Rattle.roster_model.specs.records.Pairing.{Pairing}

-- a duty of the pairing at place p reports before the instant
abbrev pub reports_before : List Duty → ℕ → ℕ → Bool
reports_before duties instant p =
    list_any (λ duty. is_held_by_pairing p duty.holder && nat_lt duty.report instant) duties

-- what is fixed of a published roster at an instant; its first number is that of the pairing at place p
abbrev pub fixed_from : List Duty → ℕ → ℕ → List ℕ → List (Option ℕ)
fixed_from duties instant p [] = []
fixed_from duties instant p (x ∷ published) =
    (if reports_before duties instant p then Some x else None) ∷ fixed_from duties instant (p + 1) published

-- the elements of the pairings that are rostered anew
abbrev pub staying : {X : Type 0} → List (Option ℕ) → List X → List X
staying [] xs = []
staying (f ∷ fixed) [] = []
staying (Some n ∷ fixed) (x ∷ xs) = staying fixed xs
staying (None ∷ fixed) (x ∷ xs) = x ∷ staying fixed xs

-- the roster of the whole book: what is fixed, and for the other pairings the numbers of the rest
abbrev pub whole : List (Option ℕ) → List ℕ → List ℕ
whole [] rest = []
whole (Some n ∷ fixed) rest = n ∷ whole fixed rest
whole (None ∷ fixed) [] = []
whole (None ∷ fixed) (x ∷ rest) = x ∷ whole fixed rest

-- how many of the pairings before place p are rostered anew: the place of p among these
abbrev pub rank : List (Option ℕ) → ℕ → ℕ
rank [] p = 0
rank (f ∷ fixed) zero = 0
rank (Some n ∷ fixed) (suc p) = rank fixed p
rank (None ∷ fixed) (suc p) = rank fixed p + 1

-- Who holds the duties of a pairing in the repaired book: nobody any more, if it was left open and is fixed so.
abbrev pub holder_with : ℕ → ℕ → Option (Option ℕ) → Option Holder
holder_with nobody place None = None
holder_with nobody place (Some None) = Some (OfPairing place)
holder_with nobody place (Some (Some n)) = if nat_lt n nobody then Some (OfPerson n) else None

abbrev pub kept_holder : ℕ → List (Option ℕ) → Holder → Option Holder
kept_holder nobody fixed (OfPerson k) = Some (OfPerson k)
kept_holder nobody fixed (OfPairing p) = holder_with nobody (rank fixed p) (slice_get fixed p)

-- the duty without the number of its record
abbrev pub unrowed : Duty → Duty
unrowed duty = record duty { row = 0 }

-- and with another holder in front of others, or left out
abbrev pub held : Duty → Option Holder → List Duty → List Duty
held duty None others = others
held duty (Some holder) others = record duty { holder = holder; row = 0 } ∷ others

-- the duties of the repaired book
abbrev pub kept_duties : ℕ → List (Option ℕ) → List Duty → List Duty
kept_duties nobody fixed [] = []
kept_duties nobody fixed (duty ∷ duties) =
    held duty (kept_holder nobody fixed duty.holder) (kept_duties nobody fixed duties)

-- the duty as a person knows it: whose it is in a book, and the number of its record, left aside
abbrev pub plain : Duty → Duty
plain duty = record duty { holder = OfPerson 0; row = 0 }

-- the pairing without the number of its record
abbrev pub unnumbered : Pairing → Pairing
unnumbered pairing = record pairing { row = 0 }
