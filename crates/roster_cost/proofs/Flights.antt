-- The flight of the duties at some positions, and of the empty set.
use Rattle.std.proofs.Common.{◌≡◌, ℕ, suc, ◌+◌, ◌^◌, ◌<◌, List, [], ◌∷◌, ◌++◌, length, drop, get_or, Option, ℤ, pos, nat_abs, w64, to_z, of_z, refl, sym, ap, ◌∙◌, arith}
use Rattle.std.specs.Prelude.{filter, slice_get}
use Rattle.std.specs.List.{sum_by}
use Rattle.std.specs.Option.{option_to_list}
use Rattle.std.proofs.Math.Seq.{drop-cons}
use Rattle.std.proofs.lemmas.Int.{to_z-of_z, fits_signed_from_abs}
use Rattle.std.proofs.lemmas.List.Elements.{filter_agree}
use Rattle.std.proofs.lemmas.List.Sums.{sum_by-cons}
use Rattle.std.proofs.lemmas.Option.{slice_get-get_or}
use Rattle.roster_model.specs.Problem.{Problem, home_of}
use Rattle.roster_model.specs.Costs.{flight_of}
use Rattle.roster_model.specs.Sums.{month_flight}
use Rattle.roster_model.specs.Rules.{duty_list, is_listed}
use Rattle.roster_model.specs.records.Duty.{Duty, Holder, OfPairing, OfPerson, is_held_by_person}
use Rattle.roster_problem.specs.Duties.{is_of_person, picked}
use Rattle.roster_values.specs.Set.{places_from}
use Rattle.roster_cost.specs.Amounts.{minutes_of_pairing}

-- the next of the positions that are left
pub picked-next : (minutes : Duty → ℕ) (duties : List Duty) (positions : List ℕ) (i position : ℕ) (duty : Duty) → i < length positions → position ≡ get_or positions i 0 → position < length duties → duty ≡ get_or duties position duty
    → sum_by minutes (picked duties (drop i positions)) ≡ minutes duty + sum_by minutes (picked duties (drop (i + 1) positions))
picked-next minutes duties positions i position duty inside here within there =
    let next : suc i ≡ i + 1 = omega arith in
    let left : ℕ → List Duty = λ n. picked duties (drop n positions) in
    ap (λ (rest : List ℕ). sum_by minutes (picked duties rest)) (drop-cons positions i 0 inside)
    ∙ ap (λ (at : ℕ). sum_by minutes (option_to_list (slice_get duties at) ++ left (suc i))) (sym here)
    ∙ ap (λ (found : Option Duty). sum_by minutes (option_to_list found ++ left (suc i))) (slice_get-get_or duties position duty within)
    ∙ ap (λ (d : Duty). sum_by minutes (d ∷ left (suc i))) (sym there)
    ∙ sum_by-cons minutes duty (left (suc i))
    ∙ ap (λ (n : ℕ). minutes duty + sum_by minutes (left n)) next

-- minutes that are told as a signed number
pub minutes_back : (told : ℤ) (minutes : ℕ) → told ≡ pos minutes → minutes < 2 ^ 63
    → nat_abs (to_z w64 (of_z w64 told)) ≡ minutes
minutes_back told minutes is small =
    ap (λ z. nat_abs (to_z w64 (of_z w64 z))) is
    ∙ ap nat_abs (to_z-of_z w64 (pos minutes) (fits_signed_from_abs w64 (pos minutes) small))

listed_without : (k : ℕ) (holder : Holder) → is_held_by_person k holder ≡ is_listed k [] holder
listed_without k (OfPairing p) = refl
listed_without k (OfPerson j) = refl

-- the list of a person without pairings
pub fixed-listed : (problem : Problem) (k : ℕ)
    → filter (is_of_person k) problem.duties ≡ duty_list problem k []
fixed-listed problem k =
    filter_agree (is_of_person k) (λ duty. is_listed k [] duty.holder)
    (λ duty. listed_without k duty.holder) problem.duties

-- a set's flight, where it is that of the fixed duties and of each pairing
pub set-parts : (problem : Problem) (k : ℕ) (set : List ℕ) (fixed : ℕ)
    → flight_of problem k set ≡ month_flight (home_of problem k).days (filter (is_of_person k) problem.duties) + sum_by (minutes_of_pairing problem k) set
    → fixed ≡ flight_of problem k [] → places_from 0 set ≡ set
    → flight_of problem k set ≡ fixed + sum_by (minutes_of_pairing problem k) (places_from 0 set)
set-parts problem k set fixed parts none all =
    omega (arith, parts, none, ap (month_flight (home_of problem k).days) (fixed-listed problem k), ap (sum_by (minutes_of_pairing problem k)) all)
