-- The duties of persons in a repaired book.
use Rattle.std.proofs.Common.{◌≡◌, ℕ, zero, suc, ◌+◌, ◌<◌, ◌≤◌, Bool, true, false, cond, eqb, ltb, List, [], ◌∷◌, length, map, Option, Some, None, refl, sym, ap, ◌∙◌, inl, inr, arith}
use Rattle.std.specs.Prelude.{slice_get, filter}
use Rattle.std.specs.List.{sum_by, range_with_len}
use Rattle.std.specs.Option.{option_map_or}
use Rattle.std.proofs.lemmas.Bool.{ne_eqb, lt-ltb, le-ltb, cases_lt}
use Rattle.std.proofs.lemmas.List.Sums.{sum_by-cons}
use Rattle.roster_model.specs.declared.limits.TheConstants.{DAYS_BEFORE}
use Rattle.roster_model.specs.Calendar.{Days}
use Rattle.roster_model.specs.Problem.{Problem}
use Rattle.roster_model.specs.Places.{open_number, set_of}
use Rattle.roster_model.specs.Rules.{duty_list, is_listed}
use Rattle.roster_model.specs.Sums.{flight_between, flight_on, in_month, month_flight}
use Rattle.roster_model.specs.records.Duty.{Duty, Holder, OfPairing, OfPerson}
use Rattle.roster_model.proofs.PlacesLemmas.{is_among-set_of}
use Rattle.roster_desk_repair_terms.specs.Fixed.{held, holder_with, kept_duties, kept_holder, plain, rank, unrowed, whole}
use Rattle.roster_desk_repair_terms.specs.Repaired.{IsRepair}
use Rattle.roster_desk_repair_terms.proofs.Wholes.{Fits, at_place, told}

-- ---- who has a duty

-- a person that isn't one is nobody
no_person : (nobody k n : ℕ) → k < nobody → (b : Bool) → ltb n nobody ≡ b → (rest : List ℕ)
    → option_map_or (is_listed k (set_of k rest)) (cond b (Some (OfPerson n)) None) false ≡ eqb n k
no_person nobody k n one true is rest = refl
no_person nobody k n one false is rest =
    elim (cases_lt n nobody) [
      | inl below ↦ absurd (cc (lt-ltb n nobody below, is))
      | inr past ↦ sym (ne_eqb n k (λ same. omega arith))
    ]

same_at : (nobody k : ℕ) → k < nobody → (rest : List ℕ) (r : ℕ) (f : Option (Option ℕ))
    → option_map_or (is_listed k (set_of k rest)) (holder_with nobody r f) false
    ≡ option_map_or (λ x. eqb x k) (told rest r f) false
same_at nobody k one rest r None = refl
same_at nobody k one rest r (Some None) = is_among-set_of k r rest
same_at nobody k one rest r (Some (Some n)) = no_person nobody k n one (ltb n nobody) refl rest

-- a holder's duties are on the lists of the same persons
pub listed-kept : (nobody k : ℕ) → k < nobody → (fixed : List (Option ℕ)) (rest : List ℕ) → Fits fixed rest
    → (holder : Holder)
    → option_map_or (is_listed k (set_of k rest)) (kept_holder nobody fixed holder) false
    ≡ is_listed k (set_of k (whole fixed rest)) holder
listed-kept nobody k one fixed rest fits (OfPerson j) = refl
listed-kept nobody k one fixed rest fits (OfPairing p) =
    same_at nobody k one rest (rank fixed p) (slice_get fixed p)
    ∙ sym (ap (λ (found : Option ℕ). option_map_or (λ x. eqb x k) found false) (at_place fixed rest fits p))
    ∙ sym (is_among-set_of k p (whole fixed rest))

-- ---- lists of duties

-- a duty that is on the list or not
plain-cond : (b : Bool) (duty : Duty) (duties : List Duty)
    → map plain (cond b (duty ∷ duties) duties) ≡ cond b (plain duty ∷ map plain duties) (map plain duties)
plain-cond true duty duties = refl
plain-cond false duty duties = refl

plain-held : (test : Holder → Bool) (duty : Duty) (holder : Option Holder) (others : List Duty)
    → map plain (filter (λ d. test d.holder) (held duty holder others))
    ≡ cond (option_map_or test holder false) (plain duty ∷ map plain (filter (λ d. test d.holder) others))
    (map plain (filter (λ d. test d.holder) others))
plain-held test duty None others = refl
plain-held test duty (Some holder) others =
    plain-cond (test holder) (record duty { holder = holder; row = 0 }) (filter (λ d. test d.holder) others)

plain-unrowed : (test : Holder → Bool) (duties : List Duty)
    → map plain (filter (λ d. test d.holder) (map unrowed duties))
    ≡ map plain (filter (λ d. test d.holder) duties)
plain-unrowed test [] = refl
plain-unrowed test (duty ∷ duties) =
    let rest = plain-unrowed test duties in
    plain-cond (test duty.holder) (unrowed duty) (filter (λ d. test d.holder) (map unrowed duties))
    ∙ ap (λ (l : List Duty). cond (test duty.holder) (plain duty ∷ l) l) rest
    ∙ sym (plain-cond (test duty.holder) duty (filter (λ d. test d.holder) duties))

plain-kept : (nobody : ℕ) (fixed : List (Option ℕ)) (after before : Holder → Bool)
    → ((holder : Holder) → option_map_or after (kept_holder nobody fixed holder) false ≡ before holder)
    → (duties : List Duty)
    → map plain (filter (λ d. after d.holder) (kept_duties nobody fixed duties))
    ≡ map plain (filter (λ d. before d.holder) duties)
plain-kept nobody fixed after before same [] = refl
plain-kept nobody fixed after before same (duty ∷ duties) =
    let kept = kept_duties nobody fixed duties in
    let rest = plain-kept nobody fixed after before same duties in
    plain-held after duty (kept_holder nobody fixed duty.holder) kept
    ∙ ap (λ (l : List Duty). cond (option_map_or after (kept_holder nobody fixed duty.holder) false) (plain duty ∷ l) l) rest
    ∙ ap (λ (b : Bool). cond b (plain duty ∷ map plain (filter (λ d. before d.holder) duties)) (map plain (filter (λ d. before d.holder) duties))) (same duty.holder)
    ∙ sym (plain-cond (before duty.holder) duty (filter (λ d. before d.holder) duties))

pub keeps_duties : (book : Problem) (published : List ℕ) (fixed : List (Option ℕ)) (price : ℕ → ℕ)
    (repaired : Problem) → IsRepair book published fixed price repaired
    → (rest : List ℕ) → Fits fixed rest → (k : ℕ) → k < length book.persons
    → map plain (duty_list repaired k (set_of k rest)) ≡ map plain (duty_list book k (set_of k (whole fixed rest)))
keeps_duties book published fixed price repaired repair rest fits k one =
    let after = is_listed k (set_of k rest) in
    sym (plain-unrowed after repaired.duties)
    ∙ ap (λ (l : List Duty). map plain (filter (λ d. after d.holder) l)) repair.duties
    ∙ plain-kept (open_number book) fixed after (is_listed k (set_of k (whole fixed rest)))
    (listed-kept (open_number book) k one fixed rest fits) book.duties

-- ---- their flight

flown-plain : (from to : ℕ) (duties : List Duty)
    → sum_by (λ d. flight_between d from to) (map plain duties) ≡ sum_by (λ d. flight_between d from to) duties
flown-plain from to [] = refl
flown-plain from to (duty ∷ duties) =
    let f : Duty → ℕ = λ d. flight_between d from to in
    sum_by-cons f (plain duty) (map plain duties)
    ∙ ap (λ (n : ℕ). flight_between duty from to + n) (flown-plain from to duties)
    ∙ sym (sum_by-cons f duty duties)

same_sum : (f g : ℕ → ℕ) → ((i : ℕ) → f i ≡ g i) → (xs : List ℕ) → sum_by f xs ≡ sum_by g xs
same_sum f g same [] = refl
same_sum f g same (x ∷ xs) =
    omega (arith, sum_by-cons f x xs, sum_by-cons g x xs, same x, same_sum f g same xs)

flight-plain : (days : Days) (duties : List Duty) → month_flight days (map plain duties) ≡ month_flight days duties
flight-plain days duties =
    same_sum (flight_on days (map plain duties)) (flight_on days duties)
    (λ i. flown-plain _ _ duties) (range_with_len DAYS_BEFORE days.month_days)

pub same_flight : (days : Days) (xs ys : List Duty) → map plain xs ≡ map plain ys
    → month_flight days xs ≡ month_flight days ys
same_flight days xs ys same =
    sym (flight-plain days xs) ∙ ap (λ (l : List Duty). month_flight days l) same ∙ flight-plain days ys
