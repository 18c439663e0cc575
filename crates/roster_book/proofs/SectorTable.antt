-- Duties with their sectors, after one more record of a sector or of a duty.
use Rattle.std.proofs.Common.{◌≡◌, ◌<◌, ◌≤◌, ◌+◌, ◌==◌, ◌&&◌, ℕ, zero, suc, Bool, true, false, cond, List, [], ◌∷◌, ◌++◌, length, get_or, set, Option, Some, None, inl, inr, refl, ◌∙◌, ap, subst, append-nil, length-append, arith}
use Rattle.std.specs.Prelude.{All, filter, map, nat_le, nat_lt, option_map, position, slice_get}
use Rattle.std.specs.List.{cons_option, last_or, position_or_len}
use Rattle.std.specs.Option.{option_map_or}
use Rattle.std.proofs.Math.Seq.{append_snoc}
use Rattle.std.proofs.lemmas.Bool.Decides.{nat_tests}
use Rattle.std.proofs.lemmas.List.{map-append}
use Rattle.std.proofs.lemmas.List.Sums.{sum_by-append, sum_by-set}
use Rattle.std.proofs.lemmas.Option.{slice_get-get_or, slice_get_cases}
use Rattle.std.proofs.lemmas.List.Elements.{All-nil, All-cons, All-head, All-tail, filter-append}
use Rattle.std.specs.Str.{bytes_eq}
use Rattle.roster_model.specs.Record.{Record, DutyRecord, SectorRecord, is_of, entry_of, gather_after, place_named}
use Rattle.roster_model.specs.records.Duty.{Duty, Sector, Holder, duties_in, duty_of, duty_place, is_held_by_pairing, is_in_sequence, last_duty, starts_well}
use Rattle.roster_model.specs.records.Base.{Base}
use Rattle.roster_model.specs.records.Sector.{GivenSector, duty_name_in, flown, flown_from, is_of_duty, sector_of, sectors_at, sectors_in}
use Rattle.roster_book.specs.Flown.{fits_at, sector_count, with_sector, with_sector_at}
use Rattle.roster_book.proofs.Gather.{gather_after-append}

-- ---- one more sector

one_more_of : (b : Bool) (sectors : List Sector) (given : GivenSector)
    → sectors ++ map (λ g. g.sector) (cond b (given ∷ []) []) ≡ cond b (sectors ++ given.sector ∷ []) sectors
one_more_of true sectors given = refl
one_more_of false sectors given = append-nil sectors

sectors_at-append : (given : List GivenSector) (more : GivenSector) (d : ℕ)
    → sectors_at (given ++ more ∷ []) d ≡ cond (is_of_duty d more) (sectors_at given d ++ more.sector ∷ []) (sectors_at given d)
sectors_at-append given more d =
    ap (map (λ g. g.sector)) (filter-append (is_of_duty d) given (more ∷ []))
    ∙ map-append (λ (g : GivenSector). g.sector) (filter (is_of_duty d) given) (filter (is_of_duty d) (more ∷ []))
    ∙ one_more_of (is_of_duty d more) (sectors_at given d) more

-- if the duty is none of them, or an earlier one, they are as they were
flown-none : (given : List GivenSector) (sector : Sector) (d : ℕ) (duties : List Duty)
    → flown_from (given ++ record { duty = None; sector = sector } ∷ []) d duties ≡ flown_from given d duties
unfolding flown_from
flown-none given sector d [] = refl
flown-none given sector d (duty ∷ duties) =
    rw (sectors_at-append given (record { duty = None; sector = sector }) d, flown-none given sector (d + 1) duties) refl

not_later : (place d : ℕ) → place < d → (place == d) ≡ false
not_later place d h = grind (arith, nat_tests)

flown-earlier : (given : List GivenSector) (sector : Sector) (place d : ℕ) (duties : List Duty) → place < d
    → flown_from (given ++ record { duty = Some place; sector = sector } ∷ []) d duties ≡ flown_from given d duties
unfolding flown_from
flown-earlier given sector place d [] h = refl
flown-earlier given sector place d (duty ∷ duties) h =
    rw (sectors_at-append given (record { duty = Some place; sector = sector }) d, not_later place d h, flown-earlier given sector place (d + 1) duties (omega arith)) refl

here : (d : ℕ) → (d + 0 == d) ≡ true
here d = grind (arith, nat_tests)

not_here : (d place : ℕ) → (d + suc place == d) ≡ false
not_here d place = grind (arith, nat_tests)

-- the duty at the place has it behind its others
flown-there : (given : List GivenSector) (sector : Sector) (d place : ℕ) (duties : List Duty)
    → flown_from (given ++ record { duty = Some (d + place); sector = sector } ∷ []) d duties ≡ with_sector_at (flown_from given d duties) (Some place) sector
unfolding flown_from
flown-there given sector d place [] = refl
flown-there given sector d zero (duty ∷ duties) =
    rw (sectors_at-append given (record { duty = Some (d + 0); sector = sector }) d, here d, flown-earlier given sector (d + 0) (d + 1) duties (omega arith)) refl
flown-there given sector d (suc place) (duty ∷ duties) =
    let P : ℕ → Type 0 = λ n. flown_from (given ++ record { duty = Some n; sector = sector } ∷ []) (d + 1) duties ≡ with_sector_at (flown_from given (d + 1) duties) (Some place) sector in
    let next : d + 1 + place ≡ d + suc place = omega arith in
    let rest = subst P next (flown-there given sector (d + 1) place duties) in
    rw (sectors_at-append given (record { duty = Some (d + suc place); sector = sector }) d, not_here d place, rest) refl

pub flown-sector : (given : List GivenSector) (more : GivenSector) (duties : List Duty)
    → flown (given ++ more ∷ []) duties ≡ with_sector_at (flown given duties) more.duty more.sector
flown-sector given more duties = by_place more.duty
  where
    by_place : (place : Option ℕ) → flown (given ++ record { duty = place; sector = more.sector } ∷ []) duties ≡ with_sector_at (flown given duties) place more.sector
    by_place None = flown-none given more.sector 0 duties
    by_place (Some place) =
        let P : ℕ → Type 0 = λ n. flown (given ++ record { duty = Some n; sector = more.sector } ∷ []) duties ≡ with_sector_at (flown given duties) (Some place) more.sector in
        let same : 0 + place ≡ place = omega arith in
        subst P same (flown-there given more.sector 0 place duties)

-- ---- one more duty

flown-append : (given : List GivenSector) (d : ℕ) (duties : List Duty) (duty : Duty)
    → flown_from given d (duties ++ duty ∷ []) ≡ flown_from given d duties ++ record duty { sectors = sectors_at given (d + length duties) } ∷ []
unfolding flown_from
flown-append given d [] duty =
    let same : d ≡ d + 0 = omega arith in
    ap (λ n. record duty { sectors = sectors_at given n } ∷ []) same
flown-append given d (first ∷ duties) duty =
    let same : d + 1 + length duties ≡ d + suc (length duties) = omega arith in
    let made : ℕ → List Duty = λ n. record first { sectors = sectors_at given d } ∷ flown_from given (d + 1) duties ++ record duty { sectors = sectors_at given n } ∷ [] in
    ap (λ rest. record first { sectors = sectors_at given d } ∷ rest) (flown-append given (d + 1) duties duty)
    ∙ ap made same

-- the place is one of the first n, or there is none
abbrev IsPlaceBelow : ℕ → Option ℕ → Type 0
IsPlaceBelow n None = Unit {0}
IsPlaceBelow n (Some place) = place < n

-- the sector is of one of the first n duties, or of none
abbrev IsBelow : ℕ → GivenSector → Type 0
IsBelow n given = IsPlaceBelow n given.duty

place_longer : (n m : ℕ) (place : Option ℕ) → n ≤ m → IsPlaceBelow n place → IsPlaceBelow m place
place_longer n m None l h = tt
place_longer n m (Some place) l h = omega arith

place_found : {X : Type 0} (p : X → Bool) (xs : List X) → IsPlaceBelow (length xs) (position p xs)
place_found p xs =
    let i = position_or_len p xs in
    let P : Bool → Type 0 = λ b. nat_lt i (length xs) ≡ b → IsPlaceBelow (length xs) (cond b (Some i) None) in
    elim (nat_lt i (length xs)) as P [ true ↦ λ e. grind (arith, nat_tests) | false ↦ λ e. tt ] refl

duties_longer : (before records : List Record)
    → length (duties_in before) ≤ length (duties_in (before ++ records))
duties_longer before [] = rw append-nil (omega arith)
duties_longer before (fields ∷ records) =
    let next : List Record = before ++ fields ∷ [] in
    let entry : Option Duty = entry_of DutyRecord duty_of before fields in
    let one : length (duties_in next) ≡ length (duties_in before) + length (cons_option entry []) =
    ap length (gather_after-append (entry_of DutyRecord duty_of) [] before fields)
    ∙ length-append (duties_in before) (cons_option entry []) in
    let more : length (duties_in next) ≤ length (duties_in (before ++ fields ∷ records)) =
    subst (λ all. length (duties_in next) ≤ length (duties_in all)) (append_snoc before fields records)
    (duties_longer next records) in
    omega arith

entry-kept : {X : Type 0} (P : X → Type 0) (b : Bool) (x : X) (xs : List X) → P x → All P xs
    → All P (cons_option (cond b (Some x) None) xs)
entry-kept P true x xs h all = All-cons P x xs h all
entry-kept P false x xs h all = all

-- a sector names a duty that was given before it
sectors_below : (before records : List Record) → All (IsBelow (length (duties_in (before ++ records)))) (gather_after (entry_of SectorRecord sector_of) before records)
unfolding gather_after sector_of place_named
sectors_below before [] = All-nil _
sectors_below before (fields ∷ records) =
    let n : ℕ = length (duties_in (before ++ fields ∷ records)) in
    let rest : All (IsBelow n) (gather_after (entry_of SectorRecord sector_of) (before ++ fields ∷ []) records) =
    subst (λ all. All (IsBelow (length (duties_in all))) (gather_after (entry_of SectorRecord sector_of) (before ++ fields ∷ []) records)) (append_snoc before fields records) (sectors_below (before ++ fields ∷ []) records) in
    let own : IsBelow n (sector_of before fields) =
    place_longer (length (duties_in before)) n (duty_place before (duty_name_in fields))
    (duties_longer before (fields ∷ records))
    (place_found (λ duty. bytes_eq duty.id (duty_name_in fields)) (duties_in before)) in
    entry-kept (IsBelow n) (is_of SectorRecord fields) (sector_of before fields) _ own rest

none_there : (n : ℕ) (place : Option ℕ) → IsPlaceBelow n place
    → option_map_or (λ p. p == n) place false ≡ false
none_there n None h = refl
none_there n (Some place) h = not_later place n h

none_at : (n : ℕ) (given : List GivenSector) → All (IsBelow n) given → sectors_at given n ≡ []
none_at n [] h = refl
none_at n (first ∷ given) h =
    rw (none_there n first.duty (All-head (IsBelow n) first given h))
    (none_at n given (All-tail (IsBelow n) first given h))

-- a duty comes without a sector
pub flown-duty : (before : List Record) (fields : Record)
    → flown (sectors_in before) (duties_in before ++ duty_of before fields ∷ []) ≡ flown (sectors_in before) (duties_in before) ++ duty_of before fields ∷ []
unfolding duty_of
flown-duty before fields =
    let n : ℕ = length (duties_in before) in
    let none : sectors_at (sectors_in before) n ≡ [] =
    none_at n (sectors_in before) (sectors_below [] before) in
    let first : 0 + n ≡ n = omega arith in
    let all : List Sector → List Duty = λ sectors. flown (sectors_in before) (duties_in before) ++ record (duty_of before fields) { sectors = sectors } ∷ [] in
    flown-append (sectors_in before) 0 (duties_in before) (duty_of before fields)
    ∙ ap (λ k. all (sectors_at (sectors_in before) k)) first ∙ ap all none

-- ---- what sectors leave as it is

flown-length : (given : List GivenSector) (d : ℕ) (duties : List Duty)
    → length (flown_from given d duties) ≡ length duties
unfolding flown_from
flown-length given d [] = refl
flown-length given d (duty ∷ duties) = ap suc (flown-length given (d + 1) duties)

flown-place : (name : List ℕ) (given : List GivenSector) (d : ℕ) (duties : List Duty)
    → position_or_len (λ duty. bytes_eq duty.id name) (flown_from given d duties) ≡ position_or_len (λ duty. bytes_eq duty.id name) duties
unfolding flown_from
flown-place name given d [] = refl
flown-place name given d (duty ∷ duties) = rw (flown-place name given (d + 1) duties) refl

-- the place of a duty with a name
pub flown_position : (name : List ℕ) (given : List GivenSector) (duties : List Duty)
    → place_named (λ duty. duty.id) name (flown given duties) ≡ place_named (λ duty. duty.id) name duties
unfolding place_named
flown_position name given duties = rw (flown-place name given 0 duties, flown-length given 0 duties) refl

pub flown_count : (given : List GivenSector) (duties : List Duty)
    → length (flown given duties) ≡ length duties
flown_count given duties = flown-length given 0 duties

abbrev release_of : Option Duty → Option ℕ
release_of duty = option_map (λ d. d.release) duty

flown-last : (p : ℕ) (given : List GivenSector) (d : ℕ) (duties : List Duty) (one other : Option Duty)
    → release_of one ≡ release_of other
    → release_of (last_or one (filter (λ duty. is_held_by_pairing p duty.holder) (flown_from given d duties))) ≡ release_of (last_or other (filter (λ duty. is_held_by_pairing p duty.holder) duties))
unfolding flown_from
flown-last p given d [] one other h = h
flown-last p given d (duty ∷ duties) one other h =
    let flown_duty : Duty = record duty { sectors = sectors_at given d } in
    let held : Duty → Bool = λ duty. is_held_by_pairing p duty.holder in
    let P : Bool → Type 0 = λ b. release_of (last_or one (cond b (flown_duty ∷ filter held (flown_from given (d + 1) duties)) (filter held (flown_from given (d + 1) duties)))) ≡ release_of (last_or other (cond b (duty ∷ filter held duties) (filter held duties))) in
    elim (is_held_by_pairing p duty.holder) as P [
      | true ↦ flown-last p given (d + 1) duties (Some flown_duty) (Some duty) refl
      | false ↦ flown-last p given (d + 1) duties one other h
    ]

-- the last duty of a pairing is released when it is
pub flown-last_duty : (p : ℕ) (given : List GivenSector) (duties : List Duty)
    → release_of (last_duty (flown given duties) p) ≡ release_of (last_duty duties p)
flown-last_duty p given duties = flown-last p given 0 duties None None refl

in_sequence-by : (one other : Option Duty) (report release : ℕ) → release_of one ≡ release_of other
    → is_in_sequence one report release ≡ is_in_sequence other report release
in_sequence-by None None report release h = refl
in_sequence-by None (Some other) report release h = cc
in_sequence-by (Some one) None report release h = cc
in_sequence-by (Some one) (Some other) report release h =
    let same : one.release ≡ other.release = cc in
    ap (λ n. nat_lt report release && nat_le n report) same

starts_well-by : (one other : Option Duty) (base : Base) (station : List ℕ) (report : ℕ)
    → release_of one ≡ release_of other
    → starts_well one base station report ≡ starts_well other base station report
starts_well-by None None base station report h = refl
starts_well-by None (Some other) base station report h = cc
starts_well-by (Some one) None base station report h = cc
starts_well-by (Some one) (Some other) base station report h = refl

pub flown_in_sequence : (p : ℕ) (given : List GivenSector) (duties : List Duty) (report release : ℕ)
    → is_in_sequence (last_duty (flown given duties) p) report release ≡ is_in_sequence (last_duty duties p) report release
flown_in_sequence p given duties report release =
    in_sequence-by _ _ report release (flown-last_duty p given duties)

pub flown_starts_well : (p : ℕ) (given : List GivenSector) (duties : List Duty) (base : Base)
    (station : List ℕ) (report : ℕ)
    → starts_well (last_duty (flown given duties) p) base station report ≡ starts_well (last_duty duties p) base station report
flown_starts_well p given duties base station report =
    starts_well-by _ _ base station report (flown-last_duty p given duties)

-- ---- one more sector among duties

pub with_sector_at-is : (duties : List Duty) (place : ℕ) (sector : Sector) (duty : Duty)
    → slice_get duties place ≡ Some duty
    → with_sector_at duties (Some place) sector ≡ set duties place (with_sector duty sector)
with_sector_at-is [] place sector duty e = cc
with_sector_at-is (first ∷ duties) zero sector duty e =
    let same : first ≡ duty = cc in
    ap (λ d. with_sector d sector ∷ duties) same
with_sector_at-is (first ∷ duties) (suc place) sector duty e =
    ap (λ rest. first ∷ rest) (with_sector_at-is duties place sector duty e)

one_more : (new old own longer : ℕ) → new + own ≡ old + longer → longer ≡ own + 1 → new ≡ old + 1
one_more new old own longer h k = omega arith

pub sector_count_more : (duties : List Duty) (place : ℕ) (sector : Sector) → place < length duties
    → sector_count (with_sector_at duties (Some place) sector) ≡ sector_count duties + 1
unfolding sector_count
sector_count_more [] place sector h = absurd (omega arith)
sector_count_more (first ∷ rest) place sector h =
    let duties = first ∷ rest in
    let duty = get_or duties place first in
    let more = with_sector duty sector in
    ap sector_count (with_sector_at-is duties place sector duty (slice_get-get_or duties place first h))
    ∙ one_more (sector_count (set duties place more)) (sector_count duties) (length duty.sectors) (length more.sectors)
    (sum_by-set (λ d. length d.sectors) duties place more first h) (length-append duty.sectors (sector ∷ []))

no_more : (new old : ℕ) → new ≡ old + (0 + 0) → new ≡ old
no_more new old h = omega arith

-- a duty without a sector adds none
pub sector_count_bare : (duties : List Duty) (duty : Duty) → duty.sectors ≡ []
    → sector_count (duties ++ duty ∷ []) ≡ sector_count duties
unfolding sector_count
sector_count_bare duties duty none =
    let P : List Sector → Type 0 =
    λ sectors. sector_count (duties ++ duty ∷ []) ≡ sector_count duties + (0 + length sectors) in
    no_more _ _ (subst P none (sum_by-append (λ d. length d.sectors) duties (duty ∷ [])))

-- a sector fits where there is a duty
pub fits-within : (duties : List Duty) (place : ℕ) (sector : Sector) → fits_at duties place sector ≡ true
    → place < length duties
fits-within duties place sector h =
    elim (slice_get_cases duties place).1 [ inl (duty, within, there, same) ↦ within | inr (past, none) ↦ cc (rw none at h) ]

pub sector_count_none : sector_count [] ≡ 0
unfolding sector_count
sector_count_none = refl

pub length-with_sector_at : (duties : List Duty) (place : Option ℕ) (sector : Sector)
    → length (with_sector_at duties place sector) ≡ length duties
length-with_sector_at duties None sector = refl
length-with_sector_at [] (Some place) sector = refl
length-with_sector_at (duty ∷ duties) (Some zero) sector = refl
length-with_sector_at (duty ∷ duties) (Some (suc place)) sector =
    ap suc (length-with_sector_at duties (Some place) sector)

pub All-with_sector_at : (P : Holder → Type 0) (duties : List Duty) (place : Option ℕ) (sector : Sector)
    → All (λ duty. P duty.holder) duties → All (λ duty. P duty.holder) (with_sector_at duties place sector)
All-with_sector_at P duties None sector h = h
All-with_sector_at P [] (Some place) sector h = h
All-with_sector_at P (duty ∷ duties) (Some zero) sector h =
    All-cons (λ d. P d.holder) (with_sector duty sector) duties (All-head (λ d. P d.holder) duty duties h)
    (All-tail (λ d. P d.holder) duty duties h)
All-with_sector_at P (duty ∷ duties) (Some (suc place)) sector h =
    All-cons (λ d. P d.holder) duty (with_sector_at duties (Some place) sector)
    (All-head (λ d. P d.holder) duty duties h)
    (All-with_sector_at P duties (Some place) sector (All-tail (λ d. P d.holder) duty duties h))
