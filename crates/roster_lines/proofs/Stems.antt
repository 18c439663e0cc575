-- The lines up to a candidate of a stem, and past it, and what comes with it.
use Rattle.std.proofs.Common.{◌≡◌, ℕ, ℤ, ◌+◌, ◌<◌, ◌≤◌, true, false, List, [], ◌∷◌, ◌++◌, length, get_or, Option, Some, None, refl, sym, ap, ◌∙◌, subst, arith}
use Rattle.std.specs.Prelude.{MatchOption, slice_get}
use Rattle.std.proofs.lemmas.Bool.{both_ways}
use Rattle.std.proofs.lemmas.List.Elements.{All-push}
use Rattle.std.proofs.lemmas.Option.{slice_get_read, get_or_from_slice_get}
use Rattle.roster_model.specs.Costs.{flight_of, line_cost}
use Rattle.roster_model.specs.Lines.{IsLine}
use Rattle.roster_model.specs.Problem.{Problem}
use Rattle.roster_model.specs.Rules.{is_among}
use Rattle.roster_model.proofs.SetLemmas.{is_among-here}
use Rattle.roster_legal.specs.Stepping.{IsLegalNext, IsNext, Stepped, with_next}
use Rattle.roster_cost.specs.Amounts.{minutes_of_pairing}
use Rattle.roster_lines_table.specs.Entries.{Entry, entry_of, longer, sets_of}
use Rattle.roster_lines_table.specs.Person.{AreCosted}
use Rattle.roster_lines_table.proofs.Fronts.{among_behind}
use Rattle.roster_lines_table.proofs.TreeLemmas.{sets_of-push}
use Rattle.roster_lines.specs.declared.stem.Stem.{Stem}
use Rattle.roster_lines.specs.Listing.{AreFlights, ArePartsLegal, HoldOnly, IsStem, IsUpTo, LineWith, NoneBehind, judged_as}
use Rattle.roster_lines.proofs.Listed.{IsLine-with, no_line_behind, none_behind}
use Rattle.roster_lines.proofs.Marks.{IsUpTo-skip}

pub line_there : (problem : Problem) (k : ℕ) (wants : List ℕ → Type 0) (stem : Stem) (p : ℕ) (found : Option Stepped) (longer : Stepped) → found ≡ Some longer → LineWith problem k wants stem p found → (longer ≡ judged_as problem k stem.among (stem.set ++ p ∷ [])) × IsLine problem k (stem.set ++ p ∷ [])
line_there problem k wants stem p found longer is line = subst (LineWith problem k wants stem p) is line

pub no_line_there : (problem : Problem) (k : ℕ) (wants : List ℕ → Type 0) (stem : Stem) (p : ℕ) (found : Option Stepped) → found ≡ None → LineWith problem k wants stem p found → NoneBehind problem k wants stem.set p
no_line_there problem k wants stem p found is line = subst (LineWith problem k wants stem p) is line

module _ (problem : Problem) (k : ℕ) (wants : List ℕ → Type 0) (stem : Stem) (sets : List (List ℕ)) where
  -- up to the next candidate
  pub up_to_candidate : (from p : ℕ) → IsStem problem k stem → HoldOnly problem k wants stem.among
      → IsUpTo problem k wants (stem.set ++ from ∷ []) sets → from ≤ p
      → ((q : ℕ) → from ≤ q → q < p → is_among stem.candidates q ≡ false)
      → IsUpTo problem k wants (stem.set ++ p ∷ []) sets
  up_to_candidate from p is only up later none =
      IsUpTo-skip problem k wants sets stem.set from p up later (λ q rest l before line wanted.
      let held = among_behind stem.set (q ∷ rest) q (is_among-here q rest) in
      both_ways _ (none q l before) (is.every q rest line (only (stem.set ++ q ∷ rest) q line wanted held)))

  -- past a candidate behind which nothing is wanted
  pub past_candidate : (p : ℕ) → IsUpTo problem k wants (stem.set ++ p ∷ []) sets
      → NoneBehind problem k wants stem.set p → IsUpTo problem k wants (stem.set ++ (p + 1) ∷ []) sets
  past_candidate p up none =
      IsUpTo-skip problem k wants sets stem.set p (p + 1) up (omega arith) (λ q rest l before line wanted.
      let here : q ≡ p = omega arith in
      none rest (subst (λ r. IsLine problem k (stem.set ++ r ∷ rest)) here line)
      (subst (λ r. wants (stem.set ++ r ∷ rest)) here wanted))

-- ---- the flight with a candidate

pub flight_with : (problem : Problem) (k : ℕ) (stem : Stem) (flights : List ℕ) (p minutes : ℕ)
    → IsStem problem k stem → AreFlights problem k flights → is_among stem.candidates p ≡ true
    → (is_among stem.set p ≡ false → flight_of problem k (stem.set ++ p ∷ []) ≡ flight_of problem k stem.set + minutes_of_pairing problem k p)
    → minutes ≡ get_or flights p minutes → stem.flight + minutes ≡ flight_of problem k (stem.set ++ p ∷ [])
flight_with problem k stem flights p minutes is are here more at =
    let inside : p < length flights = omega (arith, are.covers, is.places p here) in
    let brought = are.each p minutes (slice_get_read flights (length flights) p minutes refl inside at) in
    omega (arith, is.flight, brought, more (none_behind p stem.set (is.behind p here)))

-- ---- the line pushed

pub longer_set : (lines : List Entry) (number p : ℕ) (front : List ℕ)
    → slice_get (sets_of lines) number ≡ Some front → longer lines number p ≡ front ++ p ∷ []
longer_set lines number p front at =
    ap (λ s. s ++ p ∷ []) (get_or_from_slice_get (sets_of lines) number front [] at)

pub sets_pushed : (lines new : List Entry) (number p : ℕ) (cost : ℤ) (front set : List ℕ)
    → new ≡ lines ++ entry_of (longer lines number p) cost ∷ []
    → slice_get (sets_of lines) number ≡ Some front → set ≡ front ++ p ∷ []
    → sets_of new ≡ sets_of lines ++ set ∷ []
sets_pushed lines new number p cost front set pushed at is =
    ap sets_of pushed
    ∙ sets_of-push lines (entry_of (longer lines number p) cost)
    ∙ ap (λ s. sets_of lines ++ s ∷ []) (longer_set lines number p front at ∙ sym is)

pub costs_pushed : (problem : Problem) (k : ℕ) (lines new : List Entry) (number p : ℕ) (cost : ℤ) (front : List ℕ) → new ≡ lines ++ entry_of (longer lines number p) cost ∷ [] → slice_get (sets_of lines) number ≡ Some front → cost ≡ line_cost problem k (front ++ p ∷ []) → AreCosted problem k lines → AreCosted problem k new
costs_pushed problem k lines new number p cost front pushed at is costs =
    let here = is ∙ ap (line_cost problem k) (sym (longer_set lines number p front at)) in
    subst (AreCosted problem k) (sym pushed) (All-push (λ entry. entry.cost ≡ line_cost problem k entry.set) lines (entry_of (longer lines number p) cost) costs here)

-- ---- what is judged

-- a candidate comes next,
pub next_of : (problem : Problem) (k : ℕ) (stem : Stem) (p : ℕ) → IsStem problem k stem
    → is_among stem.candidates p ≡ true → IsNext (judged_as problem k stem.among stem.set) p
next_of problem k stem p is here = record {
  place = is.places p here;
  alone = is.known p here;
  behind = is.behind p here;
  single = is.single p here;
  pairs = λ q among. is.pairs p q here among;
}

-- and is a line where it is legal
pub line_with_next : (problem : Problem) (k : ℕ) (wants : List ℕ → Type 0) (stem : Stem) (p : ℕ) (judged : Stepped) (found : Option Stepped) → ArePartsLegal problem k → judged ≡ judged_as problem k stem.among stem.set → IsStem problem k stem → is_among stem.candidates p ≡ true
    → MatchOption found (¬ IsLegalNext judged p) (λ longer. (longer ≡ with_next judged p) × IsLegalNext judged p) → LineWith problem k wants stem p found
line_with_next problem k wants stem p judged None legal same is here none =
    let P : Stepped → Type 0 = λ j. ¬ IsLegalNext j p in
    λ rest line wanted. no_line_behind problem k legal stem.set p (λ first. subst P same none first.legal) rest line
line_with_next problem k wants stem p judged (Some longer) parts same is here (with_p, legal) =
    let P : Stepped → Type 0 = λ j. IsLegalNext j p in
    (with_p ∙ ap (λ j. with_next j p) same, IsLine-with problem k stem p is here (subst P same legal))
