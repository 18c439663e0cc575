-- Lists of lines in order: one within another, and the same.
use Rattle.std.proofs.Common.{◌≡◌, ℕ, zero, suc, ◌<◌, ◌≤◌, List, [], ◌∷◌, length, get_or, Some, refl, sym, ap, ◌∙◌, subst, inl, inr, arith}
use Rattle.std.specs.Prelude.{All, option_map, slice_get}
use Rattle.std.proofs.lemmas.Bool.{both_ways, cases_lt}
use Rattle.std.proofs.lemmas.List.{same_lists, length-map}
use Rattle.std.proofs.lemmas.List.Elements.{All-nil}
use Rattle.std.proofs.lemmas.Option.{slice_get_within, slice_get-get_or, slice_get-map, get_or_from_slice_get}
use Rattle.roster_model.specs.declared.limits.TheConstants.{MOST_LINES}
use Rattle.roster_model.specs.Lines.{AreLines, AreOrdered, IsCrowded, IsLine}
use Rattle.roster_model.specs.Problem.{Problem}
use Rattle.roster_model.proofs.PlacesOrder.{places_le-refl}
use Rattle.roster_model.proofs.SetLemmas.{rising_from_Ascends}
use Rattle.roster_lines_table.specs.Entries.{Entry, sets_of}
use Rattle.roster_lines_table.specs.Person.{AreListed, IsTableOf}
use Rattle.roster_lines_table.proofs.Cuts.{one_place, ordered_at, still_before}

-- what holds of each element holds of the one at a place
pub All-slice_get : {X : Type 0} (P : X → Type 0) (xs : List X) (i : ℕ) (x : X) → All P xs
    → slice_get xs i ≡ Some x → P x
All-slice_get P xs i x all at =
    subst P (get_or_from_slice_get xs i x x at) (all i x (slice_get_within xs i x at))

-- each of the sets is among the others
abbrev pub AreAmong : List (List ℕ) → List (List ℕ) → Type 0
AreAmong sets others =
    (i : ℕ) (set : List ℕ) → slice_get sets i ≡ Some set → (j : ℕ) × (slice_get others j ≡ Some set)

-- if both are in order, it stands no earlier there
pub no_earlier : (sets others : List (List ℕ)) → AreOrdered sets → AreOrdered others → AreAmong sets others
    → (i : ℕ) (set : List ℕ) → slice_get sets i ≡ Some set
    → (j : ℕ) × (i ≤ j) × (slice_get others j ≡ Some set)
no_earlier sets others up over among zero set at = let found = among 0 set at in (found.0, omega arith, found.1)
no_earlier sets others up over among (suc i) set at =
    let inside = slice_get_within sets (suc i) set at in
    let last : List ℕ = get_or sets i [] in
    let there = slice_get-get_or sets i [] (omega arith) in
    let before = no_earlier sets others up over among i last there in
    let found = among (suc i) set at in
    let later : before.0 < found.0 = elim (cases_lt before.0 found.0) [
      | inl less ↦ less
      | inr more ↦ absurd (both_ways _ (still_before others over set found.0 before.0 set last more found.1 before.2 (ordered_at sets up i (suc i) last set (omega arith) there at)) (places_le-refl set))
    ] in
    (found.0, omega (arith, before.1), found.1)

pub length-among : (sets others : List (List ℕ)) → AreOrdered sets → AreOrdered others → AreAmong sets others
    → length sets ≤ length others
length-among [] others up over among = omega arith
length-among (first ∷ sets) others up over among =
    let n : ℕ = length sets in
    let found =
    no_earlier (first ∷ sets) others up over among n (get_or (first ∷ sets) n [])
    (slice_get-get_or (first ∷ sets) n [] (omega arith)) in
    let inside = slice_get_within others found.0 _ found.2 in
    omega (arith, found.1)

same_from_among : (sets others : List (List ℕ)) → AreOrdered sets → AreOrdered others → AreAmong sets others
    → AreAmong others sets → sets ≡ others
same_from_among sets others up over among back =
    let most = length-among sets others up over among in
    let least = length-among others sets over up back in
    same_lists sets others (omega arith) (λ i d inside.
    let set : List ℕ = get_or sets i d in
    let there = slice_get-get_or sets i d inside in
    let found = no_earlier sets others up over among i set there in
    let again = no_earlier others sets over up back found.0 set found.2 in
    let one = one_place sets up i again.0 set there again.2 in
    let here : found.0 ≡ i = omega (arith, found.1, again.1) in
    sym (get_or_from_slice_get others i set d (subst (λ j. slice_get others j ≡ Some set) here found.2)))

-- ---- the lines of a person

-- the empty set is a line
pub IsLine-empty : (problem : Problem) (k : ℕ) → IsLine problem k []
IsLine-empty problem k = record {
  ascending = rising_from_Ascends [] tt;
  places = All-nil (λ p. p < length problem.pairings);
  legal = inl refl;
}

pub AreLines-one : (problem : Problem) (k : ℕ) (a b : List (List ℕ)) → AreLines problem k a
    → AreLines problem k b → a ≡ b
AreLines-one problem k a b first second =
    same_from_among a b first.some.ordered second.some.ordered
    (λ i set at. second.every set (All-slice_get (IsLine problem k) a i set first.some.lines at))
    (λ i set at. first.every set (All-slice_get (IsLine problem k) b i set second.some.lines at))

pub not_crowded : (problem : Problem) (k : ℕ) (sets : List (List ℕ)) → AreLines problem k sets
    → length sets ≤ MOST_LINES → IsCrowded problem k → ⊥
not_crowded problem k sets lines few crowded =
    let within = length-among crowded.sets sets crowded.some.ordered lines.some.ordered (λ i set at.
    lines.every set (All-slice_get (IsLine problem k) crowded.sets i set crowded.some.lines at)) in
    let many = crowded.many in
    omega arith

-- ---- a table

-- no set comes before the empty one
pub empty_first : (problem : Problem) (k : ℕ) (sets : List (List ℕ)) → AreLines problem k sets
    → slice_get sets 0 ≡ Some []
empty_first problem k sets are =
    let found = are.every [] (IsLine-empty problem k) in
    elim (cases_lt 0 found.0) [
      | inl later ↦ absurd (both_ways _
          (ordered_at sets are.some.ordered 0 found.0 (get_or sets 0 []) [] later (slice_get-get_or sets 0 [] (omega (arith, later, slice_get_within sets found.0 [] found.1))) found.1)
          refl)
      | inr here ↦
          let first : found.0 ≡ 0 = omega arith in
          subst (λ i. slice_get sets i ≡ Some []) first found.1
    ]

-- a table of all lines has some lines of each person
pub AreListed-all : (problem : Problem) (table : List (List Entry)) → IsTableOf problem table
    → AreListed problem table
AreListed-all problem table is = record {
  covers = sym (length-map table sets_of) ∙ is.sets.covers;
  each = λ k lines at.
      let are = is.sets.each k (sets_of lines) (slice_get-map sets_of table k ∙ ap (option_map sets_of) at) in
      record {
        some = are.some;
        first = empty_first problem k (sets_of lines) are;
        costs = is.costs k lines at;
        few = All-slice_get (λ (l : List Entry). length l ≤ MOST_LINES) table k lines is.few at;
      };
}
