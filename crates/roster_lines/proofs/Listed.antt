-- The stems of a listing: what may stand behind a line.
use Rattle.std.proofs.Common.{◌≡◌, ℕ, ◌<◌, true, false, ◌⊎◌, ◌&&◌, List, [], ◌∷◌, ◌++◌, length, pos, sym, ◌∙◌, subst, inl, inr, arith}
use Rattle.std.specs.Prelude.{All}
use Rattle.std.proofs.lemmas.Bool.{and_from, and_parts, eqb-true, or_cases, false≢true, false_from_ne_true}
use Rattle.std.proofs.lemmas.List.Elements.{All-nil, All-push}
use Rattle.roster_model.specs.Costs.{flight_of, total}
use Rattle.roster_model.specs.Lines.{IsLine}
use Rattle.roster_model.specs.Problem.{Problem, units_of}
use Rattle.roster_model.specs.Rules.{is_among, IsLegal}
use Rattle.roster_model.proofs.CostLemmas.{total-nil}
use Rattle.roster_model.proofs.SetLemmas.{Ascends, Ascends-from_rising, Ascends-push, rising_from_Ascends, is_among-append, is_among-here, All-is_among, All-from_is_among}
use Rattle.roster_lines_table.proofs.Fronts.{among_behind, among_front, Ascends-parts}
use Rattle.roster_lines_table.proofs.Lists.{IsLine-empty}
use Rattle.roster_lines.specs.declared.stem.Stem.{Stem}
use Rattle.roster_lines.specs.Listing.{AreAlone, AreLegalAlone, ArePartsLegal, AreTogether, IsStem, IsRow}

-- ---- what is behind the front of a set

pub among_cases : (front more : List ℕ) (p : ℕ) → is_among (front ++ more) p ≡ true
    → (is_among front p ≡ true) ⊎ (is_among more p ≡ true)
among_cases front more p h = or_cases _ _ (sym (is_among-append front more p) ∙ h)

pub among_single : (p q : ℕ) → is_among (p ∷ []) q ≡ true → p ≡ q
among_single p q h =
    elim (or_cases _ _ h) [ inl same ↦ eqb-true p q same | inr none ↦ absurd (false≢true none) ]

-- what is behind the pairings of a set isn't one of them
pub none_behind : (p : ℕ) (set : List ℕ) → All (λ q. q < p) set → is_among set p ≡ false
none_behind p set before =
    false_from_ne_true _ (λ h. let here : p < p = All-is_among (λ q. q < p) set p before h in omega arith)

-- a candidate behind its stem, where the two are legal
pub IsLine-with : (problem : Problem) (k : ℕ) (stem : Stem) (p : ℕ) → IsStem problem k stem
    → is_among stem.candidates p ≡ true → IsLegal problem k (stem.set ++ p ∷ [])
    → IsLine problem k (stem.set ++ p ∷ [])
IsLine-with problem k stem p is here legal = record {
  ascending =
      rising_from_Ascends _
      (Ascends-push stem.set p (Ascends-from_rising stem.set is.line.ascending) (is.behind p here));
  places = All-push (λ q. q < length problem.pairings) stem.set p is.line.places (is.places p here);
  legal = legal;
}

module _ (problem : Problem) (k : ℕ) (legal : ArePartsLegal problem k) where
  IsLine-part : (set part : List ℕ) → IsLine problem k set → Ascends part
      → ((p : ℕ) → is_among part p ≡ true → is_among set p ≡ true) → IsLine problem k part
  IsLine-part set part line up within = record {
    ascending = rising_from_Ascends part up;
    places =
        All-from_is_among (λ p. p < length problem.pairings) part
        (λ p h. All-is_among (λ p. p < length problem.pairings) set p line.places (within p h));
    legal = legal set part within line.legal;
  }

  -- a line up to one of its pairings
  pub IsLine-up_to : (front : List ℕ) (p : ℕ) (rest : List ℕ) → IsLine problem k (front ++ p ∷ rest)
      → IsLine problem k (front ++ p ∷ [])
  IsLine-up_to front p rest line =
      let parts = Ascends-parts front p rest (Ascends-from_rising _ line.ascending) in
      IsLine-part (front ++ p ∷ rest) (front ++ p ∷ []) line (Ascends-push front p parts.0 parts.1)
      (λ q h. elim (among_cases front (p ∷ []) q h) [
        | inl old ↦ among_front front (p ∷ rest) q old
        | inr new ↦ among_behind front (p ∷ rest) q (subst (λ r. is_among (p ∷ rest) r ≡ true) (among_single p q new) (is_among-here p rest))
      ])

  -- the same without the one before
  IsLine-without : (front : List ℕ) (p q : ℕ) (rest : List ℕ) → IsLine problem k (front ++ p ∷ [] ++ q ∷ rest)
      → IsLine problem k (front ++ q ∷ [])
  IsLine-without front p q rest line =
      let all : List ℕ = front ++ p ∷ [] ++ q ∷ rest in
      let two = Ascends-parts (front ++ p ∷ []) q rest (Ascends-from_rising _ line.ascending) in
      let one = Ascends-parts front p [] two.0 in
      let before : All (λ r. r < q) front =
      All-from_is_among (λ r. r < q) front
      (λ r h. All-is_among (λ r. r < q) (front ++ p ∷ []) r two.1 (among_front front (p ∷ []) r h)) in
      IsLine-part all (front ++ q ∷ []) line (Ascends-push front q one.0 before)
      (λ r h. elim (among_cases front (q ∷ []) r h) [
        | inl old ↦ among_front (front ++ p ∷ []) (q ∷ rest) r (among_front front (p ∷ []) r old)
        | inr new ↦ among_behind (front ++ p ∷ []) (q ∷ rest) r (subst (λ s. is_among (q ∷ rest) s ≡ true) (among_single q r new) (is_among-here q rest))
      ])

  -- the two as a pair
  pair_of_line : (front : List ℕ) (p q : ℕ) (rest : List ℕ) → IsLine problem k (front ++ p ∷ [] ++ q ∷ rest)
      → AreTogether problem k p q
  pair_of_line front p q rest line =
      let all : List ℕ = front ++ p ∷ [] ++ q ∷ rest in
      let two = Ascends-parts (front ++ p ∷ []) q rest (Ascends-from_rising _ line.ascending) in
      let first : is_among (front ++ p ∷ []) p ≡ true = among_behind front (p ∷ []) p (is_among-here p []) in
      let second : is_among all q ≡ true = among_behind (front ++ p ∷ []) (q ∷ rest) q (is_among-here q rest) in (
        All-is_among (λ r. r < q) (front ++ p ∷ []) p two.1 first,
        All-is_among (λ r. r < length problem.pairings) all q line.places second,
        legal all (p ∷ q ∷ []) (λ r h. elim (among_cases (p ∷ []) (q ∷ []) r h) [
          | inl one ↦ subst (λ s. is_among all s ≡ true) (among_single p r one) (among_front (front ++ p ∷ []) (q ∷ rest) p first)
          | inr other ↦ subst (λ s. is_among all s ≡ true) (among_single q r other) second
        ]) line.legal,
      )

  -- with no line behind it, a candidate has none further on
  pub no_line_behind : (front : List ℕ) (p : ℕ) → (IsLine problem k (front ++ p ∷ []) → ⊥) → (rest : List ℕ)
      → IsLine problem k (front ++ p ∷ rest) → ⊥
  no_line_behind front p none rest line = none (IsLine-up_to front p rest line)

  -- the stem of a candidate
  pub IsStem-below : (stem below : Stem) (p : ℕ) (row : List ℕ) → IsStem problem k stem
      → is_among stem.candidates p ≡ true → IsRow problem k p row → below.set ≡ stem.set ++ p ∷ []
      → below.among ≡ stem.among
      → ((q : ℕ) → is_among below.candidates q ≡ (is_among stem.candidates q && is_among row q))
      → below.units ≡ total (units_of problem k) below.set → below.flight ≡ flight_of problem k below.set
      → IsLine problem k below.set → IsStem problem k below
  IsStem-below stem below p row is here is_row set among both units flight line =
      let parts = λ (q : ℕ) (h : is_among below.candidates q ≡ true). and_parts (is_among stem.candidates q) (is_among row q) (sym (both q) ∙ h) in
      record {
        line = line;
        units = units;
        flight = flight;
        known = λ q h. subst (λ among. is_among among q ≡ true) (sym among) (is.known q (parts q h).0);
        places = λ q h. is.places q (parts q h).0;
        behind = λ q h.
            let pair = (is_row q).0 (parts q h).1 in
            subst (All (λ r. r < q)) (sym set)
            (All-push (λ r. r < q) stem.set p (is.behind q (parts q h).0) pair.0);
        single = λ q h. is.single q (parts q h).0;
        pairs = λ q r h held.
            elim (among_cases stem.set (p ∷ []) r (subst (λ s. is_among s r ≡ true) set held)) [
              | inl old ↦ is.pairs q r (parts q h).0 old
              | inr new ↦ subst (λ s. IsLegal problem k (s ∷ q ∷ [])) (among_single p r new) ((is_row q).0 (parts q h).1).2
            ];
        every = λ q rest line looked.
            let line' = subst (λ s. IsLine problem k (s ++ q ∷ rest)) set line in
            let old =
            is.every q [] (IsLine-without stem.set p q rest line')
            (subst (λ looked. is_among looked q ≡ true) among looked) in
            both q ∙ and_from _ _ old ((is_row q).1 (pair_of_line stem.set p q rest line'));
      }

  -- a line holds nothing but what is legal alone
  pub alone_of_line : (alone set : List ℕ) (p : ℕ) → AreAlone problem k alone → IsLine problem k set
      → is_among set p ≡ true → is_among alone p ≡ true
  alone_of_line alone set p are line here =
      let single =
      legal set (p ∷ [])
      (λ q h. subst (λ r. is_among set r ≡ true) (among_single p q h) here) line.legal in
      (are p).1 (All-is_among (λ q. q < length problem.pairings) set p line.places here, single)

-- the stem of the empty line
pub IsStem-root : (problem : Problem) (k : ℕ) (among : List ℕ) (flight : ℕ) → AreLegalAlone problem k among → flight ≡ flight_of problem k [] → IsStem problem k (record { set = []; number = 0; among = among; candidates = among; units = pos 0; flight = flight })
IsStem-root problem k among flight is flown = record {
  line = IsLine-empty problem k;
  units = sym (total-nil (units_of problem k));
  flight = flown;
  known = λ p h. h;
  places = λ p h. (is p h).0;
  behind = λ p h. All-nil (λ q. q < p);
  single = λ p h. (is p h).1;
  pairs = λ p q h held. absurd (false≢true held);
  every = λ p rest line looked. looked;
}
