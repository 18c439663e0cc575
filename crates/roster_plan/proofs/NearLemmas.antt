-- Which lines a neighbourhood has. Each legal roster that is near (`IsNear`) has its lines in the table
-- (`of_near`), so the earlier one of the known roster and the table's least isn't after it. If persons of a
-- base may have all, and nobody else anything, each legal roster of the base is near (`free_near`).
use Rattle.std.proofs.Common.{◌≡◌, ℕ, ◌+◌, ◌<◌, Bool, true, false, eqb, List, [], length, refl, sym, ap, ap₂, ◌∙◌, subst, inl, inr, arith}
use Rattle.std.specs.Prelude.{slice_get, Some, ◌||◌}
use Rattle.std.proofs.lemmas.Bool.{cases_Bool, cases_lt, eq-eqb, false≢true}
use Rattle.std.proofs.lemmas.Option.{slice_get_cases, slice_get_within, slice_get-get_or}
use Rattle.roster_model.specs.Places.{set_of}
use Rattle.roster_model.specs.Problem.{Problem}
use Rattle.roster_model.specs.Rosters.{IsLegalRoster}
use Rattle.roster_model.specs.Rules.{is_among}
use Rattle.roster_model.proofs.LineLemmas.{given_line}
use Rattle.roster_model.proofs.PlacesLemmas.{is_among-set_of_past}
use Rattle.roster_model.proofs.SetLemmas.{empty_set}
use Rattle.roster_lines_table.specs.Entries.{Entry}
use Rattle.roster_lines_table.specs.Person.{lines_at, AreListed}
use Rattle.roster_lines.specs.declared.wanted.Between.{Between}
use Rattle.roster_lines.specs.Between.{IsBetween}
use Rattle.roster_lines.specs.WantedTables.{AreAllWanted}
use Rattle.roster_bases.specs.Bases.{base_of_person, only}
use Rattle.roster_bases.specs.Homes.{IsHome}
use Rattle.roster_plan.specs.Near.{HasAllNear, IsNear}

-- what a person wants who keeps some pairings and may have others
abbrev pub wants : Between → Problem → ℕ → List ℕ → Type 0
wants between problem k set = IsBetween between.must between.may set

-- a legal roster of the neighbourhood has lines of the table
pub of_near : (problem : Problem) (wanted : List Between) (table : List (List Entry))
    → AreListed problem table → AreAllWanted wants problem wanted table
    → length wanted ≡ length problem.persons → HasAllNear problem wanted table
of_near problem wanted table listed all covers places legal near k inside =
    let person : k < length problem.persons = omega (arith, inside, listed.covers) in
    let none : List Entry = [] in
    let lines = slice_get-get_or table k none inside in
    elim (slice_get_cases wanted k).1 [
      | inl found ↦ (all.each k (lines_at table k) found.0 lines found.2).every (set_of k places) (given_line problem k places legal person) (near k found.0 found.2)
      | inr past ↦ absurd (omega (arith, past.0, person, covers))
    ]

-- a set that has each pairing,
abbrev pub HasAll : ℕ → List ℕ → Type 0
HasAll count set = (p : ℕ) → p < count → is_among set p ≡ true

either_true : (a b : Bool) → b ≡ true → (a || b) ≡ true
either_true true b is = refl
either_true false b is = is

first_true : (a b : Bool) → a ≡ true → (a || b) ≡ true
first_true true b is = refl
first_true false b is = absurd (false≢true is)

-- which has one more with each step
pub HasAll-next : (p : ℕ) (old new : List ℕ) → HasAll p old
    → ((q : ℕ) → is_among new q ≡ (is_among old q || eqb p q)) → HasAll (p + 1) new
HasAll-next p old new has members q below = elim (cases_lt q p) [
  | inl before ↦ members q ∙ first_true (is_among old q) (eqb p q) (has q before)
  | inr after ↦ members q ∙ either_true (is_among old q) (eqb p q) (eq-eqb p q (omega arith))
]

-- A person of the base is free who keeps nothing and may have each pairing; any other one keeps and may have nothing.
pub record IsFree (problem : Problem) (base k : ℕ) (between : Between) : Type 0 where
  pub keeps : between.must ≡ []
  pub may : only base (base_of_person problem k) ≡ true → HasAll (length problem.pairings) between.may
  pub none : only base (base_of_person problem k) ≡ false → between.may ≡ []

abbrev pub AreFree : Problem → ℕ → List Between → Type 0
AreFree problem base wanted =
    (k : ℕ) (between : Between) → slice_get wanted k ≡ Some between → IsFree problem base k between

-- so each legal roster in which only persons of the base fly is near
pub free_near : (problem : Problem) (base : ℕ) (wanted : List Between) (places : List ℕ)
    → AreFree problem base wanted → length wanted ≡ length problem.persons
    → IsLegalRoster problem places → IsHome problem (only base) places → IsNear wanted places
free_near problem base wanted places free covers legal home k between at =
    let is = free k between at in
    let person : k < length problem.persons = omega (arith, slice_get_within wanted k between at, covers) in
    record {
      holds = λ p member. absurd (false≢true (sym (ap (λ set. is_among set p) is.keeps) ∙ member));
      within = λ p member. elim (cases_Bool (only base (base_of_person problem k))) [
        | inl ours ↦ elim (cases_lt p (length places)) [
          | inl below ↦ let covers = legal.covers in either_true (is_among between.must p) (is_among between.may p) (is.may ours p (omega arith))
          | inr past ↦ absurd (false≢true (sym (is_among-set_of_past k p places past) ∙ member))
        ]
        | inr other ↦ absurd (false≢true (subst (λ set. is_among set p ≡ true) (home k person other) member))
      ];
    }

-- and in each list of places that is near nobody else flies
pub near_home : (problem : Problem) (base : ℕ) (wanted : List Between) (places : List ℕ)
    → AreFree problem base wanted → length wanted ≡ length problem.persons
    → IsNear wanted places → IsHome problem (only base) places
near_home problem base wanted places free covers near k person other =
    elim (slice_get_cases wanted k).1 [
      | inl found ↦
          let between = found.0 in
          let is = free k between found.2 in
          let nothing : (p : ℕ) → (is_among between.must p || is_among between.may p) ≡ false =
          λ p. ap₂ (λ must may. is_among must p || is_among may p) is.keeps (is.none other) in
          empty_set (set_of k places) (λ p. elim (cases_Bool (is_among (set_of k places) p)) [
            | inl member ↦ absurd (false≢true (sym (nothing p) ∙ (near k between found.2).within p member))
            | inr none ↦ none
          ])
      | inr past ↦ absurd (omega (arith, past.0, person, covers))
    ]
