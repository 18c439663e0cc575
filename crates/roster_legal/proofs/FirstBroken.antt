-- The rule that is broken first is only one, that there is none or one can't be refuted, and what the
-- limits say of a person with a set.
use Rattle.std.proofs.Common.{◌≡◌, ℕ, zero, suc, ◌⊎◌, List, Option, Some, None, length, refl, sym, ap, subst, inl, inr, arith}
use Rattle.std.specs.Prelude.{◌↔◌, IsTrue, Bool, option_map, unwrap_or}
use Rattle.std.proofs.lemmas.Bool.{cases_lt, cases_order}
use Rattle.roster_model.proofs.RuleLemmas.{HoldBelow, below-all, one_of_rank, rules-ranked}
use Rattle.roster_model.specs.Calendar.{Days}
use Rattle.roster_model.specs.Problem.{Problem, home_of, year_of, eleven_of}
use Rattle.roster_model.specs.records.Crew.{Person}
use Rattle.roster_model.specs.records.Duty.{Duty}
use Rattle.roster_model.specs.Rules.{Limit, LimitRule, Rule, by_rank, duty_list, rank_of, Holds, HoldsLimit, IsFirstBroken}
use Rattle.roster_cumulative.specs.Limited.{Limited, IsKept}
use Rattle.roster_legal.specs.Looks.{LookAt}

pub IsFirstBroken-one : (problem : Problem) (k : ℕ) (set : List ℕ) (a b : Option Rule)
    → IsFirstBroken problem k set a → IsFirstBroken problem k set b → a ≡ b
IsFirstBroken-one problem k set None None first second = refl
IsFirstBroken-one problem k set None (Some b) first second = absurd (second.0 (first b))
IsFirstBroken-one problem k set (Some a) None first second = absurd (first.0 (second a))
IsFirstBroken-one problem k set (Some a) (Some b) first second =
    elim (cases_order (rank_of a) (rank_of b)) [
      | inl same ↦ ap Some (one_of_rank rank_of by_rank rules-ranked a b same)
      | inr apart ↦ elim apart [
        | inl before ↦ absurd (first.0 (second.1 a before))
        | inr after ↦ absurd (second.0 (first.1 b after))
      ]
    ]

-- the rules up to the n-th hold, or one of all is broken first
abbrev Judged : Problem → ℕ → List ℕ → ℕ → Type 0
Judged problem k set n =
    HoldBelow rank_of (Holds problem k set) n ⊎ ((broken : Rule) × IsFirstBroken problem k set (Some broken))

-- with the n-th rule, if there is one
judged_more : (problem : Problem) (k : ℕ) (set : List ℕ) (n : ℕ) → HoldBelow rank_of (Holds problem k set) n
    → ¬ ¬ (Judged problem k set (suc n))
judged_more problem k set n held none =
    let no_rule : (rule : Rule) → rank_of rule ≡ n → ⊥ = λ rule at.
    let kept : Holds problem k set rule → ⊥ = λ h. none (inl (λ other within. elim (cases_lt (rank_of other) n) [
      | inl before ↦ held other before
      | inr on ↦
          let same : rank_of rule ≡ rank_of other = omega arith in
          subst (Holds problem k set) (one_of_rank rank_of by_rank rules-ranked rule other same) h
    ])) in
    none (inr (rule, (kept, λ other before. held other (omega arith)))) in
    none (inl (λ rule within. elim (cases_lt (rank_of rule) n) [
      | inl before ↦ held rule before
      | inr on ↦ absurd (no_rule rule (omega arith))
    ]))

judged : (problem : Problem) (k : ℕ) (set : List ℕ) (n : ℕ) → ¬ ¬ (Judged problem k set n)
judged problem k set zero none = none (inl (λ rule within. absurd (omega arith)))
judged problem k set (suc n) none =
    judged problem k set n (λ so_far. elim so_far [
      | inl held ↦ judged_more problem k set n held none
      | inr found ↦ none (inr found)
    ])

pub has_first_broken : (problem : Problem) (k : ℕ) (set : List ℕ)
    → ¬ ¬ ((broken : Option Rule) × IsFirstBroken problem k set broken)
has_first_broken problem k set none =
    judged problem k set (length by_rank) (λ all. elim all [
      | inl held ↦ none (None, below-all rank_of by_rank rules-ranked (Holds problem k set) held)
      | inr found ↦ none (Some found.0, found.1)
    ])

-- ---- limits

-- a limit holds of person k with the set exactly if it does of what the limits look at
pub holds-limit : (problem : Problem) (k : ℕ) (set : List ℕ) (limits : Limited) (limit : Limit) (test : Bool)
    → LookAt problem k set limits → (IsTrue test ↔ IsKept limits limit)
    → (IsTrue test ↔ Holds problem k set (LimitRule limit))
holds-limit problem k set limits limit test look is =
    let home = (home_of problem k).days in
    let duties = duty_list problem k set in
    let person = limits.carried in
    let year : year_of problem k ≡ person.year =
    ap (λ (o : Option Person). unwrap_or (option_map (λ p. p.year) o) 0) look.person in
    let eleven : eleven_of problem k ≡ person.eleven =
    ap (λ (o : Option Person). unwrap_or (option_map (λ p. p.eleven) o) 0) look.person in
    subst (λ n. IsTrue test ↔ HoldsLimit home duties (year_of problem k) n limit) (sym eleven)
    (subst (λ n. IsTrue test ↔ HoldsLimit home duties n person.eleven limit) (sym year)
    (subst (λ (l : List Duty). IsTrue test ↔ HoldsLimit home l person.year person.eleven limit) look.list
    (subst (λ (d : Days). IsTrue test ↔ HoldsLimit d limits.list person.year person.eleven limit) look.days is)))
