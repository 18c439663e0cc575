-- What is said of each person, as some code gathers it person by person.
use Rattle.std.proofs.Common.{◌≡◌, ℕ, ◌+◌, ◌<◌, List, [], ◌∷◌, ◌++◌, length, get_or, map, Option, None, sym, ap, ◌∙◌, subst, inl, inr, arith}
use Rattle.std.specs.Prelude.{option_map}
use Rattle.std.proofs.Math.Seq.{get_or-append_seam}
use Rattle.std.proofs.lemmas.Bool.{cases_lt}
use Rattle.std.proofs.lemmas.List.{get_or-map, get_or_append_left, length-map, length_push}
use Rattle.std.proofs.lemmas.Option.{slice_get-get_or, slice_get_within, get_or_from_slice_get}
use Rattle.roster_model.specs.Problem.{Problem}
use Rattle.roster_model.specs.Rules as model
use Rattle.roster_model.specs.Rules.{AreOfEach}
use Rattle.roster_model.specs.Texts.{rule_at}
use Rattle.roster_values.specs.declared.rule.Rule.{Rule}
use Rattle.roster_values.specs.View.{rule_of}

-- what may be said of the person at a place
abbrev pub Saying : Type 1
Saying = ℕ → Option model.Rule → Type 0

-- the list says it of the persons before place k, and of nobody else
pub record SaidBefore (Says : Saying) (k : ℕ) (rules : List (Option Rule)) : Type 0 where
  pub long : length rules ≡ k
  pub each : (j : ℕ) (default : Option Rule) → j < k → Says j (option_map rule_of (get_or rules j default))

pub SaidBefore_none : (Says : Saying) (rules : List (Option Rule)) → rules ≡ [] → SaidBefore Says 0 rules
SaidBefore_none Says rules none =
    record { long = ap length none; each = λ j default within. absurd (omega arith) }

pub SaidBefore-more : (Says : Saying) (k : ℕ) (rules new : List (Option Rule)) (rule : Option Rule)
    → SaidBefore Says k rules → new ≡ rules ++ rule ∷ [] → Says k (option_map rule_of rule)
    → SaidBefore Says (k + 1) new
SaidBefore-more Says k rules new rule before pushed here =
    let long = before.long in
    subst (SaidBefore Says (k + 1)) (sym pushed) (record {
      long = omega (arith, length_push rules rule);
      each = λ j default within.
          elim (cases_lt j k) [
            | inl earlier ↦
                let same : get_or (rules ++ rule ∷ []) j default ≡ get_or rules j default =
                get_or_append_left rules (rule ∷ []) default j (omega arith) in
                subst (λ l. Says j (option_map rule_of l)) (sym same) (before.each j default earlier)
            | inr on ↦
                let last : k ≡ j = omega arith in
                let place : j ≡ length rules = omega arith in
                let same : get_or (rules ++ rule ∷ []) j default ≡ rule =
                ap (λ i. get_or (rules ++ rule ∷ []) i default) place
                ∙ get_or-append_seam rules rule [] default in
                subst (λ l. Says j (option_map rule_of l)) (sym same)
                (subst (λ i. Says i (option_map rule_of rule)) last here)
          ];
    })

pub AreOfEach-before : (Says : Saying) (problem : Problem) (k : ℕ) (rules : List (Option Rule))
    → SaidBefore Says k rules → length problem.persons ≡ k
    → AreOfEach Says problem (map (option_map rule_of) rules)
AreOfEach-before Says problem k rules before all =
    let same : length (map (option_map rule_of) rules) ≡ length rules =
    length-map rules (option_map rule_of) in
    record {
      covers = same ∙ before.long ∙ sym all;
      each = λ j rule at.
          let within = slice_get_within (map (option_map rule_of) rules) j rule at in
          let found : option_map rule_of (get_or rules j None) ≡ rule =
          sym (get_or-map (option_map rule_of) rules j None rule (omega arith))
          ∙ get_or_from_slice_get (map (option_map rule_of) rules) j rule rule at in
          subst (Says j) found (before.each j None (omega (arith, before.long)));
    }

-- one of them, as it is read from the list
pub rule_at-map : (rules : List (Option Rule)) (k : ℕ) (default : Option Rule) → k < length rules
    → rule_at (map (option_map rule_of) rules) k ≡ option_map rule_of (get_or rules k default)
rule_at-map rules k default within =
    let long = length-map rules (option_map rule_of) in
    rw (slice_get-get_or (map (option_map rule_of) rules) k (option_map rule_of default) (omega arith))
    (get_or-map (option_map rule_of) rules k default (option_map rule_of default) within)
