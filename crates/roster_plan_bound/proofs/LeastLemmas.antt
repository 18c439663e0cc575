-- What no line of a person is below.
use Rattle.std.proofs.Common.{◌≡◌, ℕ, List, sym, subst, ◌⊎◌, inl, inr, ℤ, w64, to_z, of_z, FitsSigned, rules}
use Rattle.std.specs.Prelude.{Option, None, Some, IfSome, MatchOption}
use Rattle.std.proofs.lemmas.Int.{to_z-of_z}
use Rattle.roster_model.specs.Problem.{Problem}
use Rattle.roster_cost.specs.Amounts.{IsWithin}
use Rattle.roster_plan_bound.specs.declared.parts.TheConstants.{MOST_LEAST}
use Rattle.roster_plan_bound.specs.Reduced.{IsLeastOf}

-- it fits a word
pub least_word : (problem : Problem) (prices : List ℤ) (k : ℕ) (least : ℤ) → IsLeastOf problem prices k least
    → IsLeastOf problem prices k (to_z w64 (of_z w64 least))
least_word problem prices k least is =
    let within : IsWithin MOST_LEAST least = is.within in
    let fits : FitsSigned w64 least = search rules in
    subst (IsLeastOf problem prices k) (sym (to_z-of_z w64 least fits)) is

-- one of two such numbers, if there is a second one
pub one_of_two : (problem : Problem) (prices : List ℤ) (k : ℕ) (number one : ℤ) (found : Option ℤ)
    → IsLeastOf problem prices k number → IfSome found (IsLeastOf problem prices k)
    → MatchOption found (one ≡ number) (λ other. (one ≡ number) ⊎ (one ≡ other))
    → IsLeastOf problem prices k (to_z w64 (of_z w64 one))
one_of_two problem prices k number one None first second which =
    least_word problem prices k one (subst (IsLeastOf problem prices k) (sym which) first)
one_of_two problem prices k number one (Some other) first second which =
    least_word problem prices k one (elim which [
      | inl same ↦ subst (IsLeastOf problem prices k) (sym same) first
      | inr same ↦ subst (IsLeastOf problem prices k) (sym same) second
    ])
