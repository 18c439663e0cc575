use Rattle.std.proofs.Common.{◌≡◌, ap, ◌∙◌, List, [], ◌∷◌, ℕ, ◌++◌, ℤ, codes, map, rules}
use Rattle.std.specs.Prelude.{Option, option_map}
use Rattle.std.specs.Int.{w64}
use Rattle.std.specs.Int.RustNames.{FitsSigned}
use Rattle.std.proofs.lemmas.Int.{to_z-of_z}
use Rattle.std.specs.Fmt.{signed_decimal}
use Rattle.roster_model.specs.Calendar.{Period}
use Rattle.roster_model.specs.Rules.{Rule}
use Rattle.roster_model.specs.Texts.{check_text, line_of, period_text}
use Rattle.roster_values.specs.View.{rule_of}
use Rattle.roster_report.proofs.LineOf.{three-texts}
use Rattle.roster_report.proofs.check.check.Goals as goal

pub returns : goal.returns
unfolding check_text
returns c =
    let problem = c.args.problem.now in
    let heading = c.in_ok-push_heading.ensures ∙ ap (λ (t : List ℕ). t ++ line_of (codes "CHECK" ∷ period_text c.period.result ∷ [])) c.new-text.ensures.items ∙ ap (λ (p : Period). line_of (codes "CHECK" ∷ period_text p ∷ [])) c.period.ensures in
    let fits : FitsSigned w64 c.roster_cost.result = search rules in
    let cost = c.in_ok-push_amount.ensures ∙ ap (λ (z : ℤ). c.push_heading.new.out.items ++ line_of (codes "COST" ∷ signed_decimal z ∷ [])) (to_z-of_z w64 c.roster_cost.result fits ∙ c.roster_cost.ensures) in
    let locks : List (Option Rule) = map (option_map rule_of) c.in_ok-locks.locks.items in
    let verdicts : List (Option Rule) = map (option_map rule_of) c.in_ok-verdicts.verdicts.items in
    let given : c.as_slice-locked.result.now ≡ c.in_ok-locks.locks.items = c.as_slice-locked.ensures.value in
    let told : c.as_slice-broken.result.now ≡ c.in_ok-verdicts.verdicts.items =
    c.as_slice-broken.ensures.value in
    let persons = rw (given, told) at c.in_ok-push_verdicts.ensures in
    record {
      locks = locks;
      locked = c.in_ok-locks.ensures;
      verdicts = verdicts;
      judged = c.in_ok-verdicts.ensures;
      written = three-texts _ _ _ _ _ _ heading cost persons;
    }
