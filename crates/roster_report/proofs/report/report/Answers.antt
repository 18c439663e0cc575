use Rattle.std.proofs.Common.{ap, ◌∙◌, List, [], ◌∷◌, ℕ, ◌++◌, ℤ, codes, map, rules}
use Rattle.std.specs.Prelude.{Option, option_map}
use Rattle.std.specs.Int.{w64}
use Rattle.std.proofs.lemmas.Int.{to_z-of_z}
use Rattle.std.specs.Int.RustNames.{FitsSigned}
use Rattle.std.specs.Fmt.{signed_decimal}
use Rattle.roster_model.specs.Calendar.{Period}
use Rattle.roster_model.specs.Rosters.{Key}
use Rattle.roster_model.specs.Rules.{Rule}
use Rattle.roster_model.specs.Texts.{report_text, roster_lines, line_of, period_text}
use Rattle.roster_values.specs.View.{rule_of}
use Rattle.roster_report.proofs.LineOf.{three-texts}
use Rattle.roster_report.proofs.report.report.Goals as goal

pub returns : goal.returns
unfolding report_text
returns c =
    let problem = c.args.problem.now in
    let heading = c.in_ok-push_heading.ensures ∙ ap (λ (t : List ℕ). t ++ line_of (codes "ROSTER" ∷ period_text c.period.result ∷ [])) c.new-text.ensures.items ∙ ap (λ (p : Period). line_of (codes "ROSTER" ∷ period_text p ∷ [])) c.period.ensures in
    let inside = c.roster.inside in
    let fits : FitsSigned w64 inside.cost = search rules in
    let told =
    to_z-of_z w64 inside.cost fits ∙ ap (λ (key : Key). key.cost) c.roster.view_is ∙ c.requires.cost in
    let placed = c.as_slice-places.ensures ∙ ap (λ (key : Key). key.places) c.roster.view_is in
    let cost = c.in_ok-push_amount.ensures ∙ ap (λ (z : ℤ). c.push_heading.new.out.items ++ line_of (codes "COST" ∷ signed_decimal z ∷ [])) told in
    let locks : List (Option Rule) = map (option_map rule_of) c.in_ok-locks.locks.items in
    let lines = c.in_ok-push_roster.ensures ∙ ap (λ (places : List ℕ). c.push_amount.new.out.items ++ roster_lines problem (map (option_map rule_of) c.deref.result.now) places) placed ∙ ap (λ ls. c.push_amount.new.out.items ++ roster_lines problem (map (option_map rule_of) ls) c.args.roster.now.places) c.deref.ensures.value in
    record {
      locks = locks;
      locked = c.in_ok-locks.ensures;
      written = three-texts _ _ _ _ _ _ heading cost lines;
    }
