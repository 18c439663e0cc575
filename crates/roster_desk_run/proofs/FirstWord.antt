-- What the first word of an answer says.
use Rattle.std.proofs.Common.{◌≡◌, ℕ, ℤ, List, Option, None, Some, arith, get_or, sym, ap, ◌∙◌, inl, inr, codes}
use Rattle.std.specs.Prelude.{take}
use Rattle.roster_model.specs.Answer.{IsBestReport, IsRefusal}
use Rattle.roster_model.specs.Faults.{Fault}
use Rattle.roster_model.specs.Plans.{IsPlanReport}
use Rattle.roster_model.specs.Problem.{Problem, problem_of}
use Rattle.roster_model.specs.Record.{Check, Record}
use Rattle.roster_model.specs.Rules.{Rule}
use Rattle.roster_model.specs.Texts.{fault_text, plan_text}
use Rattle.roster_desk_run.specs.Run.{SaysBest, SaysBestSoFar}

-- a plan's begins with a P,
plan_is_none : (problem : Problem) (bound : ℤ) (locks : List (Option Rule)) (places : List ℕ)
    → take 6 (plan_text problem bound locks places) ≡ codes "ROSTER" → ⊥
unfolding plan_text
plan_is_none problem bound locks places begins =
    let first : ◌≡◌ {A = ℕ} 80 82 = ap (λ (text : List ℕ). get_or text 0 0) begins in
    absurd (omega arith)

-- and that of a fault with an F
fault_is_none : (fault : Fault) → take 6 (fault_text fault) ≡ codes "ROSTER" → ⊥
unfolding fault_text
fault_is_none fault begins =
    let first : ◌≡◌ {A = ℕ} 70 82 = ap (λ (text : List ℕ). get_or text 0 0) begins in
    absurd (omega arith)

no_refusal : (book : List Record) (text : List ℕ) → IsRefusal Check book text
    → take 6 text ≡ codes "ROSTER" → ⊥
no_refusal book text refusal begins =
    fault_is_none refusal.fault (ap (take 6) (sym refusal.written) ∙ begins)

best_of_plan : (problem : Problem) (given text : List ℕ) → IsPlanReport problem given text
    → take 6 text ≡ codes "ROSTER" → IsBestReport problem text
best_of_plan problem given text (inl plan) begins =
    absurd (plan_is_none problem plan.bound plan.written.locks plan.key.places (ap (take 6) (sym plan.written.written) ∙ begins))
best_of_plan problem given text (inr best) begins = best

pub says_best : SaysBest
says_best None book text (inl refusal) begins = absurd (no_refusal book text refusal begins)
says_best None book text (inr planned) begins =
    (planned.faultless, best_of_plan (problem_of book) _ text planned.reports begins)
says_best (Some report) book text (inl refusal) begins = absurd (no_refusal book text refusal begins)
says_best (Some report) book text (inr planned) begins =
    (planned.faultless, best_of_plan (problem_of book) planned.start text planned.reports begins)

pub says_best_so_far : SaysBestSoFar
says_best_so_far problem text (inl plan) begins =
    absurd (plan_is_none problem plan.bound plan.written.locks plan.key.places (ap (take 6) (sym plan.written.written) ∙ begins))
says_best_so_far problem text (inr best) begins = best
