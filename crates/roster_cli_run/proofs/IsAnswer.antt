-- Records have one answer.
use Rattle.std.proofs.Common.{◌≡◌, ◌⊎◌, ℕ, zero, suc, ◌<◌, List, [], length, get_or, Option, Some, None, refl, ap, sym, ◌∙◌, subst, inl, inr, arith}
use Rattle.std.specs.Prelude.{slice_get}
use Rattle.std.proofs.lemmas.Bool.{cases_lt}
use Rattle.std.proofs.lemmas.Option.{same_Some, slice_get-get_or}
use Rattle.roster_model.specs.Answer.{IsAnswer, IsBestReport, IsCrowdedFault, IsFirstFault, IsProblemFault, IsRefusal, IsReport, Reports}
use Rattle.roster_model.specs.Code.{TooManyLines}
use Rattle.roster_model.specs.Faults.{Fault, fault_at, first_fault}
use Rattle.roster_model.specs.Lines.{IsCrowded, IsFirstCrowded}
use Rattle.roster_model.specs.Problem.{Problem, problem_of}
use Rattle.roster_model.specs.Record.{Record, Command, Solve, Check, Replay}
use Rattle.roster_model.specs.Rosters.{AreVerdicts}
use Rattle.roster_model.specs.Settled.{IsBest}
use Rattle.roster_model.specs.Rules.{AreLocks, Rule}
use Rattle.roster_model.specs.Texts.{IsCheckOf, IsReportOf, check_text, report_text, fault_text}
use Rattle.roster_model.specs.records.Assign.{assigned_in}
use Rattle.roster_model.specs.records.Crew.{Person}

-- ---- at most one

-- a problem has one best roster at most, and what locks persons and what they break is one list each
pub record Single : Type 0 where
  pub best : (problem : Problem) (a b : List ℕ) → IsBest problem a → IsBest problem b → a ≡ b
  pub locks : (problem : Problem) (a b : List (Option Rule)) → AreLocks problem a → AreLocks problem b → a ≡ b
  pub verdicts : (problem : Problem) (places : List ℕ) (a b : List (Option Rule))
      → AreVerdicts problem places a → AreVerdicts problem places b → a ≡ b

same_crowded : (problem : Problem) (j k : ℕ) → IsFirstCrowded problem j → IsFirstCrowded problem k → j ≡ k
same_crowded problem j k p q =
    elim (cases_lt j k) [
      | inl before ↦ absurd (q.first j before p.crowded)
      | inr on ↦ elim (cases_lt k j) [ inl before ↦ absurd (p.first k before q.crowded) | inr back ↦ omega arith ]
    ]

same_crowded_fault : (problem : Problem) (a b : Fault) → IsCrowdedFault problem a → IsCrowdedFault problem b
    → a ≡ b
same_crowded_fault problem a b p q =
    let same : p.k ≡ q.k = same_crowded problem p.k q.k p.crowded q.crowded in
    let person : p.person ≡ q.person =
    same_Some p.person q.person (sym p.there ∙ ap (slice_get problem.persons) same ∙ q.there) in
    p.told ∙ ap (λ (person : Person). fault_at person.row TooManyLines) person ∙ sym q.told

same_problem_fault : (command : Command) (problem : Problem) (a b : Fault) → IsProblemFault command problem a
    → IsProblemFault command problem b → a ≡ b
same_problem_fault Solve problem a b p q = same_crowded_fault problem a b p q
same_problem_fault Check problem a b p q = absurd p
same_problem_fault Replay problem a b p q = same_crowded_fault problem a b p q

same_fault : (command : Command) (records : List Record) (a b : Fault) → IsFirstFault command records a
    → IsFirstFault command records b → a ≡ b
same_fault command records a b (inl p) (inl q) = same_Some a b (sym p ∙ q)
same_fault command records a b (inl p) (inr q) =
    let both : Some a ≡ None = sym p ∙ q.faultless in
    absurd cc
same_fault command records a b (inr p) (inl q) =
    let both : Some b ≡ None = sym q ∙ p.faultless in
    absurd cc
same_fault command records a b (inr p) (inr q) =
    same_problem_fault command (problem_of records) a b p.later q.later

same_refusal : (command : Command) (records : List Record) (s t : List ℕ) → IsRefusal command records s
    → IsRefusal command records t → s ≡ t
same_refusal command records s t p q =
    p.written ∙ ap fault_text (same_fault command records p.fault q.fault p.first q.first) ∙ sym q.written

same_report : Single → (problem : Problem) (places : List ℕ) (s t : List ℕ) → IsReportOf problem places s
    → IsReportOf problem places t → s ≡ t
same_report one problem places s t p q =
    p.written
    ∙ ap (λ locks. report_text problem locks places) (one.locks problem p.locks q.locks p.locked q.locked)
    ∙ sym q.written

same_check : Single → (problem : Problem) (places : List ℕ) (s t : List ℕ) → IsCheckOf problem places s
    → IsCheckOf problem places t → s ≡ t
same_check one problem places s t p q =
    let locks : p.locks ≡ q.locks = one.locks problem p.locks q.locks p.locked q.locked in
    let verdicts : p.verdicts ≡ q.verdicts =
    one.verdicts problem places p.verdicts q.verdicts p.judged q.judged in
    p.written ∙ ap (λ locks. check_text problem locks p.verdicts places) locks
    ∙ ap (λ verdicts. check_text problem q.locks verdicts places) verdicts ∙ sym q.written

same_best : Single → (problem : Problem) (s t : List ℕ) → IsBestReport problem s → IsBestReport problem t
    → s ≡ t
same_best one problem s t p q =
    let same : p.places ≡ q.places = one.best problem p.places q.places p.best q.best in
    same_report one problem q.places s t
    (subst (λ places. IsReportOf problem places s) same p.written) q.written

same_reports : Single → (command : Command) (problem : Problem) (assigned s t : List ℕ)
    → Reports command problem assigned s → Reports command problem assigned t → s ≡ t
same_reports one Solve problem assigned s t p q = same_best one problem s t p q
same_reports one Check problem assigned s t p q = same_check one problem assigned s t p q
same_reports one Replay problem assigned s t p q = same_best one problem s t p q

no_both : (command : Command) (records : List Record) (s t : List ℕ) → IsRefusal command records s
    → IsReport command records t → s ≡ t
no_both command records s t p q = absurd (q.faultless p.fault p.first)

pub same_answer : Single → (command : Command) (records : List Record) (s t : List ℕ)
    → IsAnswer command records s → IsAnswer command records t → s ≡ t
same_answer one command records s t (inl p) (inl q) = same_refusal command records s t p q
same_answer one command records s t (inl p) (inr q) = no_both command records s t p q
same_answer one command records s t (inr p) (inl q) = sym (no_both command records t s q p)
same_answer one command records s t (inr p) (inr q) =
    same_reports one command (problem_of records) (assigned_in records) s t p.reports q.reports

-- ---- and not none

-- there can't but be a best roster, and lists of what locks persons and of what they break
pub record Present : Type 0 where
  pub best : (problem : Problem) → ¬ ¬ ((places : List ℕ) × IsBest problem places)
  pub locks : (problem : Problem) → ¬ ¬ ((locks : List (Option Rule)) × AreLocks problem locks)
  pub verdicts : (problem : Problem) (places : List ℕ)
      → ¬ ¬ ((verdicts : List (Option Rule)) × AreVerdicts problem places verdicts)

-- nobody before place n has too many lines, or there is a first who has
crowded_before : (problem : Problem) (n : ℕ) → ¬ ¬ (((k : ℕ) × (k < n) × IsCrowded problem k × ((j : ℕ) → j < k → ¬ IsCrowded problem j)) ⊎ ((k : ℕ) → k < n → ¬ IsCrowded problem k))
crowded_before problem zero none = none (inr (λ k within. absurd (omega arith)))
crowded_before problem (suc n) none =
    crowded_before problem n (λ before.
    elim before [
      | inl found ↦ none (inl (found.0, omega (arith, found.1), found.2, found.3))
      | inr few ↦
          none (inr (λ k within crowded.
          none (inl (k, within, crowded, λ j earlier. few j (omega arith)))))
    ])

-- any person
somebody : Person
somebody = record { id = []; base = 0; target = 0; year = 0; eleven = 0; row = 0 }

crowded_fault : (problem : Problem) → ¬ ¬ (((fault : Fault) × IsCrowdedFault problem fault) ⊎ ((fault : Fault) → ¬ IsCrowdedFault problem fault))
crowded_fault problem none =
    crowded_before problem (length problem.persons) (λ persons.
    elim persons [
      | inl found ↦
          none (inl (
            _,
            record {
              k = found.0;
              person = get_or problem.persons found.0 somebody;
              there = slice_get-get_or problem.persons found.0 somebody found.1;
              crowded = record { person = found.1; crowded = found.2; first = found.3 };
              told = refl;
            },
          ))
      | inr few ↦ none (inr (λ fault told. few told.k told.crowded.person told.crowded.crowded))
    ])

problem_fault : (command : Command) (problem : Problem) → ¬ ¬ (((fault : Fault) × IsProblemFault command problem fault) ⊎ ((fault : Fault) → ¬ IsProblemFault command problem fault))
problem_fault Solve problem none = crowded_fault problem none
problem_fault Check problem none = none (inr (λ fault told. absurd told))
problem_fault Replay problem none = crowded_fault problem none

best_report : Present → (problem : Problem) → ¬ ¬ ((text : List ℕ) × IsBestReport problem text)
best_report has problem none =
    has.best problem (λ best. has.locks problem (λ locks. none (
      report_text problem locks.0 best.0,
      record { places = best.0; best = best.1; written = record { locks = locks.0; locked = locks.1; written = refl } },
    )))

some_report : Present → (command : Command) (problem : Problem) (assigned : List ℕ)
    → ¬ ¬ ((text : List ℕ) × Reports command problem assigned text)
some_report has Solve problem assigned none = best_report has problem none
some_report has Replay problem assigned none = best_report has problem none
some_report has Check problem assigned none =
    has.locks problem (λ locks. has.verdicts problem assigned (λ verdicts. none (
      check_text problem locks.0 verdicts.0 assigned,
      record { locks = locks.0; locked = locks.1; verdicts = verdicts.0; judged = verdicts.1; written = refl },
    )))

pub no_fault : (command : Command) (records : List Record) → first_fault command records ≡ None
    → ((fault : Fault) → ¬ IsProblemFault command (problem_of records) fault) → (fault : Fault)
    → ¬ IsFirstFault command records fault
no_fault command records is later fault (inl told) =
    let both : Some fault ≡ None = sym told ∙ is in
    absurd cc
no_fault command records is later fault (inr told) = later fault told.later

by_first_fault : Present → (command : Command) (records : List Record) (first : Option Fault)
    → first_fault command records ≡ first → ¬ ¬ ((text : List ℕ) × IsAnswer command records text)
by_first_fault has command records (Some fault) is none =
    none (fault_text fault, inl (record { fault = fault; first = inl is; written = refl }))
by_first_fault has command records None is none =
    problem_fault command (problem_of records) (λ later.
    elim later [
      | inl told ↦ none (fault_text told.0, inl (record { fault = told.0; first = inr (record { faultless = is; later = told.1 }); written = refl }))
      | inr nothing ↦
          some_report has command (problem_of records) (assigned_in records) (λ told.
          none (told.0, inr (record { faultless = no_fault command records is nothing; reports = told.1 })))
    ])

pub some_answer : Present → (command : Command) (records : List Record)
    → ¬ ¬ ((text : List ℕ) × IsAnswer command records text)
some_answer has command records = by_first_fault has command records (first_fault command records) refl
