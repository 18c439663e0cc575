-- A part of a legal set is legal: what each rule says of a part of a duty list or of a set.
pub mod Listed
pub mod Base
pub mod Overlap
pub mod Leave
pub mod Rest
pub mod Recovery
pub mod Limits
pub mod DaysOff
use Rattle.std.proofs.Common.{◌≡◌, ℕ, ◌<◌, true, false, eqb, List, refl, sym, ap, ◌∙◌, subst, inl, inr}
use Rattle.std.proofs.lemmas.Bool.{both_ways, false_from_ne_true}
use Rattle.std.proofs.lemmas.List.Elements.{All-filter, filter_passes}
use Rattle.std.proofs.lemmas.List.Kept.{AllPairs-filter}
use Rattle.roster_model.specs.Problem.{Problem, home_of, leaves_of, precedes, year_of, eleven_of}
use Rattle.roster_model.specs.records.Duty.{Holder, OfPairing, OfPerson}
use Rattle.roster_model.specs.Rules.{duty_list, is_among, is_listed, Rule, BaseRule, OverlapRule, LeaveRule, RestRule, RecoveryRule, LimitRule, DaysOffRule, Holds, HoldsLimit, IsLegal}
use Rattle.roster_model.specs.Rules.Overlap.{NoOverlap}
use Rattle.roster_model.specs.Rules.Leave.{KeepsLeave}
use Rattle.roster_model.specs.Rules.Recovery.{KeepsRecovery}
use Rattle.roster_model.specs.Rules.Rest.{KeepsRest, is_of_pairing}
use Rattle.roster_model.specs.Rules.DaysOff.{KeepsDaysOff}
use Rattle.roster_model.proofs.SetLemmas.{empty_set}
use Rattle.roster_problem.specs.Duties.{AreTimed, IsInOrder}
use Rattle.roster_legal.proofs.Parts.Listed.{IsPart, shorter}
use Rattle.roster_legal.proofs.Parts.Base.{KeepsBase-part}
use Rattle.roster_legal.proofs.Parts.Overlap.{NoOverlap-filter}
use Rattle.roster_legal.proofs.Parts.Leave.{KeepsLeave-filter}
use Rattle.roster_legal.proofs.Parts.Rest.{KeepsRest-filter, LeavesPairings}
use Rattle.roster_legal.proofs.Parts.Recovery.{KeepsRecovery-filter}
use Rattle.roster_legal.proofs.Parts.Limits.{HoldsLimit-filter}
use Rattle.roster_legal.proofs.Parts.DaysOff.{KeepsDaysOff-filter}

of_pairing : (k : ℕ) (set part : List ℕ) (holder : Holder) → is_listed k set holder ≡ true
    → is_listed k part holder ≡ false → is_of_pairing holder ≡ true
of_pairing k set part (OfPairing p) listed left = refl
of_pairing k set part (OfPerson j) listed left = absurd (both_ways (eqb j k) left listed)

-- what a part of the set leaves out belongs to pairings: fixed duties stay
leaves_pairings : (problem : Problem) (k : ℕ) (set part : List ℕ)
    → LeavesPairings (λ duty. is_listed k part duty.holder) (duty_list problem k set)
leaves_pairings problem k set part i d inside left =
    of_pairing k set part _
    (filter_passes (λ duty. is_listed k set duty.holder) problem.duties i d inside) left

-- the duty list of a set is in order, and its duties end after they begin, as all duties do
pub list_ordered : (problem : Problem) (k : ℕ) (set : List ℕ) → IsInOrder problem.duties
    → IsInOrder (duty_list problem k set)
list_ordered problem k set ordered =
    AllPairs-filter (λ a b. precedes b a ≡ false) (λ duty. is_listed k set duty.holder) problem.duties ordered

list_timed : (problem : Problem) (k : ℕ) (set : List ℕ) → AreTimed problem.duties
    → AreTimed (duty_list problem k set)
list_timed problem k set timed =
    All-filter (λ duty. is_listed k set duty.holder) (λ d. d.report < d.release) problem.duties timed

pub Holds-part : (problem : Problem) (k : ℕ) (set part : List ℕ) → IsInOrder problem.duties
    → AreTimed problem.duties → IsPart part set → ((rule : Rule) → Holds problem k set rule) → (rule : Rule)
    → Holds problem k part rule
Holds-part problem k set part ordered timed more holds BaseRule =
    KeepsBase-part problem k set part more (holds BaseRule)
Holds-part problem k set part ordered timed more holds OverlapRule =
    subst NoOverlap (shorter problem k set part more)
    (NoOverlap-filter (λ duty. is_listed k part duty.holder) (duty_list problem k set) (holds OverlapRule))
Holds-part problem k set part ordered timed more holds LeaveRule =
    subst (KeepsLeave (leaves_of problem k)) (shorter problem k set part more)
    (KeepsLeave-filter (leaves_of problem k) (λ duty. is_listed k part duty.holder) (duty_list problem k set) (holds LeaveRule))
Holds-part problem k set part ordered timed more holds RestRule =
    subst (KeepsRest (home_of problem k)) (shorter problem k set part more)
    (KeepsRest-filter (home_of problem k) (λ duty. is_listed k part duty.holder) (duty_list problem k set) (leaves_pairings problem k set part) (list_timed problem k set timed) (holds RestRule))
Holds-part problem k set part ordered timed more holds RecoveryRule =
    subst (KeepsRecovery (home_of problem k).days) (shorter problem k set part more)
    (KeepsRecovery-filter (home_of problem k).days (λ duty. is_listed k part duty.holder) (duty_list problem k set) (list_ordered problem k set ordered) (list_timed problem k set timed) (holds OverlapRule) (holds RecoveryRule))
Holds-part problem k set part ordered timed more holds (LimitRule limit) =
    subst (λ list. HoldsLimit (home_of problem k).days list (year_of problem k) (eleven_of problem k) limit)
    (shorter problem k set part more)
    (HoldsLimit-filter (home_of problem k).days (λ duty. is_listed k part duty.holder) (duty_list problem k set) (year_of problem k) (eleven_of problem k) limit (holds (LimitRule limit)))
Holds-part problem k set part ordered timed more holds DaysOffRule =
    subst (KeepsDaysOff (home_of problem k).days) (shorter problem k set part more)
    (KeepsDaysOff-filter (home_of problem k).days (λ duty. is_listed k part duty.holder) (duty_list problem k set) (holds DaysOffRule))

pub IsLegal-part : (problem : Problem) (k : ℕ) (set part : List ℕ) → IsInOrder problem.duties
    → AreTimed problem.duties → IsPart part set → IsLegal problem k set → IsLegal problem k part
IsLegal-part problem k set part ordered timed more legal =
    elim legal [
      | inl empty ↦ inl (empty_set part (λ p. false_from_ne_true _ (λ h. both_ways false refl (sym (ap (λ s. is_among s p) empty) ∙ more p h))))
      | inr holds ↦ inr (Holds-part problem k set part ordered timed more holds)
    ]
