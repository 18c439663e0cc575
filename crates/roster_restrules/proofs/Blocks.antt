-- Blocks of duties, and the recovery rule on them.
use Rattle.std.proofs.Common.{◌≡◌, ℕ, ◌+◌, ◌-◌, ◌<◌, ◌≤◌, List, Some, subst, sym, ◌∙◌, inl, inr, arith}
use Rattle.std.specs.Prelude.{slice_get}
use Rattle.std.proofs.lemmas.Bool.{cases_eq, cases_lt}
use Rattle.std.proofs.lemmas.Option.{same_Some}
use Rattle.roster_model.proofs.OrderLemmas.{reports-later}
use Rattle.roster_model.specs.Calendar.{Days, month_start}
use Rattle.roster_model.specs.declared.profile.TheConstants.{BETWEEN_RECURRENT_RESTS}
use Rattle.roster_model.specs.records.Duty.{Duty}
use Rattle.roster_model.specs.Rules.Recovery.{HasRestAfter, IsRecurrent}
use Rattle.roster_problem.specs.Duties.{IsInOrder}
use Rattle.roster_restrules.specs.Block.{EndsInTime, IsBlock}

-- ---- the block of the next duty

-- a recurrent rest lies between two neighbours just where it lies between their times
pub recurrent_at : (days : Days) (list : List Duty) (k : ℕ) (a b : Duty) → slice_get list k ≡ Some a
    → slice_get list (k + 1) ≡ Some b → HasRestAfter days list k → IsRecurrent days a.release b.report
recurrent_at days list k a b first second rest =
    let last = same_Some rest.last a (sym rest.before ∙ first) in
    let next = same_Some rest.next b (sym rest.after ∙ second) in
    subst (λ (d : Duty). IsRecurrent days a.release d.report) next
    (subst (λ (d : Duty). IsRecurrent days d.release rest.next.report) last rest.recurrent)

pub longer_block : (days : Days) (list : List Duty) (first i : ℕ) → IsBlock days list first (i - 1)
    → (0 < i → ¬ HasRestAfter days list (i - 1)) → IsBlock days list first i
longer_block days list first i block none = record {
  order = omega (arith, block.order);
  unbroken = λ k from before.
      elim (cases_eq k (i - 1)) [
        | inl last ↦ subst (λ n. ¬ HasRestAfter days list n) (sym last) (none (omega arith))
        | inr earlier ↦ block.unbroken k from (omega arith)
      ];
  begins = block.begins;
}

-- ---- the rule

-- a block has no recurrent rest within it, so what follows its first duty's follows
in_block : (days : Days) (list : List Duty) (first i j : ℕ) → IsBlock days list first j
    → ((k : ℕ) → i ≤ k → k < j → ¬ HasRestAfter days list k) → first ≤ i
in_block days list first i j block none =
    elim (cases_lt i first) [
      | inl before ↦
          let order = block.order in
          absurd (none (first - 1) (omega arith) (omega arith) (block.begins (first - 1) (omega arith)))
      | inr inside ↦ inside
    ]

pub ends_in_block : (days : Days) (list : List Duty) (first j : ℕ) (f d : Duty) → IsInOrder list
    → IsBlock days list first j → slice_get list first ≡ Some f → slice_get list j ≡ Some d
    → (month_start days < d.release → d.release ≤ f.report + BETWEEN_RECURRENT_RESTS) → EndsInTime days list j
ends_in_block days list first j f d ordered block is_first is_last ends i a b order at_i at_j none late =
    let same : b ≡ d = same_Some b d (sym at_j ∙ is_last) in
    let inside = in_block days list first i j block none in
    let earlier = reports-later list ordered first i f a inside is_first at_i in
    let P : Duty → Type 0 =
    λ x. month_start days < x.release → x.release ≤ f.report + BETWEEN_RECURRENT_RESTS in
    let soon = subst P (sym same) ends late in
    omega arith
