-- Duties of which each ends before the next begins, up to some place.
use Rattle.std.proofs.Common.{◌≡◌, ℕ, zero, suc, ◌+◌, ◌-◌, ◌<◌, ◌≤◌, List, Some, length, get_or, sym, ◌∙◌, subst, inl, inr, arith}
use Rattle.std.specs.Prelude.{slice_get, min, max}
use Rattle.std.proofs.lemmas.Bool.{cases_eq}
use Rattle.std.proofs.lemmas.Option.{get_or_from_slice_get, same_Some, slice_get-get_or, slice_get_within}
use Rattle.roster_model.proofs.OrderLemmas.{reports-later}
use Rattle.roster_model.specs.Calendar.{common}
use Rattle.roster_model.specs.records.Duty.{Duty}
use Rattle.roster_model.specs.Rules.Overlap.{NoOverlap}
use Rattle.roster_problem.specs.Duties.{AreTimed, IsInOrder}

timed_at : (list : List Duty) (i : ℕ) (a : Duty) → AreTimed list → slice_get list i ≡ Some a
    → a.report < a.release
timed_at list i a timed at =
    subst (λ (d : Duty). d.report < d.release) (get_or_from_slice_get list i a a at)
    (timed i a (slice_get_within list i a at))

-- of the neighbours before place n the first ends before the next begins
abbrev pub InTurnTo : List Duty → ℕ → Type 0
InTurnTo list n =
    (i : ℕ) (a b : Duty) → i + 1 < n → slice_get list i ≡ Some a → slice_get list (i + 1) ≡ Some b → a.release ≤ b.report

in_turn : (a b c d : ℕ) → min b d - max a c ≡ 0 → a ≤ c → a < b → c < d → b ≤ c
in_turn a b c d none order first second = omega arith

-- with two more neighbours that share no minute
pub turn-more : (list : List Duty) → IsInOrder list → AreTimed list → (n : ℕ) (a b : Duty)
    → slice_get list (n - 1) ≡ Some a → slice_get list n ≡ Some b
    → common a.report a.release b.report b.release ≡ 0 → InTurnTo list n → InTurnTo list (n + 1)
turn-more list ordered timed n a b first second none turn i c d below at_c at_d =
    elim (cases_eq (i + 1) n) [
      | inl here ↦
          let last : i ≡ n - 1 = omega arith in
          let one : a ≡ c = same_Some a c (sym first ∙ subst (λ j. slice_get list j ≡ Some c) last at_c) in
          let two : b ≡ d = same_Some b d (sym second ∙ subst (λ j. slice_get list j ≡ Some d) here at_d) in
          let order = reports-later list ordered i (i + 1) c d (omega arith) at_c at_d in
          let nothing : common c.report c.release d.report d.release ≡ 0 =
          subst (λ (x : Duty). common x.report x.release d.report d.release ≡ 0) one
          (subst (λ (x : Duty). common a.report a.release x.report x.release ≡ 0) two none) in
          in_turn c.report c.release d.report d.release nothing order (timed_at list i c timed at_c)
          (timed_at list (i + 1) d timed at_d)
      | inr other ↦ turn i c d (omega arith) at_c at_d
    ]

-- so a duty ends before each later one begins,
turns_by : (list : List Duty) → AreTimed list → (n : ℕ) → InTurnTo list n → (i d : ℕ) (a b : Duty)
    → i + suc d < n → slice_get list i ≡ Some a → slice_get list (i + suc d) ≡ Some b → a.release ≤ b.report
turns_by list timed n turn i zero a b below first second =
    let next : i + suc zero ≡ i + 1 = omega arith in
    turn i a b (omega arith) first (subst (λ k. slice_get list k ≡ Some b) next second)
turns_by list timed n turn i (suc d) a b below first second =
    let inside = slice_get_within list (i + suc (suc d)) b second in
    let within : i + suc d < length list = omega arith in
    let m : Duty = get_or list (i + suc d) b in
    let middle : slice_get list (i + suc d) ≡ Some m = slice_get-get_or list (i + suc d) b within in
    let before = turns_by list timed n turn i d a m (omega arith) first middle in
    let ends = timed_at list (i + suc d) m timed middle in
    let next : i + suc (suc d) ≡ i + suc d + 1 = omega arith in
    let after =
    turn (i + suc d) m b (omega arith) middle (subst (λ k. slice_get list k ≡ Some b) next second) in
    omega arith

pub turns_to : (list : List Duty) → AreTimed list → (n : ℕ) → InTurnTo list n → (i j : ℕ) (a b : Duty) → i < j
    → j < n → slice_get list i ≡ Some a → slice_get list j ≡ Some b → a.release ≤ b.report
turns_to list timed n turn i j a b before below first second =
    let there : j ≡ i + suc (j - i - 1) = omega arith in
    turns_by list timed n turn i (j - i - 1) a b (omega arith) first
    (subst (λ k. slice_get list k ≡ Some b) there second)

nothing_shared : (a b c d : ℕ) → b ≤ c → min b d - max a c ≡ 0
nothing_shared a b c d h = omega arith

-- and they share no minute.
pub nothing_shared_to : (list : List Duty) → AreTimed list → (n : ℕ) → InTurnTo list n
    → (i j : ℕ) (a b : Duty) → i < j → j < n → slice_get list i ≡ Some a → slice_get list j ≡ Some b
    → common a.report a.release b.report b.release ≡ 0
nothing_shared_to list timed n turn i j a b before below first second =
    nothing_shared a.report a.release b.report b.release
    (turns_to list timed n turn i j a b before below first second)

-- nor do a duty and one that begins after the next of it
pub nothing_shared_past : (list : List Duty) → IsInOrder list → AreTimed list → (n : ℕ) → InTurnTo list n
    → (m : ℕ) (c a b : Duty) → m < n - 1 → slice_get list m ≡ Some c → slice_get list (n - 1) ≡ Some a
    → slice_get list n ≡ Some b → common c.report c.release b.report b.release ≡ 0
nothing_shared_past list ordered timed n turn m c a b before at_c at_a at_b =
    let ends = turns_to list timed n turn m (n - 1) c a before (omega arith) at_c at_a in
    let order = reports-later list ordered (n - 1) n a b (omega arith) at_a at_b in
    nothing_shared c.report c.release b.report b.release (omega arith)

pub no_overlap_to : (list : List Duty) → AreTimed list → (n : ℕ) → length list ≤ n → InTurnTo list n
    → NoOverlap list
no_overlap_to list timed n all turn i j d before inside =
    nothing_shared_to list timed n turn i j (get_or list i d) (get_or list j d) before (omega arith)
    (slice_get-get_or list i d (omega arith)) (slice_get-get_or list j d inside)
