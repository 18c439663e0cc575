-- Duties in order of which none overlaps another.
use Rattle.std.proofs.Common.{◌≡◌, ℕ, suc, ◌+◌, ◌-◌, ◌<◌, ◌≤◌, List, [], ◌∷◌, Some, refl, sym, ◌∙◌, subst, inl, inr, arith}
use Rattle.std.specs.Prelude.{All, AllPairs, slice_get, min, max}
use Rattle.std.proofs.lemmas.Bool.{cases_eq}
use Rattle.std.proofs.lemmas.List.Elements.{All-nil, All-cons, All-head, All-tail, All-weaker}
use Rattle.std.proofs.lemmas.List.Kept.{AllPairs-cons}
use Rattle.std.proofs.lemmas.Option.{get_or_from_slice_get, same_Some, slice_get_within}
use Rattle.roster_model.proofs.OrderLemmas.{pair_at, reports-later}
use Rattle.roster_model.specs.records.Duty.{Duty}
use Rattle.roster_model.specs.Rules.Overlap.{NoOverlap}
use Rattle.roster_problem.specs.Duties.{AreTimed, IsInOrder}

AllPairs-nil : {X : Type 0} (R : X → X → Type 0) → AllPairs R []
AllPairs-nil R i j d l inside = absurd (omega arith)

-- ---- two duties

in_turn : (a b c d : ℕ) → min b d - max a c ≡ 0 → a ≤ c → a < b → c < d → b ≤ c
in_turn a b c d none order first second = omega arith

nothing_shared : (a b c d : ℕ) → b ≤ c → min b d - max a c ≡ 0
nothing_shared a b c d h = omega arith

timed_at : (list : List Duty) (i : ℕ) (a : Duty) → AreTimed list → slice_get list i ≡ Some a
    → a.report < a.release
timed_at list i a timed at =
    subst (λ (d : Duty). d.report < d.release) (get_or_from_slice_get list i a a at)
    (timed i a (slice_get_within list i a at))

-- ---- neighbours of which the first ends before the next begins

abbrev pub InTurn : List Duty → Type 0
InTurn list =
    (i : ℕ) (a b : Duty) → slice_get list i ≡ Some a → slice_get list (i + 1) ≡ Some b → a.release ≤ b.report

-- a duty ends before each later one begins,
turns : (list : List Duty) → IsInOrder list → AreTimed list → NoOverlap list → (i j : ℕ) (a b : Duty) → i < j
    → slice_get list i ≡ Some a → slice_get list j ≡ Some b → a.release ≤ b.report
turns list ordered timed apart i j a b before first second =
    let order = reports-later list ordered i j a b (omega arith) first second in
    let none =
    pair_at
    (λ a b. min a.release b.release - max a.report b.report ≡ 0) list apart i j a b before first second in
    in_turn a.report a.release b.report b.release none order (timed_at list i a timed first)
    (timed_at list j b timed second)

pub in_turn_at : (list : List Duty) → IsInOrder list → AreTimed list → NoOverlap list → InTurn list
in_turn_at list ordered timed apart i a b = turns list ordered timed apart i (i + 1) a b (omega arith)

-- and no later than that ends
pub releases-later : (list : List Duty) → IsInOrder list → AreTimed list → NoOverlap list
    → (i j : ℕ) (a b : Duty) → i ≤ j → slice_get list i ≡ Some a → slice_get list j ≡ Some b
    → a.release ≤ b.release
releases-later list ordered timed apart i j a b order first second =
    elim (cases_eq i j) [
      | inl same ↦
          let one = same_Some a b (sym first ∙ subst (λ k. slice_get list k ≡ Some b) (sym same) second) in
          subst (λ (d : Duty). a.release ≤ d.release) one (omega arith)
      | inr other ↦
          let turn = turns list ordered timed apart i j a b (omega arith) first second in
          let ends = timed_at list j b timed second in
          omega arith
    ]

tail_in_turn : (a : Duty) (list : List Duty) → InTurn (a ∷ list) → InTurn list
tail_in_turn a list turn i b c first second =
    let next : suc (i + 1) ≡ suc i + 1 = omega arith in
    turn (suc i) b c first (subst (λ k. slice_get (a ∷ list) k ≡ Some c) next second)

-- none begins before t
later : (t : ℕ) (list : List Duty) → AreTimed list → InTurn list
    → ((b : Duty) → slice_get list 0 ≡ Some b → t ≤ b.report) → All (λ b. t ≤ b.report) list
later t [] timed turn first = All-nil (λ b. t ≤ b.report)
later t (b ∷ list) timed turn first =
    let here : t ≤ b.report = first b refl in
    let ends : b.report < b.release = All-head (λ d. d.report < d.release) b list timed in
    All-cons (λ b. t ≤ b.report) b list here
    (later t list (All-tail (λ d. d.report < d.release) b list timed) (tail_in_turn b list turn) (λ c at. let l : b.release ≤ c.report = turn 0 b c refl at in omega arith))

pub no_overlap_in_turn : (list : List Duty) → AreTimed list → InTurn list → NoOverlap list
no_overlap_in_turn [] timed turn = AllPairs-nil (λ a b. min a.release b.release - max a.report b.report ≡ 0)
no_overlap_in_turn (a ∷ list) timed turn =
    let rest = All-tail (λ d. d.report < d.release) a list timed in
    let after = later a.release list rest (tail_in_turn a list turn) (λ b at. turn 0 a b refl at) in
    AllPairs-cons (λ a b. min a.release b.release - max a.report b.report ≡ 0) a list
    (All-weaker (λ b. a.release ≤ b.report) (λ b. min a.release b.release - max a.report b.report ≡ 0) (λ b h. nothing_shared a.report a.release b.report b.release h) list after)
    (no_overlap_in_turn list rest (tail_in_turn a list turn))
