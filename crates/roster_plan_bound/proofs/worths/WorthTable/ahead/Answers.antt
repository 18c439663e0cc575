use Rattle.std.proofs.Common.{◌≡◌, ℕ, ◌+◌, ◌*◌, ◌≤◌, ℤ, pos, ◌+ℤ◌, ◌*ℤ◌, ◌<◌, ◌^◌, FitsSigned, w64, to_z, of_z, List, Some, length, get_or, inl, inr, arith, ap, ◌∙◌, subst, sym}
use Rattle.std.specs.Prelude.{All, slice_get}
use Rattle.std.proofs.lemmas.Bool.{cases_lt}
use Rattle.std.proofs.lemmas.Int.{ints}
use Rattle.std.proofs.lemmas.List.{get_or_past}
use Rattle.std.proofs.lemmas.Option.{get_or_from_slice_get, slice_get-get_or}
use Rattle.roster_model.specs.declared.limits.TheConstants.{MOST_PAIRINGS}
use Rattle.roster_cost.specs.Amounts.{IsWithin}
use Rattle.roster_plan_bound.specs.declared.parts.TheConstants.{MOST_BEHIND, MOST_BESIDE, MOST_FLIGHT, MOST_LADEN, MOST_SUM, MOST_WORTH}
use Rattle.roster_plan_bound.specs.declared.rows_behind.OwedRows.{OwedRows}
use Rattle.roster_plan_bound.specs.Behinds.{lowest, row_at, row_for}
use Rattle.roster_plan_bound.proofs.ProductLemmas.{fits_in, pos_within, times_within, told_in}
use Rattle.roster_plan_bound.proofs.RowLemmas.{within-more}
use Rattle.roster_plan_bound.proofs.worths.WorthTable.ahead.Goals as goal

-- what the pairings bring that are there
module _ (value worth : ℤ) (flight : ℕ) (value_within : IsWithin MOST_LADEN value)
    (worth_within : IsWithin MOST_WORTH worth) (few : flight ≤ MOST_PAIRINGS * MOST_FLIGHT) where
  flown : IsWithin (MOST_WORTH * (MOST_PAIRINGS * MOST_FLIGHT)) (worth *ℤ pos flight)
  flown = times_within worth (pos flight) MOST_WORTH (MOST_PAIRINGS * MOST_FLIGHT) worth_within (pos_within (MOST_PAIRINGS * MOST_FLIGHT) flight few)

  brought_within : IsWithin MOST_BEHIND (value +ℤ (worth *ℤ pos flight))
  brought_within =
      let low = flown.0 in
      let high = flown.1 in
      let low_value = value_within.0 in
      let high_value = value_within.1 in
      (omega (arith, ints, low, low_value), omega (arith, ints, high, high_value))

  brought_told : to_z w64 (of_z w64 (to_z w64 (of_z w64 value) +ℤ to_z w64 (of_z w64 (to_z w64 (of_z w64 worth) *ℤ to_z w64 flight)))) ≡ value +ℤ (worth *ℤ pos flight)
  brought_told =
      let cast : to_z w64 flight ≡ pos flight = omega (arith, ints, few) in
      let product : to_z w64 (of_z w64 worth) *ℤ to_z w64 flight ≡ worth *ℤ pos flight =
      ap (λ z. z *ℤ to_z w64 flight) (told_in MOST_WORTH worth worth_within (omega arith)) ∙ ap (λ z. worth *ℤ z) cast in
      let product_told : to_z w64 (of_z w64 (to_z w64 (of_z w64 worth) *ℤ to_z w64 flight)) ≡ worth *ℤ pos flight =
      ap (λ z. to_z w64 (of_z w64 z)) product ∙ told_in (MOST_WORTH * (MOST_PAIRINGS * MOST_FLIGHT)) (worth *ℤ pos flight) flown (omega arith) in
      let value_told = told_in MOST_LADEN value value_within (omega arith) in
      let whole : to_z w64 (of_z w64 value) +ℤ to_z w64 (of_z w64 (to_z w64 (of_z w64 worth) *ℤ to_z w64 flight)) ≡ value +ℤ (worth *ℤ pos flight) =
      omega (arith, ints, value_told, product_told) in
      ap (λ z. to_z w64 (of_z w64 z)) whole ∙ told_in MOST_BEHIND _ brought_within (omega arith)

-- two amounts as words have them
added : (a b : ℤ) (m n : ℕ) (word : ℤ) → IsWithin m a → IsWithin n b → word ≡ a → n < 2 ^ 63
    → word +ℤ to_z w64 (of_z w64 b) ≡ a +ℤ b
added a b m n word first second is few = omega (arith, ints, is, told_in n b second few)

both_within : (a b : ℤ) (m n : ℕ) → IsWithin m a → IsWithin n b → IsWithin (m + n) (a +ℤ b)
both_within a b m n first second =
    let low = first.0 in
    let high = first.1 in
    let low_second = second.0 in
    let high_second = second.1 in
    (omega (arith, ints, low, low_second), omega (arith, ints, high, high_second))

fits_both : (a b : ℤ) (m n : ℕ) (word : ℤ) → IsWithin m a → IsWithin n b → word ≡ a → n < 2 ^ 63 → m + n < 2 ^ 63
    → FitsSigned w64 (word +ℤ to_z w64 (of_z w64 b))
fits_both a b m n word first second is few most =
    subst (FitsSigned w64) (sym (added a b m n word first second is few)) (fits_in (m + n) (a +ℤ b) (both_within a b m n first second) most)

told_both : (a b : ℤ) (m n : ℕ) (word : ℤ) → IsWithin m a → IsWithin n b → word ≡ a → n < 2 ^ 63 → m + n < 2 ^ 63
    → to_z w64 (of_z w64 (word +ℤ to_z w64 (of_z w64 b))) ≡ a +ℤ b
told_both a b m n word first second is few most =
    ap (λ z. to_z w64 (of_z w64 z)) (added a b m n word first second is few) ∙ told_in (m + n) (a +ℤ b) (both_within a b m n first second) most

pub overflow_add-result-2 : goal.overflow_add-result-2
overflow_add-result-2 c =
    let value = c.args.value in
    let worth = c.args.self.now.worth in
    let flight = c.args.flight in
    let r = c.requires in
    fits_both (value +ℤ (worth *ℤ pos flight)) c.args.self.now.fixed MOST_BEHIND MOST_BESIDE _ (brought_within value worth flight r.value r.worth r.flight) r.fixed (brought_told value worth flight r.value r.worth r.flight) (omega arith) (omega arith)

-- the row, as it is read
amount_is : (c : goal.After-at) (rows : OwedRows) → slice_get c.args.self.now.behind.rows.items c.args.q ≡ Some rows
    → c.at.result ≡ row_at (row_for rows c.args.need) c.args.class
amount_is c rows at =
    let all = c.args.self.now.behind.rows.items in
    let found : c.index.result.now ≡ rows =
    c.index.ensures ∙ get_or_from_slice_get all c.args.q rows c.index.result.now at in
    c.at.ensures.value
    ∙ ap (λ row. row_at row c.args.class) (c.row.ensures ∙ ap (λ r. row_for r c.args.need) found)

amount_within : (row : List ℤ) (class : ℕ) → All (IsWithin MOST_BEHIND) row → IsWithin MOST_BEHIND (row_at row class)
amount_within row class within =
    elim (cases_lt class (length row)) [
      | inl inside ↦ within class lowest inside
      | inr past ↦ subst (IsWithin MOST_BEHIND) (sym (get_or_past row class lowest past)) (omega (arith, ints), omega (arith, ints))
    ]

row_within : (c : goal.After-at) → IsWithin MOST_BEHIND c.at.result
row_within c =
    let all = c.args.self.now.behind.rows.items in
    let rows = c.index.result.now in
    let at = slice_get-get_or all c.args.q rows c.requires.pairing in
    subst (IsWithin MOST_BEHIND) (sym (amount_is c (get_or all c.args.q rows) at))
    (amount_within (row_for (get_or all c.args.q rows) c.args.need) c.args.class (c.requires.rows c.args.q rows c.requires.pairing))

-- what is brought, with what stands beside it
there : (c : goal.After-at) → IsWithin (MOST_BEHIND + MOST_BESIDE) ((c.args.value +ℤ (c.args.self.now.worth *ℤ pos c.args.flight)) +ℤ c.args.self.now.fixed)
there c =
    let r = c.requires in
    both_within (c.args.value +ℤ (c.args.self.now.worth *ℤ pos c.args.flight)) c.args.self.now.fixed MOST_BEHIND MOST_BESIDE (brought_within c.args.value c.args.self.now.worth c.args.flight r.value r.worth r.flight) r.fixed

there_told : (c : goal.After-at) → to_z w64 (of_z w64 (to_z w64 (of_z w64 (to_z w64 (of_z w64 c.args.value) +ℤ to_z w64 (of_z w64 (to_z w64 (of_z w64 c.args.self.now.worth) *ℤ to_z w64 c.args.flight)))) +ℤ to_z w64 (of_z w64 c.args.self.now.fixed))) ≡ (c.args.value +ℤ (c.args.self.now.worth *ℤ pos c.args.flight)) +ℤ c.args.self.now.fixed
there_told c =
    let r = c.requires in
    told_both (c.args.value +ℤ (c.args.self.now.worth *ℤ pos c.args.flight)) c.args.self.now.fixed MOST_BEHIND MOST_BESIDE (to_z w64 (of_z w64 (to_z w64 (of_z w64 c.args.value) +ℤ to_z w64 (of_z w64 (to_z w64 (of_z w64 c.args.self.now.worth) *ℤ to_z w64 c.args.flight))))) (brought_within c.args.value c.args.self.now.worth c.args.flight r.value r.worth r.flight) r.fixed (brought_told c.args.value c.args.self.now.worth c.args.flight r.value r.worth r.flight) (omega arith) (omega arith)

pub overflow_add-result-3 : goal.overflow_add-result-3
overflow_add-result-3 c =
    fits_both ((c.args.value +ℤ (c.args.self.now.worth *ℤ pos c.args.flight)) +ℤ c.args.self.now.fixed) c.at.result (MOST_BEHIND + MOST_BESIDE) MOST_BEHIND _ (there c) (row_within c) (there_told c) (omega arith) (omega arith)

whole_told : (c : goal.After-at) → to_z w64 (of_z w64 (to_z w64 (of_z w64 (to_z w64 (of_z w64 (to_z w64 (of_z w64 c.args.value) +ℤ to_z w64 (of_z w64 (to_z w64 (of_z w64 c.args.self.now.worth) *ℤ to_z w64 c.args.flight)))) +ℤ to_z w64 (of_z w64 c.args.self.now.fixed))) +ℤ to_z w64 (of_z w64 c.at.result))) ≡ ((c.args.value +ℤ (c.args.self.now.worth *ℤ pos c.args.flight)) +ℤ c.args.self.now.fixed) +ℤ c.at.result
whole_told c =
    told_both ((c.args.value +ℤ (c.args.self.now.worth *ℤ pos c.args.flight)) +ℤ c.args.self.now.fixed) c.at.result (MOST_BEHIND + MOST_BESIDE) MOST_BEHIND _ (there c) (row_within c) (there_told c) (omega arith) (omega arith)

pub returns-clause-value : goal.returns-clause-value
returns-clause-value c rows at =
    whole_told c ∙ ap (λ z. ((c.args.value +ℤ (c.args.self.now.worth *ℤ pos c.args.flight)) +ℤ c.args.self.now.fixed) +ℤ z) (amount_is c rows at)

pub returns-clause-within : goal.returns-clause-within
returns-clause-within c =
    subst (IsWithin MOST_SUM) (sym (whole_told c))
    (within-more ((MOST_BEHIND + MOST_BESIDE) + MOST_BEHIND) MOST_SUM _ (omega arith) (both_within ((c.args.value +ℤ (c.args.self.now.worth *ℤ pos c.args.flight)) +ℤ c.args.self.now.fixed) c.at.result (MOST_BEHIND + MOST_BESIDE) MOST_BEHIND (there c) (row_within c)))
