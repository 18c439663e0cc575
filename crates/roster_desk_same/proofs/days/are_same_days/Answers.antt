use Rattle.std.proofs.lemmas.Grind.{common_steps}
use Rattle.std.proofs.Common.{rules, ◌≡◌, ℕ, suc, ◌<◌, List, [], ◌∷◌, length, Some, refl, sym, ap, ◌∙◌, inl, inr, arith}
use Rattle.std.specs.Prelude.{slice_get}
use Rattle.std.proofs.lemmas.Bool.{cases_lt}
use Rattle.roster_model.specs.Calendar.{Days, IsTable}
use Rattle.roster_desk_same.proofs.days.are_same_days.Goals as goal

same_list : (xs ys : List ℕ) → length xs ≡ length ys
    → ((j : ℕ) → j < length xs → slice_get xs j ≡ slice_get ys j) → xs ≡ ys
same_list [] [] long each = refl
same_list [] (y ∷ ys) long each = absurd (omega arith)
same_list (x ∷ xs) [] long each = absurd (omega arith)
same_list (x ∷ xs) (y ∷ ys) long each =
    let first : Some x ≡ Some y = each 0 (omega arith) in
    let rest : xs ≡ ys = same_list xs ys (omega arith) (λ j few. each (suc j) (omega arith)) in
    cc

same_parts : (a b : Days) → a.month_days ≡ b.month_days → a.mid ≡ b.mid → a.eight ≡ b.eight → a.ten ≡ b.ten
    → a ≡ b
same_parts a b month mid eight ten =
    let first : a ≡ record a { month_days = b.month_days } = ap (λ (m : ℕ). record a { month_days = m }) month in
    let second : record a { month_days = b.month_days } ≡ record b { eight = a.eight; ten = a.ten } =
    ap (λ (l : List ℕ). record a { month_days = b.month_days; mid = l }) mid in
    let third : record b { eight = a.eight; ten = a.ten } ≡ record b { ten = a.ten } =
    ap (λ (l : List ℕ). record b { eight = l; ten = a.ten }) eight in
    let fourth : record b { ten = a.ten } ≡ b = ap (λ (l : List ℕ). record b { ten = l }) ten in
    first ∙ second ∙ third ∙ fourth

-- days whose instants are the same are the same
same_days : (a b : Days) → IsTable a → IsTable b → length a.eight ≡ length b.eight → a.month_days ≡ b.month_days
    → ((j : ℕ) → j < length a.eight → slice_get a.mid j ≡ slice_get b.mid j)
    → ((j : ℕ) → j < length a.eight → slice_get a.eight j ≡ slice_get b.eight j)
    → ((j : ℕ) → j < length a.eight → slice_get a.ten j ≡ slice_get b.ten j)
    → slice_get a.mid (length a.eight) ≡ slice_get b.mid (length a.eight) → a ≡ b
same_days a b one two days month mids eights tens last =
    let every : (j : ℕ) → j < length a.mid → slice_get a.mid j ≡ slice_get b.mid j =
    λ j few. elim (cases_lt j (length a.eight)) [
      | inl before ↦ mids j before
      | inr at ↦
          let same : j ≡ length a.eight = omega (arith, one.mid) in
          ap (λ i. slice_get a.mid i) same ∙ last ∙ ap (λ i. slice_get b.mid i) (sym same)
    ] in
    let mid = same_list a.mid b.mid (omega (arith, one.mid, two.mid)) every in
    let eight = same_list a.eight b.eight days eights in
    let ten = same_list a.ten b.ten (omega (arith, one.ten, two.ten)) (λ j few. tens j (omega (arith, one.ten))) in
    same_parts a b month mid eight ten

pub returns : goal.returns
returns c = λ _.
    let a = c.args.a.now in
    let b = c.args.b.now in
    let at : c.days-days.result ≡ length a.eight = c.days-days.ensures.value in
    let end : c.loop-i.i ≡ length a.eight = omega (arith, at) in
    let long : length a.eight ≡ length b.eight =
    omega (arith, c.days.ensures.value, c.days-2.ensures.value, c.if-days.false) in
    let month : a.month_days ≡ b.month_days =
    omega (arith, c.month_days.ensures.value, c.month_days-else-days.ensures.value, c.if-month_days.false) in
    let same : c.mid.result ≡ c.mid-2.result = first_of (search rules, grind (arith, common_steps)) in
    let last : slice_get a.mid (length a.eight) ≡ slice_get b.mid (length a.eight) =
    ap (λ (i : ℕ). slice_get a.mid i) (sym at) ∙ c.mid.ensures.value ∙ ap Some same ∙ sym c.mid-2.ensures.value
    ∙ ap (λ (i : ℕ). slice_get b.mid i) at in
    same_days a b c.days.ensures.table c.days-2.ensures.table long month
    (λ j few. c.loop-i.invariant.mid j (omega arith)) (λ j few. c.loop-i.invariant.eight j (omega arith))
    (λ j few. c.loop-i.invariant.ten j (omega arith)) last
