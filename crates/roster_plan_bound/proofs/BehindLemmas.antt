-- What stands behind the pairings of a path brings no less than rows and tails say.
use Rattle.std.proofs.Common.{◌≡◌, ℕ, zero, suc, ◌+◌, ◌-◌, ◌*◌, ◌<◌, ◌≤◌, true, List, [], ◌∷◌, ◌++◌, length, get_or, Some, refl, sym, ap, ◌∙◌, subst, inl, inr, arith, ℤ, pos, ◌+ℤ◌, ◌≤ℤ◌}
use Rattle.std.specs.Prelude.{All, neg_ℤ, slice_get}
use Rattle.std.proofs.lemmas.Bool.{cases_Bool, cases_eq, cases_lt}
use Rattle.std.proofs.lemmas.Int.{ints}
use Rattle.std.proofs.lemmas.List.{append_assoc}
use Rattle.std.proofs.lemmas.List.Elements.{All-head, All-tail, All-weaker}
use Rattle.std.proofs.lemmas.Option.{same_Some, slice_get-get_or, slice_get_within}
use Rattle.roster_model.specs.Costs.{total}
use Rattle.roster_model.specs.Problem.{Problem, home_of}
use Rattle.roster_model.specs.Rules.{duty_list, is_among}
use Rattle.roster_model.proofs.CostLemmas.{total-cons, total-nil}
use Rattle.roster_model.proofs.SetLemmas.{is_among-here, All-from_is_among, All-is_among}
use Rattle.roster_cost.specs.Amounts.{IsWithin}
use Rattle.roster_lines.specs.Listing.{ArePartsLegal}
use Rattle.roster_plan_bound.specs.declared.behind.Behind.{Behind}
use Rattle.roster_plan_bound.specs.declared.rows_behind.OwedRows.{OwedRows}
use Rattle.roster_plan_bound.specs.declared.parts.TheConstants.{MOST_BEHIND, MOST_STEP}
use Rattle.roster_plan_bound.specs.declared.timeline.Timeline.{Timeline}
use Rattle.roster_plan_bound.specs.Behinds.{lowest, row_at, row_for, AreBehind, AreRowsBehind, IsBase, IsBegunBehind, IsFirstAt, IsFrom, IsLed, IsRowBehind, IsTailBehind}
use Rattle.roster_plan_bound.specs.Chains.{value_at}
use Rattle.roster_plan_bound.specs.Ranked.{IsRanked}
use Rattle.roster_plan_bound.specs.Spans.{IsBegun}
use Rattle.roster_plan_bound.specs.Timelines.{begin_of, class_of, need_behind, need_first, off_of, rank_of, unrested_after, AreValued, IsOwed, IsPath}
use Rattle.roster_plan_bound.proofs.ChainLemmas.{is_among-more, single_among}
use Rattle.roster_plan_bound.proofs.OffLemmas.{owed-none}
use Rattle.roster_plan_bound.proofs.RankedLemmas.{ranked-above, ranked-rest}

abbrev first_of : List ℕ → ℕ
first_of [] = 0
first_of (p ∷ rest) = p

module _ (problem : Problem) (k : ℕ) (timeline : Timeline) (values : List ℤ) (parts : ArePartsLegal problem k)
    (valued : AreValued problem k timeline values) where
  abbrev rank : ℕ → ℕ
  rank = rank_of timeline

  abbrev brings : List ℕ → ℤ
  brings path = total (value_at values) path

  -- ---- paths

  among_behind : (before : List ℕ) (p : ℕ) (rest : List ℕ) → is_among (before ++ p ∷ rest) p ≡ true
  among_behind [] p rest = is_among-here p rest
  among_behind (q ∷ before) p rest = is_among-more q p (before ++ p ∷ rest) (among_behind before p rest)

  all_behind : (P : ℕ → Type 0) (before rest : List ℕ) → All P (before ++ rest) → All P rest
  all_behind P [] rest all = all
  all_behind P (q ∷ before) rest all = all_behind P before rest (All-tail P q (before ++ rest) all)

  ranked_behind : (before rest : List ℕ) → IsRanked rank (before ++ rest) → IsRanked rank rest
  ranked_behind [] rest ranked = ranked
  ranked_behind (q ∷ before) rest ranked =
      ranked_behind before rest (ranked-rest rank q (before ++ rest) ranked)

  place_of : (path : List ℕ) (p : ℕ) → IsPath problem k timeline path → is_among path p ≡ true
      → p < length problem.pairings
  place_of path p is among = All-is_among (λ q. q < length problem.pairings) path p is.places among

  -- each pairing of a path is legal alone
  alone_of : (path : List ℕ) (p : ℕ) → IsPath problem k timeline path → is_among path p ≡ true
      → is_among timeline.alone p ≡ true
  alone_of path p is among =
      (valued.is_timeline.alone p).1 (place_of path p is among, parts path (p ∷ []) (single_among path p among) is.legal)

  rank_inside : (p : ℕ) → is_among timeline.alone p ≡ true → rank p < length timeline.order.items
  rank_inside p alone = slice_get_within timeline.order.items (rank p) p (valued.is_timeline.order p alone)

  -- ---- so many pairings at most

  length_ranked : (path : List ℕ) (from : ℕ) → IsRanked rank path
      → All (λ p. rank p < length timeline.order.items) path → All (λ p. from ≤ rank p) path
      → length path ≤ length timeline.order.items - from
  length_ranked [] from ranked inside above = omega arith
  length_ranked (p ∷ rest) from ranked inside above =
      let here = All-head (λ q. rank q < length timeline.order.items) p rest inside in
      let low = All-head (λ q. from ≤ rank q) p rest above in
      let next : All (λ q. rank p + 1 ≤ rank q) rest =
      All-weaker (λ q. rank p < rank q) (λ q. rank p + 1 ≤ rank q) (λ q less. omega (arith, less)) rest (ranked-above rank p rest ranked) in
      let more =
      length_ranked rest (rank p + 1) (ranked-rest rank p rest ranked)
      (All-tail (λ q. rank q < length timeline.order.items) p rest inside) next in
      omega (arith, here, low, more)

  total_low : (path : List ℕ) → All (λ p. p < length problem.pairings) path
      → neg_ℤ (pos (length path * MOST_STEP)) ≤ℤ brings path
  total_low [] places = let none = total-nil (value_at values) in omega (arith, ints, none)
  total_low (p ∷ rest) places =
      let here = All-head (λ q. q < length problem.pairings) p rest places in
      let small = (valued.within p (pos 0) (omega (arith, valued.covers, here))).0 in
      let more = total_low rest (All-tail (λ q. q < length problem.pairings) p rest places) in
      let sum = total-cons (value_at values) p rest in
      omega (arith, ints, small, more, sum)

  -- no pairings bring less than the lowest amount
  pub lowest_below : (before rest : List ℕ) → IsPath problem k timeline (before ++ rest) → lowest ≤ℤ brings rest
  lowest_below before rest is =
      let inside : All (λ p. rank p < length timeline.order.items) (before ++ rest) =
      All-from_is_among (λ p. rank p < length timeline.order.items) (before ++ rest)
      (λ p among. rank_inside p (alone_of (before ++ rest) p is among)) in
      let few =
      length_ranked rest 0 (ranked_behind before rest is.ranked)
      (all_behind (λ p. rank p < length timeline.order.items) before rest inside)
      (λ i d at. omega arith) in
      let low = total_low rest (all_behind (λ p. p < length problem.pairings) before rest is.places) in
      let short = valued.is_timeline.short in
      omega (arith, ints, few, low, short)

  -- ---- one pairing more

  regroup : (before : List ℕ) (p : ℕ) (rest : List ℕ) → (before ++ p ∷ []) ++ rest ≡ before ++ p ∷ rest
  regroup before p rest = append_assoc before (p ∷ []) rest

  abbrev longer : List ℕ → ℕ → List ℕ
  longer before p = before ++ p ∷ []

  path_from : (before : List ℕ) (p : ℕ) (rest : List ℕ) → IsPath problem k timeline (before ++ p ∷ rest)
      → IsPath problem k timeline (longer before p ++ rest)
  path_from before p rest is = subst (IsPath problem k timeline) (sym (regroup before p rest)) is

  -- ---- the row of a pairing

  first_more : (from q : ℕ) (rest : List ℕ) (r : ℕ) (more : List ℕ) → q ∷ rest ≡ r ∷ more → from ≤ rank q
      → from ≤ rank r
  first_more from q rest r more same far = subst (λ n. from ≤ rank n) (ap first_of same) far

  module _ (behind : Behind) (are : AreBehind problem k timeline values behind) where
    abbrev no_rows : OwedRows
    no_rows = record { none = []; one = []; two = [] }

    found : (q : ℕ) → q < length problem.pairings
        → (rows : OwedRows) × (slice_get behind.rows.items q ≡ Some rows)
    found q place =
        (get_or behind.rows.items q no_rows, slice_get-get_or behind.rows.items q no_rows (omega (arith, are.covers, place)))

    -- what q brings, and its row has for a class, is no more than it and what stands behind it bring
    reached : (before : List ℕ) (q : ℕ) (rest : List ℕ) (rows : OwedRows) (need class : ℕ)
        → IsPath problem k timeline (before ++ q ∷ rest) → slice_get behind.rows.items q ≡ Some rows
        → class ≤ class_of timeline q → IsBegun problem k (before ++ q ∷ rest) q (begin_of timeline class)
        → IsOwed problem k timeline (before ++ q ∷ rest) q need
        → (value_at values q +ℤ row_at (row_for rows need) class) ≤ℤ brings (q ∷ rest)
    reached before q rest rows need class is at below begun owed =
        let told = (are.rows q rows at need).each class below before rest is begun owed in
        let sum = total-cons (value_at values) q rest in
        omega (arith, ints, told, sum)

    -- the row that is led to says of p what it must
    pub led_is : (p need until : ℕ) (base : ℤ) (led : List ℤ) → IsBase timeline values behind p need until base
        → until ≤ length timeline.order.items → IsLed timeline values behind p need until base led
        → IsRowBehind problem k timeline values p need led
    led_is p need until base led based inside is_led = record {
      each = λ class below before rest is begun owed. led_each class below before rest is begun owed;
      within = is_led.within;
    }
      where
        led_each : (class : ℕ) → class ≤ class_of timeline p → (before rest : List ℕ)
            → IsPath problem k timeline (before ++ p ∷ rest)
            → IsBegun problem k (before ++ p ∷ rest) p (begin_of timeline class)
            → IsOwed problem k timeline (before ++ p ∷ rest) p need
            → row_at led class ≤ℤ brings rest
        led_each class below before [] is begun owed =
            let none = total-nil (value_at values) in
            let among = among_behind before p [] in
            let may = valued.is_timeline.may_end (before ++ p ∷ []) p need is.legal (place_of (before ++ p ∷ []) p is among) among owed in
            omega (arith, ints, none, is_led.kept class, based.end may)
        led_each class below before (q ∷ rest) is begun owed =
            let path = before ++ p ∷ q ∷ rest in
            let there = path_from before p (q ∷ rest) is in
            let among_p = among_behind before p (q ∷ rest) in
            let among_q : is_among path q ≡ true =
            subst (λ l. is_among l q ≡ true) (regroup before p (q ∷ rest)) (among_behind (longer before p) q rest) in
            let place_p = place_of path p is among_p in
            let place_q = place_of path q is among_q in
            let alone_p = alone_of path p is among_p in
            let alone_q = alone_of path q is among_q in
            let above : rank p < rank q =
            All-head (λ r. rank p < rank r) q rest (ranked-above rank p (q ∷ rest) (ranked_behind before (p ∷ q ∷ rest) is.ranked)) in
            let low = lowest_below (longer before p) (q ∷ rest) there in
            let row = found q place_q in
            let left = need_behind timeline p q need in
            let still : IsOwed problem k timeline (longer before p ++ q ∷ rest) q left =
            subst (λ l. IsOwed problem k timeline l q left) (sym (regroup before p (q ∷ rest)))
            (valued.is_timeline.need_behind path p q need is.legal place_p place_q among_p among_q owed) in
            elim (cases_lt (rank q) until) [
              | inr far ↦
                  let here = rank_inside q alone_q in
                  let tail = get_or behind.tails.items until (pos 0) in
                  let at = slice_get-get_or behind.tails.items until (pos 0) (omega (arith, are.longer, inside)) in
                  let told = (are.tails until tail at).each (longer before p) (q ∷ rest) there
                  (λ r more same. first_more until q rest r more same far) in
                  omega (arith, ints, told, is_led.kept class, based.tail (omega (arith, far, here)) tail at)
              | inl near ↦ elim (cases_Bool (is_among (unrested_after timeline p) q)) [
                | inl kept ↦
                    let same = valued.is_timeline.same path p q (begin_of timeline class) is.legal place_p place_q among_p among_q kept begun in
                    let high = valued.is_timeline.class p alone_p in
                    let in_time = valued.is_timeline.in_time path q class is.legal place_q among_q (omega (arith, below, high)) same in
                    let up = valued.is_timeline.rising p q place_p kept in
                    let more = reached (longer before p) q rest row.0 left class there row.1 (omega (arith, below, up)) (subst (λ l. IsBegun problem k l q (begin_of timeline class)) (sym (regroup before p (q ∷ rest))) same) still in
                    is_led.unrested (rank q) q class row.0 (brings (q ∷ rest)) above near (valued.is_timeline.order q alone_q) kept row.1 in_time below low more
                | inr broken ↦
                    let own = valued.is_timeline.own path q is.legal place_q among_q in
                    let more = reached (longer before p) q rest row.0 left (class_of timeline q) there row.1 (omega arith) (subst (λ l. IsBegun problem k l q (begin_of timeline (class_of timeline q))) (sym (regroup before p (q ∷ rest))) own) still in
                    let later = valued.is_timeline.later path p q is.legal place_p place_q among_p among_q above in
                    let told = based.rested (rank q) q row.0 (brings (q ∷ rest)) above near (valued.is_timeline.order q alone_q) later broken row.1 low more in
                    omega (arith, ints, told, is_led.kept class)
              ]
            ]

    -- what begins at a rank is the pairing that stands there, or behind it
    pub tail_is : (at p : ℕ) (tail here longer_tail : ℤ) (row : List ℤ)
        → slice_get timeline.order.items at ≡ Some p → IsRowBehind problem k timeline values p 0 row
        → IsTailBehind problem k timeline values (at + 1) longer_tail
        → ((amount : ℤ) → lowest ≤ℤ amount
        → (value_at values p +ℤ row_at row (class_of timeline p)) ≤ℤ amount → here ≤ℤ amount)
        → tail ≤ℤ here → tail ≤ℤ longer_tail → IsWithin MOST_BEHIND tail
        → IsTailBehind problem k timeline values at tail
    tail_is at p tail here longer_tail row stands is_row behind_it led below_here below_longer within = record {
      each = λ before rest is from. tail_each before rest is from;
      within = within;
    }
      where
        tail_each : (before rest : List ℕ) → IsPath problem k timeline (before ++ rest)
            → IsFrom timeline at rest → tail ≤ℤ brings rest
        tail_each before [] is from =
            let told = behind_it.each before [] is (λ q more same. absurd (omega (arith, ap length same))) in
            omega (arith, ints, told, below_longer)
        tail_each before (q ∷ rest) is from =
            let among = among_behind before q rest in
            let alone = alone_of (before ++ q ∷ rest) q is among in
            elim (cases_eq (rank q) at) [
              | inl same ↦
                  let there : q ≡ p = same_Some q p (sym (valued.is_timeline.order q alone) ∙ ap (λ i. slice_get timeline.order.items i) same ∙ stands) in
                  let own = valued.is_timeline.own (before ++ q ∷ rest) q is.legal (place_of (before ++ q ∷ rest) q is among) among in
                  let is_q = subst (λ r. IsRowBehind problem k timeline values r 0 row) (sym there) is_row in
                  let none = owed-none (home_of problem k).days (duty_list problem k (before ++ q ∷ rest)) (off_of timeline q).from in
                  let more = is_q.each (class_of timeline q) (omega arith) before rest is own none in
                  let sum = total-cons (value_at values) q rest in
                  let brought : (value_at values q +ℤ row_at row (class_of timeline q)) ≤ℤ brings (q ∷ rest) = omega (arith, ints, more, sum) in
                  let told = led (brings (q ∷ rest)) (lowest_below before (q ∷ rest) is)
                  (subst (λ r. (value_at values r +ℤ row_at row (class_of timeline r)) ≤ℤ brings (q ∷ rest)) there brought) in
                  omega (arith, ints, told, below_here)
              | inr other ↦
                  let told = behind_it.each before (q ∷ rest) is (λ r more same. first_more (at + 1) q rest r more same (omega (arith, from q rest refl, other))) in
                  omega (arith, ints, told, below_longer)
            ]

    -- what any path brings: nothing, or what its first pairing leads to
    pub begun_is : (begun : ℤ) → begun ≤ℤ pos 0
        → ((s q : ℕ) → s < length timeline.order.items → slice_get timeline.order.items s ≡ Some q
        → IsFirstAt timeline values behind q begun)
        → IsBegunBehind problem k timeline values begun
    begun_is begun end each [] is = let none = total-nil (value_at values) in omega (arith, ints, none, end)
    begun_is begun end each (q ∷ rest) is =
        let path = q ∷ rest in
        let among = is_among-here q rest in
        let place = place_of path q is among in
        let alone = alone_of path q is among in
        let row = found q place in
        let own = valued.is_timeline.own path q is.legal place among in
        let owed = valued.is_timeline.need_first path q is.legal place among in
        let more = reached [] q rest row.0 (need_first timeline q) (class_of timeline q) is row.1 (omega arith) own owed in
        each (rank q) q (rank_inside q alone) (valued.is_timeline.order q alone) row.0 (brings path) row.1 (lowest_below [] path is) more

  -- ---- before anything is known

  pub none_known : (p need : ℕ) → IsRowBehind problem k timeline values p need []
  none_known p need = record {
    each = λ class below before rest is begun owed. lowest_below (longer before p) rest (path_from before p rest is);
    within = λ i d inside. absurd (omega (arith, inside));
  }

  pub tail_none : (from : ℕ) → IsTailBehind problem k timeline values from lowest
  tail_none from = record {
    each = λ before rest is first. lowest_below before rest is;
    within = omega arith;
  }

  pub begun_none : IsBegunBehind problem k timeline values lowest
  begun_none path is = lowest_below [] path is

  pub tail_end : IsTailBehind problem k timeline values (length timeline.order.items) (pos 0)
  tail_end = record {
    each = λ before rest is first. end_each before rest is first;
    within = omega arith;
  }
    where
      end_each : (before rest : List ℕ) → IsPath problem k timeline (before ++ rest)
          → IsFrom timeline (length timeline.order.items) rest → pos 0 ≤ℤ brings rest
      end_each before [] is first = let none = total-nil (value_at values) in omega (arith, ints, none)
      end_each before (q ∷ rest) is first =
          let inside = rank_inside q (alone_of (before ++ q ∷ rest) q is (among_behind before q rest)) in
          absurd (omega (arith, inside, first q rest refl))

-- the rows of a pairing, one by one
pub rows_are : (problem : Problem) (k : ℕ) (timeline : Timeline) (values : List ℤ) (p : ℕ) (rows : OwedRows)
    → IsRowBehind problem k timeline values p 0 rows.none → IsRowBehind problem k timeline values p 1 rows.one
    → IsRowBehind problem k timeline values p 2 rows.two → AreRowsBehind problem k timeline values p rows
rows_are problem k timeline values p rows none one two zero = none
rows_are problem k timeline values p rows none one two (suc zero) = one
rows_are problem k timeline values p rows none one two (suc (suc zero)) = two
rows_are problem k timeline values p rows none one two (suc (suc (suc more))) = record {
  each = λ class below before rest is begun owed. let few = owed.few in absurd (omega (arith, few));
  within = two.within;
}
