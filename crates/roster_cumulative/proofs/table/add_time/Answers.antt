use Rattle.std.proofs.Common.{◌≡◌, ℕ, ◌+◌, get_or, set, refl, sym, ◌∙◌, subst, inl, inr, arith}
use Rattle.std.proofs.lemmas.Bool.{cases_lt}
use Rattle.std.proofs.lemmas.List.{get_or-set_same, get_or-set_other, length-set}
use Rattle.std.proofs.lemmas.Option.{get_or_from_slice_get}
use Rattle.roster_cumulative.proofs.OnDay.{before_time, past_time, past_window, le_from_cmp, midnights_rise, shares, shares_read}
use Rattle.roster_cumulative.proofs.table.add_time.Goals as goal

pub loop-i-init : goal.loop-i-init
loop-i-init c = record {
  long = c.told-table;
  added = λ j before. omega (arith, before_time c.args.days.now c.days-i-end.ensures.table c.args.from c.args.to c.unwrap_or-first.result j c.day_of.result c.day_of.ensures c.unwrap_or-first.ensures before);
  rest = λ j after. refl;
}

pub returns-then-le-clause-added : goal.returns-then-le-clause-added
returns-then-le-clause-added c j =
    elim (cases_lt j c.loop-i.i) [
      | inl before ↦ c.loop-i.invariant.added j before
      | inr after ↦
          let start = get_or_from_slice_get c.args.days.now.mid c.loop-i.i c.mid-start.result 0 c.mid-start.ensures.value in
          let past = past_time c.args.days.now c.days-i-end.ensures.table c.args.from c.args.to c.loop-i.i j (omega (arith, start, le_from_cmp c.args.to c.mid-start.result (sym c.le.ensures ∙ c.if-le.true))) after in
          omega (arith, past, c.loop-i.invariant.rest j after)
    ]

pub shared-requires-clause-second : goal.shared-requires-clause-second
shared-requires-clause-second c =
    midnights_rise c.args.days.now c.days-i-end.ensures.table c.loop-i.i c.mid-start.result c.mid-end.result c.mid-start.ensures.value c.mid-end.ensures.value

pub loop-i-preserved : goal.loop-i-preserved
loop-i-preserved c =
    let i = c.loop-i.i in
    let table = c.loop-i.table in
    record {
      long = length-set table i _ ∙ c.loop-i.invariant.long;
      added = λ j before. elim (cases_lt j i) [
        | inl earlier ↦ get_or-set_other table i j _ 0 (λ same. omega arith) ∙ c.loop-i.invariant.added j earlier
        | inr here ↦
            let same : i ≡ j = omega arith in
            let more = shares_read c.args.days.now c.args.from c.args.to i _ _ c.shared.result c.mid-start.ensures.value c.mid-end.ensures.value c.shared.ensures.value in
            let P : ℕ → Type 0 = λ k. get_or (set table i (get_or table i 0 + c.shared.result)) k 0 ≡ get_or c.args.table.now k 0 + shares c.args.days.now c.args.from c.args.to k in
            subst P same (get_or-set_same table i _ 0 (omega (arith, c.loop-i.invariant.long)) ∙ omega (arith, more, c.loop-i.invariant.rest i (omega arith)))
      ];
      rest = λ j after. get_or-set_other table i j _ 0 (λ same. omega arith) ∙ c.loop-i.invariant.rest j (omega arith);
    }

pub returns-clause-added : goal.returns-clause-added
returns-clause-added c j =
    elim (cases_lt j c.loop-i.i) [
      | inl before ↦ c.loop-i.invariant.added j before
      | inr after ↦
          let past =
          past_window c.args.days.now c.days-i-end.ensures.table c.args.from c.args.to j (omega arith) in
          omega (arith, past, c.loop-i.invariant.rest j after)
    ]
