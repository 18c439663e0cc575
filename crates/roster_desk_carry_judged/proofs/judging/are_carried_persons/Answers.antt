use Rattle.std.proofs.lemmas.Grind.{common_steps}
use Rattle.std.proofs.Common.{rules, ◌≡◌, length, ap, subst, inl, inr, arith}
use Rattle.std.proofs.lemmas.Bool.{cases_lt}
use Rattle.roster_desk_carry_judged.specs.Carried.{IsCarriedPerson}
use Rattle.roster_desk_carry_judged.proofs.judging.are_carried_persons.Goals as goal

pub loop-k-preserved : goal.loop-k-preserved
loop-k-preserved c = λ k few.
    let here : IsCarriedPerson c.args.book.now c.args.places.now c.args.before.now c.args.next.now c.loop-k.k =
    first_of (search rules, grind (arith, common_steps)) in
    elim (cases_lt k c.loop-k.k) [
      | inl earlier ↦ c.loop-k.invariant k earlier
      | inr at ↦
          let same : c.loop-k.k ≡ k = omega arith in
          subst (λ n. IsCarriedPerson c.args.book.now c.args.places.now c.args.before.now c.args.next.now n) same here
    ]

pub returns : goal.returns
returns c = λ _ k few.
    let count : length c.persons-k-end.result.now ≡ length c.args.book.now.persons =
    ap length c.persons-k-end.ensures.value in
    c.loop-k.invariant k (omega (arith, count))
