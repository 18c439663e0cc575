use Rattle.std.proofs.Common.{◌≡◌, ℕ, ◌+◌, sym, subst, ◌∙◌, arith, rules, ℤ, ◌≤ℤ◌, w64, FitsSigned, to_z, of_z}
use Rattle.std.proofs.lemmas.Int.{ints, to_z-of_z}
use Rattle.roster_plan_bound.specs.Seeks.{IsLeastBelow, IsLeastWith}
use Rattle.roster_plan_bound.proofs.SeekLemmas.{below-all, below-next, next-there, none-there, with-next}
use Rattle.roster_plan_bound.proofs.seek.+seek.Goals.{in-Some-2+in_ok-seek+else-not-branch, in_default-2}
use Rattle.roster_plan_bound.proofs.seek.+seek.Goals as goal

pub loop-q-preserved : goal.loop-q-preserved
loop-q-preserved t c =
    let o = c.args.prospect.now in
    let spot = c.args.spot.now in
    let q : ℕ = c.in-Some.q in
    let inv = c.loop-q.invariant in
    let place = c.in-Some.ensures.place.1 in
    let lower = inv.lower in
    elim c.match-branch-3.branch [
      | in-Some-2+in_ok-seek+else-not-branch w ↦
          let next = w.in-Some-2.next in
          let is = next-there o spot q _ c.in_ok-next.field-0 next w.in-Some-2.is c.in_ok-next.ensures.next in
          let less = w.in_ok-seek.ensures.lower in
          let new : ℤ = w.seek.new.least in
          let with = with-next o spot q next new is (w.in_ok-seek.ensures.least w.if-not-branch.false) in
          record {
            few = omega (arith, place);
            judge = w.judge-is ∙ w.in_ok-seek.ensures.judge;
            lower = subst (λ z. z ≤ℤ c.args.least.now) (sym w.least-is) (omega (arith, ints, less, lower));
            word = λ old. subst (FitsSigned w64) (sym w.least-is) (w.in_ok-seek.ensures.word (inv.word old));
            below = subst (IsLeastBelow o spot (q + 1)) (sym w.least-is) (below-next o spot c.loop-q.from q c.loop-q.least new inv.below c.in-Some.ensures.least less with);
          }
      | in_default-2 w ↦
          let fits : FitsSigned w64 c.loop-q.least = search rules in
          let told : to_z w64 (of_z w64 c.loop-q.least) ≡ c.loop-q.least =
          to_z-of_z w64 c.loop-q.least fits in
          let with = none-there o spot q _ c.in_ok-next.field-0 w.in_default-2.is c.in_ok-next.ensures.next in
          let less : IsLeastWith o spot q c.loop-q.least = λ before rest start.
          let more = with before rest start in
          omega (arith, ints, more, told) in
          record {
            few = omega (arith, place);
            judge = w.judge-is ∙ c.in_ok-next.ensures.judge;
            lower = subst (λ z. z ≤ℤ c.args.least.now) (sym w.least-is) lower;
            word = λ old. subst (FitsSigned w64) (sym w.least-is) (inv.word old);
            below = subst (IsLeastBelow o spot (q + 1)) (sym w.least-is) (below-next o spot c.loop-q.from q c.loop-q.least c.loop-q.least inv.below c.in-Some.ensures.least (omega (arith, ints)) less);
          }
    ]

pub returns-clause-least : goal.returns-clause-least
returns-clause-least t c all =
    below-all c.args.prospect.now c.args.spot.now c.loop-q.from c.loop-q.least c.loop-q.invariant.below c.in_default.ensures.least

pub returns-then-not-branch-clause-word : goal.returns-then-not-branch-clause-word
returns-then-not-branch-clause-word t c old = c.in_ok-seek.ensures.word (c.loop-q.invariant.word old)
