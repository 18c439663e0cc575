use Rattle.std.proofs.Common.{◌≡◌, ℕ, List, Some, ◌+◌, ◌*◌, ◌<◌, ◌≤◌, ◌∷◌, [], ◌++◌, length, get_or, ℤ, pos, ◌+ℤ◌, refl, ap, subst, sym, ◌∙◌, arith, w64, to_z, of_z, FitsSigned, rules}
use Rattle.std.specs.Prelude.{All, true, false, IfOk, slice_get}
use Rattle.std.proofs.lemmas.List.{length_push}
use Rattle.std.proofs.lemmas.Int.{ints, to_z-of_z}
use Rattle.std.proofs.lemmas.Option.{slice_get-get_or, slice_get_within}
use Rattle.roster_model.specs.declared.limits.TheConstants.{MOST_PERSONS}
use Rattle.roster_model.specs.Problem.{Problem}
use Rattle.roster_bases.specs.Bases.{base_of_person, only, persons_before, persons_of}
use Rattle.roster_bases.proofs.BaseLemmas.{passing_at, passing_inside, passing-next, passing-same}
use Rattle.roster_plan_bound.specs.declared.parts.TheConstants.{MOST_LEAST}
use Rattle.roster_plan_bound.specs.Looks.{AreLeasts}
use Rattle.roster_plan_bound.specs.Reduced.{IsLeastOf}
use Rattle.roster_plan_bound.proofs.GapLemmas.{least_away, least_home, leasts_more, leasts_none}
use Rattle.roster_plan_bound.proofs.RowLemmas.{within-more}
use Rattle.roster_plan_bound.proofs.ShareLemmas.{sum_fits}
use Rattle.roster_plan_bound.proofs.pricing.Pricing.leasts.Given as given
use Rattle.roster_plan_bound.proofs.pricing.Pricing.leasts.Goals as goal

-- the persons of the base are inside
pub look_at_all-requires-clause-persons : goal.look_at_all-requires-clause-persons
look_at_all-requires-clause-persons g c lifetimes lives =
    let problem = c.args.self.now in
    subst (All (λ k. k < length problem.persons)) (sym c.requires.persons)
    (passing_inside (λ k. only c.args.base (base_of_person problem k)) (length problem.persons))

pub loop-k-init : goal.loop-k-init
loop-k-init g c = record {
  few = omega arith;
  seen = refl;
  behind = omega arith;
  are =
      subst (AreLeasts c.args.self.now c.args.prices.now c.args.base 0 _) (sym c.new-each.ensures.items)
      (leasts_none c.args.self.now c.args.prices.now c.args.base);
}

-- ---- one of another base

pub loop-k-preserved-then-not-is_person_of : goal.loop-k-preserved-then-not-is_person_of
loop-k-preserved-then-not-is_person_of g c =
    let problem = c.args.self.now in
    let prices = c.args.prices.now in
    let base = c.args.base in
    let k = c.loop-k.k in
    let inv = c.loop-k.invariant in
    let sum : ℤ = to_z w64 c.loop-k.sum-bits in
    let inside : k < length problem.persons = omega (arith, c.loop-k-test.true, ap length c.persons-k-end.ensures.value, ap (λ p. length p.persons) c.self.view_is) in
    let other : only base (base_of_person problem k) ≡ false =
    ap (λ p. only base (base_of_person p k)) (sym c.self.view_is) ∙ sym c.if-not-is_person_of.ensures in
    let pushed : c.push.new.self.items ≡ c.loop-k.each.items ++ pos 0 ∷ [] = c.in_ok-push.ensures.items in
    let more =
    leasts_more problem prices base k sum (pos 0) c.loop-k.each.items inv.are
    (least_away problem prices base k inside other) in
    let same : sum +ℤ pos 0 ≡ sum = omega (arith, ints) in
    let behind = inv.behind in
    record {
      few = omega (arith, inside);
      seen = inv.seen ∙ sym (ap length (passing-same (λ i. only base (base_of_person problem i)) k other));
      behind = omega (arith, behind);
      are =
          subst (λ z. AreLeasts problem prices base (k + 1) z c.push.new.self.items) same
          (subst (AreLeasts problem prices base (k + 1) (sum +ℤ pos 0)) (sym pushed) more);
    }

-- ---- one of the base

pub offset_bounds-seen-i : goal.offset_bounds-seen-i
offset_bounds-seen-i g c =
    let few = c.is_sound.ensures.sound.persons in
    let behind = c.loop-k.invariant.behind in
    let inside = ap length c.persons-k-end.ensures.value in
    omega (arith, few, behind, inside, c.loop-k-test.true)

-- their number among those of the base
place : (problem : Problem) (base : ℕ) (persons : List ℕ) (k i : ℕ) → persons ≡ persons_of problem base
    → k < length problem.persons → only base (base_of_person problem k) ≡ true
    → i ≡ length (persons_before problem base k) → slice_get persons i ≡ Some k
place problem base persons k i are inside own seen =
    ap (λ ps. slice_get ps i) are ∙ ap (slice_get (persons_of problem base)) seen
    ∙ passing_at (λ j. only base (base_of_person problem j)) (length problem.persons) k inside own

pub bounds-seen-i : goal.bounds-seen-i
bounds-seen-i g c =
    let problem = c.args.self.now in
    let inside : c.loop-k.k < length problem.persons = omega (arith, c.loop-k-test.true, ap length c.persons-k-end.ensures.value, ap (λ p. length p.persons) c.self.view_is) in
    let own : only c.args.base (base_of_person problem c.loop-k.k) ≡ true =
    ap (λ p. only c.args.base (base_of_person p c.loop-k.k)) (sym c.self.view_is)
    ∙ sym c.if-not-is_person_of.ensures in
    let there = place problem c.args.base c.args.persons.now c.loop-k.k c.loop-k.i c.requires.persons inside own c.loop-k.invariant.seen in
    omega
    (arith, slice_get_within c.args.persons.now c.loop-k.i c.loop-k.k there, c.look_at_all.ensures.covers)

pub bounds-seen-i-else-not-is_person_of : goal.bounds-seen-i-else-not-is_person_of
bounds-seen-i-else-not-is_person_of g c = bounds-seen-i g c

person : (g : given.Over) (c : goal.In_ok-push-2 g) → c.loop-k.k < length c.args.self.now.persons
person g c = omega (arith, c.loop-k-test.true, ap length c.persons-k-end.ensures.value, ap (λ p. length p.persons) c.self.view_is)

of_base : (g : given.Over) (c : goal.In_ok-push-2 g)
    → only c.args.base (base_of_person c.args.self.now c.loop-k.k) ≡ true
of_base g c =
    ap (λ p. only c.args.base (base_of_person p c.loop-k.k)) (sym c.self.view_is)
    ∙ sym c.if-not-is_person_of.ensures

own_place : (g : given.Over) (c : goal.In_ok-push-2 g)
    → slice_get c.args.persons.now c.loop-k.i ≡ Some c.loop-k.k
own_place g c = place c.args.self.now c.args.base c.args.persons.now c.loop-k.k c.loop-k.i c.requires.persons (person g c) (of_base g c) c.loop-k.invariant.seen

-- what the look at the person told
own : (g : given.Over) (c : goal.In_ok-push-2 g)
    → IsLeastOf c.args.self.now c.args.prices.now c.loop-k.k c.in_ok-least.least
own g c =
    let seen = c.look_at_all.new.seen in
    let there = own_place g c in
    let inside : c.loop-k.i < length seen = omega (arith, slice_get_within c.args.persons.now c.loop-k.i c.loop-k.k there, c.look_at_all.ensures.covers) in
    let one = get_or seen c.loop-k.i c.index-seen-i.result in
    let at : slice_get seen c.loop-k.i ≡ Some one =
    slice_get-get_or seen c.loop-k.i c.index-seen-i.result inside in
    subst (λ told. IfOk told (IsLeastOf c.args.self.now c.args.prices.now c.loop-k.k)) c.in_ok-least.was
    (c.look_at_all.ensures.each c.loop-k.i c.loop-k.k one there at)

told : (g : given.Over) (c : goal.In_ok-push-2 g)
    → to_z w64 (of_z w64 c.in_ok-least.least) ≡ c.in_ok-least.least
told g c =
    let within = (own g c).within in
    let fits : FitsSigned w64 c.in_ok-least.least = search rules in
    to_z-of_z w64 c.in_ok-least.least fits

fits : (g : given.Over) (c : goal.In_ok-push-2 g)
    → FitsSigned w64 (to_z w64 c.loop-k.sum-bits +ℤ to_z w64 (of_z w64 c.in_ok-least.least))
fits g c =
    let persons = c.is_sound.ensures.sound.persons in
    let few : length c.args.self.now.persons ≤ MOST_PERSONS =
    omega (arith, persons, ap (λ p. length p.persons) c.self.view_is) in
    subst (λ z. FitsSigned w64 (to_z w64 c.loop-k.sum-bits +ℤ z)) (sym (told g c))
    (sum_fits (to_z w64 c.loop-k.sum-bits) c.in_ok-least.least c.loop-k.k (length c.args.self.now.persons) few (person g c) c.loop-k.invariant.are.within (own g c).within)

pub overflow_add-sum : goal.overflow_add-sum
overflow_add-sum g c = fits g c

pub overflow_add-i : goal.overflow_add-i
overflow_add-i g c =
    let few = c.is_sound.ensures.sound.persons in
    let behind = c.loop-k.invariant.behind in
    let inside = ap length c.persons-k-end.ensures.value in
    omega (arith, few, behind, inside, c.loop-k-test.true)

pub loop-k-preserved : goal.loop-k-preserved
loop-k-preserved g c =
    let problem = c.args.self.now in
    let prices = c.args.prices.now in
    let base = c.args.base in
    let k = c.loop-k.k in
    let inv = c.loop-k.invariant in
    let sum : ℤ = to_z w64 c.loop-k.sum-bits in
    let least : ℤ = c.in_ok-least.least in
    let whole : to_z w64 (of_z w64 (sum +ℤ to_z w64 (of_z w64 least))) ≡ sum +ℤ least =
    to_z-of_z w64 (sum +ℤ to_z w64 (of_z w64 least)) (fits g c) ∙ ap (λ z. sum +ℤ z) (told g c) in
    let pushed : c.push-in-loop-k.new.self.items ≡ c.loop-k.each.items ++ least ∷ [] =
    c.in_ok-push-2.ensures.items ∙ ap (λ z. c.loop-k.each.items ++ z ∷ []) (told g c) in
    let more =
    leasts_more problem prices base k sum least c.loop-k.each.items inv.are
    (least_home problem prices base k least (own g c) (person g c)) in
    let behind = inv.behind in
    record {
      few = omega (arith, person g c);
      seen =
          ap (λ n. n + 1) inv.seen
          ∙ sym (ap length (passing-next (λ i. only base (base_of_person problem i)) k (of_base g c)) ∙ length_push (persons_before problem base k) k);
      behind = omega (arith, behind);
      are =
          subst (λ z. AreLeasts problem prices base (k + 1) z c.push-in-loop-k.new.self.items) (sym whole)
          (subst (AreLeasts problem prices base (k + 1) (sum +ℤ least)) (sym pushed) more);
    }

pub returns-clause-are : goal.returns-clause-are
returns-clause-are g c =
    let all : c.loop-k.k ≡ length c.args.self.now.persons = omega (arith, c.loop-k-test.false, c.loop-k.invariant.few, ap length c.persons-k-end.ensures.value, ap (λ p. length p.persons) c.self.view_is) in
    subst (λ n. AreLeasts c.args.self.now c.args.prices.now c.args.base n (to_z w64 c.loop-k.sum-bits) c.loop-k.each.items) all c.loop-k.invariant.are

pub returns-clause-within : goal.returns-clause-within
returns-clause-within g c =
    let persons = c.is_sound.ensures.sound.persons in
    let few : c.loop-k.k ≤ MOST_PERSONS =
    omega (arith, persons, c.loop-k.invariant.few, ap (λ p. length p.persons) c.self.view_is) in
    within-more (c.loop-k.k * MOST_LEAST) (MOST_PERSONS * MOST_LEAST) (to_z w64 c.loop-k.sum-bits)
    (omega (arith, few)) c.loop-k.invariant.are.within
