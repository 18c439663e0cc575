-- A month is put together from its bases. A roster of the bases so far and of one base more costs as much
-- above no pairings at all as its two halves do together, so bounds add up. The best roster of the bases so
-- far, united with the best one of the next base, is the best of both (`united_not_after`).
use Rattle.std.proofs.Common.{◌≡◌, ℕ, ◌+◌, ◌<◌, Bool, true, false, not, ◌&&◌, List, [], ◌∷◌, ◌++◌, length, get_or, Some, refl, sym, ap, ◌∙◌, subst, inl, inr, arith, ℤ, ◌+ℤ◌, ◌-ℤ◌}
use Rattle.std.specs.Prelude.{◌⊎◌, slice_get, slice_set}
use Rattle.std.proofs.lemmas.Bool.{both_ways, cases_eq, false≢true}
use Rattle.std.proofs.lemmas.Int.{ints}
use Rattle.std.proofs.lemmas.Grind.{get_or-set_at}
use Rattle.std.proofs.lemmas.List.{get_or-set_other, length-set}
use Rattle.std.proofs.lemmas.Option.{get_or_from_slice_get, slice_get_within, slice_get-get_or}
use Rattle.roster_model.specs.declared.limits.TheConstants.{MOST_BASES}
use Rattle.roster_model.specs.Costs.{cost_of}
use Rattle.roster_model.specs.Plans.{all_open}
use Rattle.roster_model.specs.Problem.{Problem}
use Rattle.roster_model.specs.Rosters.{IsLegalRoster, Key, key_le, key_of}
use Rattle.roster_model.specs.Settled.{Anywhere, IsHeld, IsLowerBound, IsNotAfter}
use Rattle.roster_model.proofs.KeyLemmas.{key_le-trans}
use Rattle.roster_model.proofs.PushLemmas.{each-next}
use Rattle.roster_model.proofs.RosterLemmas.{all_open_legal}
use Rattle.roster_problem.specs.Sound.{IsSound}
use Rattle.roster_bases.specs.Bases.{base_of_person, before, has_crew, only}
use Rattle.roster_bases.specs.Homes.{IsHome, IsHomeBound}
use Rattle.roster_bases.specs.United.{unite}
use Rattle.roster_bases.proofs.Homes.{every_home, home_both, home_second, home_united, next_base, no_crew, none_before, open_home}
use Rattle.roster_bases.proofs.Orders.{open_first, united_not_after}
use Rattle.roster_bases.proofs.Unites.{cost_of-unite, legal-unite}
use Rattle.roster_search_least.proofs.Keys.{no_dearer}
use Rattle.roster_plan.specs.declared.parts.BasePlan.{BasePlan}
use Rattle.roster_plan.specs.Parts.{ArePartsOf, AreTogether, IsPart}

-- ---- rosters of one base

-- a bound of a base is one of the same base of the same problem
pub same_home_bound : (p q : Problem) (a b : ℕ) (bound : ℤ) → p ≡ q → a ≡ b → IsHomeBound p (only a) bound
    → IsHomeBound q (only b) bound
same_home_bound p q a b bound problems bases is =
    subst (λ (x : Problem). IsHomeBound x (only b) bound) problems
    (subst (λ n. IsHomeBound p (only n) bound) bases is)

-- what a base has of a roster is a legal roster of it
pub base_roster : (problem : Problem) (base : ℕ) (known : List ℕ) (none places : List ℕ) (own : Key)
    → IsLegalRoster problem known → none ≡ all_open problem
    → places ≡ unite problem (only base) known none → own ≡ key_of problem places
    → IsHeld problem own × IsHome problem (only base) own.places
base_roster problem base known none places own legal nobody united is =
    let open_legal = all_open_legal problem in
    let whole : places ≡ unite problem (only base) known (all_open problem) =
    united ∙ ap (unite problem (only base) known) nobody in (
      subst (IsHeld problem) (sym is)
          (record { legal = subst (IsLegalRoster problem) (sym whole) (legal-unite problem (only base) known (all_open problem) legal open_legal); cost = refl }),
      subst (λ (key : Key). IsHome problem (only base) key.places) (sym is)
          (subst (IsHome problem (only base)) (sym whole)
          (home_united problem (only base) known (all_open problem) legal open_legal (open_home problem (only base)))),
    )

-- in a base of which nobody is, nobody flies
pub nobody_part : (problem : Problem) (base : ℕ) (places : List ℕ) (key : Key) → has_crew problem base ≡ false
    → places ≡ all_open problem → key ≡ key_of problem places
    → IsHeld problem key × (IsHome problem (only base) key.places × IsNotAfter problem (IsHome problem (only base)) key)
nobody_part problem base places key nobody all is =
    let legal : IsLegalRoster problem places =
    subst (IsLegalRoster problem) (sym all) (all_open_legal problem) in
    let home : IsHome problem (only base) places =
    subst (IsHome problem (only base)) (sym all) (open_home problem (only base)) in
    let first = open_first problem (only base) places all (λ k person. no_crew problem base k nobody person) in (
      subst (IsHeld problem) (sym is) (record { legal = legal; cost = refl }),
      (subst (λ (k : Key). IsHome problem (only base) k.places) (sym is) home, subst (IsNotAfter problem (IsHome problem (only base))) (sym is) first),
    )

-- ---- lists of parts

pub parts_push : (problem : Problem) (n : ℕ) (old new : List BasePlan) (part : BasePlan) → new ≡ old ++ part ∷ []
    → ArePartsOf problem n old → IsPart problem n part → ArePartsOf problem (n + 1) new
parts_push problem n old new part pushed are is =
    let next = each-next (IsPart problem) n old new part pushed are.covers are.each is in
    record { covers = next.0; each = next.1 }

pub parts_set : (problem : Problem) (n base : ℕ) (old : List BasePlan) (part : BasePlan) → base < n
    → ArePartsOf problem n old → IsPart problem base part → ArePartsOf problem n (slice_set old base part)
parts_set problem n base old part below are is = record {
  covers = length-set old base part ∙ are.covers;
  each = λ b other at.
      let inside : b < length old =
      omega (arith, slice_get_within (slice_set old base part) b other at, length-set old base part) in
      let found : get_or (slice_set old base part) b other ≡ other =
      get_or_from_slice_get (slice_set old base part) b other other at in
      elim (cases_eq b base) [
        | inl same ↦
            let put : part ≡ other =
            sym (get_or-set_at old base b part other same (omega (arith, below, are.covers))) ∙ found in
            subst (IsPart problem b) put (subst (λ i. IsPart problem i part) (sym same) is)
        | inr away ↦ are.each b other (slice_get-get_or old b other inside ∙ ap (λ (p : BasePlan). Some p) (sym (get_or-set_other old base b part other away) ∙ found))
      ];
}

-- the part that is put at a base stands there
pub part_put : (n base : ℕ) (old : List BasePlan) (part : BasePlan) → base < n → length old ≡ n
    → slice_get (slice_set old base part) base ≡ Some part
part_put n base old part below covers =
    slice_get-get_or (slice_set old base part) base part
    (omega (arith, below, covers, length-set old base part))
    ∙ ap (λ (p : BasePlan). Some p) (get_or-set_at old base base part part refl (omega (arith, below, covers)))

-- the part that stands at a base
pub part_at : (problem : Problem) (n base : ℕ) (parts : List BasePlan) (part : BasePlan) → ArePartsOf problem n parts
    → base < n → part ≡ get_or parts base part → IsPart problem base part
part_at problem n base parts part are below is =
    are.each base part
    (slice_get-get_or parts base part (omega (arith, below, are.covers)) ∙ ap (λ (p : BasePlan). Some p) (sym is))

-- ---- one of two

-- one of two rosters of a base is one of it
pub either_part : (problem : Problem) (base : ℕ) (a b key : Key) → IsHeld problem a
    → IsHome problem (only base) a.places → IsHeld problem b → IsHome problem (only base) b.places → (key ≡ a) ⊎ (key ≡ b)
    → IsHeld problem key × IsHome problem (only base) key.places
either_part problem base a b key held home also there (inl is) =
    (subst (IsHeld problem) (sym is) held, subst (λ (k : Key). IsHome problem (only base) k.places) (sym is) home)
either_part problem base a b key held home also there (inr is) =
    (subst (IsHeld problem) (sym is) also, subst (λ (k : Key). IsHome problem (only base) k.places) (sym is) there)

-- what isn't after a roster that is after none of a base isn't after any of it
pub best_of_found : (problem : Problem) (base : ℕ) (own found : Key)
    → IsNotAfter problem (IsHome problem (only base)) found → false ≡ not (key_le own found)
    → IsNotAfter problem (IsHome problem (only base)) own
best_of_found problem base own found best early others legal home =
    key_le-trans own found (key_of problem others) (not_false (key_le own found) early)
    (best others legal home)
  where
    not_false : (b : Bool) → false ≡ not b → b ≡ true
    not_false true is = refl
    not_false false is = absurd (false≢true is)

-- ---- the first bases together

pub nothing_together : (problem : Problem) (places : List ℕ) (bound : ℤ) → places ≡ all_open problem
    → bound ≡ cost_of problem places → AreTogether problem 0 places bound true
nothing_together problem places bound all is =
    let first = open_first problem (before 0) places all (λ k person. none_before (base_of_person problem k)) in
    record {
      legal = subst (IsLegalRoster problem) (sym all) (all_open_legal problem);
      own = subst (IsHome problem (before 0)) (sym all) (open_home problem (before 0));
      bounded = λ others legal own.
          let cheap = no_dearer (key_of problem places) (key_of problem others) (first others legal own) in
          omega (arith, ints, is, cheap);
      best = λ _. first;
    }

both_true : (a b : Bool) → (a && b) ≡ true → (a ≡ true) × (b ≡ true)
both_true true b is = (refl, is)
both_true false b is = absurd (both_ways _ refl is)

pub next_together : (problem : Problem) (base : ℕ) (part : BasePlan) (old : List ℕ) (bound idle : ℤ) (is_best : Bool)
    → IsPart problem base part → AreTogether problem base old bound is_best
    → idle ≡ cost_of problem (all_open problem)
    → AreTogether problem (base + 1) (unite problem (only base) part.roster.places old) (bound +ℤ (part.bound -ℤ idle)) (is_best && part.is_best)
next_together problem base part old bound idle is_best is before_it idles =
    let first = only base in
    let key : Key = part.roster in
    let none = all_open problem in
    let open_legal = all_open_legal problem in
    let next = next_base base in
    record {
      legal = legal-unite problem first key.places old is.held.legal before_it.legal;
      own = home_both problem first (before base) (before (base + 1)) key.places old next is.held.legal before_it.legal before_it.own;
      bounded = λ others legal own.
          let ours = unite problem first others none in
          let theirs = unite problem first none others in
          let sum = cost_of-unite problem first others none legal open_legal in
          let here =
          is.bounded ours (legal-unite problem first others none legal open_legal)
          (home_united problem first others none legal open_legal (open_home problem first)) in
          let there =
          before_it.bounded theirs (legal-unite problem first none others open_legal legal)
          (home_second problem first (before base) (before (base + 1)) none others next open_legal legal (open_home problem (before base)) own) in
          omega (arith, ints, sum, here, there, idles);
      best = λ all others legal own.
          let both = both_true is_best part.is_best all in
          united_not_after problem first key (key_of problem old) others is.held
          (record { legal = before_it.legal; cost = refl }) legal
          (is.best both.1 (unite problem first others key.places) (legal-unite problem first others key.places legal is.held.legal)
          (home_united problem first others key.places legal is.held.legal is.home))
          (before_it.best both.0 (unite problem first old others) (legal-unite problem first old others before_it.legal legal)
          (home_second problem first (before base) (before (base + 1)) old others next before_it.legal legal before_it.own own));
    }

-- ---- all bases

pub all_bounded : (problem : Problem) (n : ℕ) (places : List ℕ) (bound : ℤ) (is_best : Bool) → IsSound problem
    → n ≡ MOST_BASES → AreTogether problem n places bound is_best → IsLowerBound problem bound
all_bounded problem n places bound is_best sound all are others legal =
    are.bounded others legal (every_home problem n others sound all)

pub all_best : (problem : Problem) (n : ℕ) (places : List ℕ) (bound : ℤ) (is_best : Bool) → IsSound problem
    → n ≡ MOST_BASES → AreTogether problem n places bound is_best → is_best ≡ true
    → IsNotAfter problem Anywhere (key_of problem places)
all_best problem n places bound is_best sound all are best others legal _ =
    are.best best others legal (every_home problem n others sound all)
