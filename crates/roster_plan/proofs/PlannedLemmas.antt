-- Plans that go on from one another.
use Rattle.std.proofs.Common.{◌≡◌, true, sym, subst}
use Rattle.roster_model.specs.Problem.{Problem}
use Rattle.roster_model.specs.Rosters.{Key, key_le}
use Rattle.roster_model.proofs.KeyLemmas.{key_le-refl, key_le-trans}
use Rattle.roster_plan.specs.declared.known.Planned.{Planned}
use Rattle.roster_plan.specs.Planned.{IsKnown, IsPlannedFrom}

-- what goes on from a plan goes on from what that goes on from
pub on_from : (problem : Problem) (before : Key) (mid planned : Planned) → IsPlannedFrom problem before mid
    → IsPlannedFrom problem mid.roster planned → IsPlannedFrom problem before planned
on_from problem before mid planned first then = record {
  known = then.known;
  kept = key_le-trans planned.roster mid.roster before then.kept first.kept;
}

-- a plan of a roster that isn't after the one before
pub roster_on : (problem : Problem) (before key : Key) (planned : Planned) → IsKnown problem planned
    → planned.roster ≡ key → key_le key before ≡ true → IsPlannedFrom problem before planned
roster_on problem before key planned known is kept = record {
  known = known;
  kept = subst (λ k. key_le k before ≡ true) (sym is) kept;
}

-- and of the same roster
pub same_on : (problem : Problem) (before : Key) (planned : Planned) → IsKnown problem planned
    → planned.roster ≡ before → IsPlannedFrom problem before planned
same_on problem before planned known is =
    roster_on problem before before planned known is (key_le-refl before)
