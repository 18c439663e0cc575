use Rattle.std.proofs.Common.{◌≡◌, ℕ, ◌<◌, List, length, get_or, Some, sym, ap, ◌∙◌, subst, inl, inr, arith, w64, to_z, of_z}
use Rattle.std.specs.Prelude.{set, slice_get}
use Rattle.std.proofs.lemmas.Bool.{cases_eq}
use Rattle.std.proofs.lemmas.Int.{to_z-of_z}
use Rattle.std.proofs.lemmas.List.{get_or-set_other, get_or-set_same, length-set}
use Rattle.std.proofs.lemmas.Option.{get_or_from_slice_get, slice_get-get_or, slice_get_within}
use Rattle.roster_plan_bound.specs.Behinds.{AreRowsBehind, IsTailBehind}
use Rattle.roster_plan_bound.proofs.behind.put.Goals as goal

-- what stands at a place of a list of which one place is set anew
set_cases : {X : Type 0} (P : ℕ → X → Type 0) (xs : List X) (i : ℕ) (x : X) → i < length xs → P i x
    → ((j : ℕ) (y : X) → slice_get xs j ≡ Some y → P j y) → (j : ℕ) (y : X) → slice_get (set xs i x) j ≡ Some y → P j y
set_cases P xs i x inside here others j y at =
    elim (cases_eq j i) [
      | inl same ↦
          let now = get_or_from_slice_get (set xs i x) j y y at in
          let there : y ≡ x = sym now ∙ ap (λ n. get_or (set xs i x) n y) same ∙ get_or-set_same xs i x y inside in
          subst (λ n. P n y) (sym same) (subst (P i) (sym there) here)
      | inr other ↦
          let long = length-set xs i x in
          let within = slice_get_within (set xs i x) j y at in
          let now = get_or_from_slice_get (set xs i x) j y y at in
          let before : get_or xs j y ≡ y = sym (get_or-set_other xs i j x y other) ∙ now in
          others j y (slice_get-get_or xs j y (omega (arith, long, within)) ∙ ap Some before)
    ]

pub returns : goal.returns
returns c =
    let problem = c.args.valued.now.problem.now in
    let k = c.args.valued.now.person in
    let timeline = c.args.valued.now.timeline.now in
    let values = c.args.valued.now.values.now in
    let rows = c.args.behind.now.rows.items in
    let tails = c.args.behind.now.tails.items in
    let told = to_z-of_z w64 c.args.tail c.ranges.tail in
    record {
      covers = length-set rows c.args.p c.args.rows ∙ c.requires.behind.covers;
      rows = set_cases (AreRowsBehind problem k timeline values) rows c.args.p c.args.rows
          (omega (arith, c.requires.behind.covers, c.requires.place)) c.requires.rows c.requires.behind.rows;
      longer = length-set tails c.args.rank (to_z w64 (of_z w64 c.args.tail)) ∙ c.requires.behind.longer;
      tails = set_cases (IsTailBehind problem k timeline values) tails c.args.rank (to_z w64 (of_z w64 c.args.tail))
          (omega (arith, c.requires.behind.longer, c.requires.rank))
          (subst (IsTailBehind problem k timeline values c.args.rank) (sym told) c.requires.tail) c.requires.behind.tails;
      begun = c.requires.behind.begun;
      within = c.requires.behind.within;
    }
