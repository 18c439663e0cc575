use Rattle.std.proofs.Common.{◌≡◌, ℕ, ◌+◌, ◌<◌, [], ◌∷◌, ◌++◌, length, Some, refl, ap, subst, sym, ◌∙◌, arith, ℤ, ◌+ℤ◌, ◌*ℤ◌, ◌≤ℤ◌, pos, w64, to_z, of_z, FitsSigned, rules}
use Rattle.std.proofs.lemmas.Int.{to_z-of_z}
use Rattle.std.proofs.lemmas.List.{length_push}
use Rattle.std.proofs.lemmas.Option.{get_or_from_slice_get, slice_get-get_or}
use Rattle.std.specs.Prelude.{false, slice_get}
use Rattle.roster_model.specs.Costs.{cost_of}
use Rattle.roster_model.specs.Places.{set_of}
use Rattle.roster_model.proofs.PushLemmas.{each-push}
use Rattle.roster_cost.specs.Amounts.{IsWithin}
use Rattle.roster_lines_table.specs.Entries.{sets_of}
use Rattle.roster_lines_table.specs.Person.{AreListedOf}
use Rattle.roster_lines.specs.WantedTables.{AreListedSoFar}
use Rattle.roster_bases.specs.Bases.{base_of_person, only}
use Rattle.roster_bases.specs.Homes.{EachHomeRoster}
use Rattle.roster_plan_bound.specs.declared.parts.TheConstants.{MOST_LEAST, PARTS}
use Rattle.roster_plan_bound.specs.Chains.{value_at}
use Rattle.roster_plan_bound.specs.Reduced.{reduced}
use Rattle.roster_plan_bound.proofs.GapLemmas.{cheap_enough, cheap_given, cheap_more, none_flies, HasCheap, HasNone}
use Rattle.roster_plan_bound.proofs.gap.lines_of_gap.Goals as goal

pub loop-k-preserved : goal.loop-k-preserved
loop-k-preserved c =
    let problem = c.args.pricing.now in
    let base = c.args.base in
    let k = c.loop-k.k in
    let inv = c.loop-k.invariant in
    let lines = c.in-Ok.lines in
    let person : k < length problem.persons = omega (arith, c.loop-k-test.true, ap length c.persons-k-end.ensures.value, ap (λ p. length p.persons) c.problem-problem.ensures) in
    let pushed : c.push.new.self ≡ c.loop-k.table ++ lines ∷ [] = c.in_ok-push-in-Ok.ensures in
    let are = c.in-Ok.ensures in
    let listed =
    each-push (AreListedOf problem) c.loop-k.table lines inv.listed
    (subst (λ j. AreListedOf problem j lines) (sym inv.count) are.listed) in
    let nobody = each-push (λ j ls. only base (base_of_person problem j) ≡ false → sets_of ls ≡ [] ∷ []) c.loop-k.table lines inv.none
    (subst (λ j. only base (base_of_person problem j) ≡ false → sets_of lines ≡ [] ∷ []) (sym inv.count) are.none) in
    let bound : ℤ = c.args.priced.now.bound in
    let leasts = c.args.priced.now.leasts.items in
    let least : ℤ = value_at leasts k in
    let at : slice_get leasts k ≡ Some least =
    slice_get-get_or leasts k (pos 0) (omega (arith, person, c.requires.look.covers)) in
    let found : c.index.result.now ≡ least =
    c.index.ensures ∙ get_or_from_slice_get leasts k least c.index.result.now at in
    let within : IsWithin MOST_LEAST least =
    c.requires.look.small k (pos 0) (omega (arith, person, c.requires.look.covers)) in
    let least_fits : FitsSigned w64 least = search rules in
    let least_told : to_z w64 (of_z w64 least) ≡ least = to_z-of_z w64 least least_fits in
    let limit_fits : FitsSigned w64 c.limit_of-limit.result = search rules in
    let limit_told : to_z w64 (of_z w64 c.limit_of-limit.result) ≡ c.limit_of-limit.result =
    to_z-of_z w64 c.limit_of-limit.result limit_fits in
    let here : EachHomeRoster problem (only base) (λ places. cost_of problem places ≤ℤ (bound +ℤ pos c.args.gap)
    → (i : ℕ) × (slice_get (sets_of lines) i ≡ Some (set_of k places))) = λ places roster home cost.
    let limit : reduced problem c.args.prices.now k (set_of k places) ≤ℤ to_z w64 (of_z w64 c.limit_of-limit.result) =
    cheap_enough problem c.args.prices.now c.args.priced.now.leasts.items base bound least
    (to_z w64 (of_z w64 c.limit_of-limit.result)) c.args.gap k places c.requires.look roster home person
    cost refl
    (limit_told ∙ c.limit_of-limit.ensures
    ∙ ap (λ z. to_z w64 (of_z w64 z) +ℤ (pos PARTS *ℤ (pos c.args.gap +ℤ pos 1))) found
    ∙ ap (λ z. z +ℤ (pos PARTS *ℤ (pos c.args.gap +ℤ pos 1))) least_told) in
    cheap_given problem c.args.prices.now base k
    (to_z w64 (of_z w64 c.limit_of-limit.result)) lines places are person roster home limit in
    record {
      count = ap length pushed ∙ length_push c.loop-k.table lines ∙ ap (λ n. n + 1) inv.count;
      few = omega (arith, person);
      listed = subst (AreListedSoFar problem) (sym pushed) listed;
      held = subst (λ t. HasCheap problem base bound c.args.gap t (k + 1)) (sym pushed) (cheap_more problem base bound c.args.gap k c.loop-k.table lines inv.count inv.held here);
      none = subst (HasNone problem base) (sym pushed) nobody;
    }

pub returns-clause-listed : goal.returns-clause-listed
returns-clause-listed c =
    let all : c.loop-k.k ≡ length c.args.pricing.now.persons = omega (arith, c.loop-k-test.false, c.loop-k.invariant.few, ap length c.persons-k-end.ensures.value, ap (λ p. length p.persons) c.problem-problem.ensures) in
    record { covers = c.loop-k.invariant.count ∙ all; each = c.loop-k.invariant.listed }

pub returns-clause-home : goal.returns-clause-home
returns-clause-home c places is =
    let all : c.loop-k.k ≡ length c.args.pricing.now.persons = omega (arith, c.loop-k-test.false, c.loop-k.invariant.few, ap length c.persons-k-end.ensures.value, ap (λ p. length p.persons) c.problem-problem.ensures) in
    none_flies c.args.pricing.now c.args.base c.loop-k.table places
    (c.loop-k.invariant.count ∙ all) c.loop-k.invariant.none is
