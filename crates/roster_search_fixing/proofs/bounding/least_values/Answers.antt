use Rattle.std.proofs.Common.{◌≡◌, ◌+◌, ℤ, ◌++◌, ◌∷◌, [], length, SFits, w64, sym, ap, ◌∙◌, subst, arith}
use Rattle.std.specs.Prelude.{All, ◌≤ℤ◌}
use Rattle.std.proofs.lemmas.Int.{ints, to_z-of_z}
use Rattle.std.proofs.lemmas.List.{length_push}
use Rattle.std.proofs.lemmas.List.Elements.{All-push}
use Rattle.roster_cost.specs.Amounts.{IsWithin}
use Rattle.roster_search_regions.specs.declared.choice.TheConstants.{MOST_VALUE}
use Rattle.roster_search_regions.specs.Prices.{value_of}
use Rattle.roster_search_regions.specs.Regions.{lines_of}
use Rattle.roster_search_fixing.proofs.BoundLemmas.{more_leasts}
use Rattle.roster_search_fixing.proofs.bounding.least_values.Goals as goal

pub loop-k-preserved : goal.loop-k-preserved
loop-k-preserved c =
    let fits : SFits w64 c.least.result =
    omega (arith, ints, c.least.ensures.bound.0, c.least.ensures.bound.1) in
    let same = to_z-of_z w64 c.least.result fits in
    let old = c.loop-k.values.items in
    let pushed : c.push.new.self.items ≡ old ++ c.least.result ∷ [] =
    c.in_ok-push.ensures.items ∙ ap (λ (z : ℤ). old ++ z ∷ []) same in
    record {
      covers = ap length pushed ∙ length_push old c.least.result ∙ ap (λ n. n + 1) c.loop-k.invariant.covers;
      least = more_leasts (λ j z. All (λ line. z ≤ℤ value_of c.args.prices.now line) (lines_of c.args.region.now j)) old c.push.new.self.items c.least.result c.loop-k.k pushed c.loop-k.invariant.covers c.loop-k.invariant.least c.least.ensures.least;
      within =
          subst (All (IsWithin MOST_VALUE)) (sym pushed)
          (All-push (IsWithin MOST_VALUE) old c.least.result c.loop-k.invariant.within c.least.ensures.bound);
    }
