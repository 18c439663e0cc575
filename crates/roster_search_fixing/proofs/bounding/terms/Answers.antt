use Rattle.std.proofs.Common.{◌≡◌, ◌+◌, ℤ, ◌++◌, ◌∷◌, [], length, SFits, w64, to_z, of_z, sym, ap, ◌∙◌, subst, arith}
use Rattle.std.specs.Prelude.{All}
use Rattle.std.proofs.lemmas.Int.{ints, to_z-of_z}
use Rattle.std.proofs.lemmas.List.{length_push}
use Rattle.std.proofs.lemmas.List.Elements.{All-push}
use Rattle.roster_cost.specs.Amounts.{IsWithin}
use Rattle.roster_search_regions.specs.declared.terms.TheConstants.{MOST_TERM}
use Rattle.roster_search_regions.specs.Terms.{term_of}
use Rattle.roster_search_fixing.proofs.BoundLemmas.{more_leasts}
use Rattle.roster_search_fixing.proofs.bounding.terms.Goals as goal

pub loop-p-preserved : goal.loop-p-preserved
loop-p-preserved c =
    let fits : SFits w64 c.term.result =
    omega (arith, ints, c.term.ensures.bound.0, c.term.ensures.bound.1) in
    let same = to_z-of_z w64 c.term.result fits in
    let old = c.loop-p.terms.items in
    let pushed : c.push.new.self.items ≡ old ++ c.term.result ∷ [] =
    c.in_ok-push.ensures.items ∙ ap (λ (z : ℤ). old ++ z ∷ []) same in
    record {
      covers = ap length pushed ∙ length_push old c.term.result ∙ ap (λ n. n + 1) c.loop-p.invariant.covers;
      term = more_leasts (λ q z. z ≡ term_of c.args.problem.now c.args.region.now c.args.prices.now (to_z w64 (of_z w64 c.args.paid)) q) old c.push.new.self.items c.term.result c.loop-p.p pushed c.loop-p.invariant.covers c.loop-p.invariant.term c.term.ensures.value;
      within =
          subst (All (IsWithin MOST_TERM)) (sym pushed)
          (All-push (IsWithin MOST_TERM) old c.term.result c.loop-p.invariant.within c.term.ensures.bound);
    }
