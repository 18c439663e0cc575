use Rattle.std.proofs.Common.{◌≡◌, ◌<◌, length, get_or, ap, ◌∙◌, arith}
use Rattle.std.proofs.lemmas.Int.{ints}
use Rattle.std.proofs.lemmas.Option.{slice_get-get_or}
use Rattle.roster_model.specs.Problem.{Problem}
use Rattle.roster_bounds.specs.Chosen.{ChosenLines}
use Rattle.roster_bounds.proofs.Summed.{next_pairing}
use Rattle.roster_bounds.proofs.node.Node.pairings_bound.Goals as goal

pub loop-p-preserved : goal.loop-p-preserved
loop-p-preserved c =
    let p = c.loop-p.p in
    let few = c.pairing_bound-sum.ensures.fits in
    let low = c.loop-p.invariant.fits.0 in
    let high = c.loop-p.invariant.fits.1 in
    let tables = c.args.self.now.tables in
    let pairings : c.pairings-pairings.result.now ≡ tables.problem.pairings =
    c.pairings-pairings.ensures.value ∙ ap (λ (problem : Problem). problem.pairings) c.problem.ensures
    ∙ ap (λ (n : ChosenLines). n.tables.problem.pairings) c.self.view_is in
    let inside : p < length tables.problem.pairings = omega (arith, c.loop-p-test.true, ap length pairings) in
    record {
      below = λ places of.
          let at = slice_get-get_or places p 0 (omega (arith, inside, of.legal.covers)) in
          let here = c.pairing_bound-sum.ensures.below places (get_or places p 0) of at in
          let so_far = c.loop-p.invariant.below places of in
          omega (arith, ints, so_far, here, next_pairing tables places p (get_or places p 0) inside at, few.0, few.1, low, high);
      fits = (omega (arith, ints, few.0, few.1, low, high), omega (arith, ints, few.0, few.1, low, high));
    }
