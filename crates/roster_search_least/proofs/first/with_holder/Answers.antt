use Rattle.std.proofs.Common.{IfOk, w64, ℤ, List, ℕ, to_z, of_z, subst}
use Rattle.std.proofs.lemmas.Int.{to_z-of_z}
use Rattle.roster_model.specs.Settled.{IsFoundWithin}
use Rattle.roster_search_regions.specs.Regions.{Has, IsIn, IsNarrowed}
use Rattle.roster_search_least.specs.Least.{IsCheapestWithin}
use Rattle.roster_search_least.proofs.FindLemmas.{found_kept, if_ok}
use Rattle.roster_search_least.proofs.first.with_holder.Goals as goal

pub returns-clause-found : goal.returns-clause-found
returns-clause-found g c =
    let problem = c.args.problem.now in
    let old = c.args.region.now in
    let new = c.give.new.self in
    let Given : List ℕ → Type 0 = Has c.args.holder.k c.args.holder.p in
    let most : ℤ = to_z w64 (of_z w64 c.args.most) in
    let narrowed = subst (λ region. IsNarrowed problem Given region new) c.in_ok-given.ensures c.in_ok-give.ensures.narrowed in
    subst (λ most. IfOk c.find.result (IsFoundWithin problem (λ places. IsIn problem old places × Given places) most))
    (to_z-of_z w64 c.args.most c.ranges.most)
    (if_ok c.find.result (IsCheapestWithin problem (IsIn problem new) most most) (IsFoundWithin problem (λ places. IsIn problem old places × Given places) most) c.find.ensures.found (λ found is. found_kept problem Given old new most most found narrowed c.in_ok-give.ensures.all is))
