use Rattle.std.proofs.Common.{rules, ◌≡◌, ◌<◌, w64, ℕ, ℤ, List, FitsSigned, to_z, of_z, get_or, subst, ap, ◌∙◌}
use Rattle.std.proofs.lemmas.Int.{to_z-of_z}
use Rattle.roster_model.specs.Rosters.{Key}
use Rattle.roster_model.specs.Settled.{IsFoundWithin, IsWithinCost}
use Rattle.roster_search_regions.specs.Regions.{Has, IsIn}
use Rattle.roster_search_least.proofs.EarlierLemmas.{found_first, number_of}
use Rattle.roster_search_least.proofs.first.first_found.Goals as goal

pub returns-in-Some-2-clause-found : goal.returns-in-Some-2-clause-found
returns-in-Some-2-clause-found g c =
    let problem = c.args.problem.now in
    let key : Key = c.args.roster.now in
    let number : ℕ = get_or c.as_slice.result.now c.args.p 0 in
    let most : ℤ = to_z w64 (of_z w64 c.roster.inside.cost) in
    let Here : ℕ → List ℕ → Type 0 = λ k places. IsIn problem c.args.region.now places × Has k c.args.p places in
    let fits : FitsSigned w64 c.roster.inside.cost = search rules in
    let cost : most ≡ key.cost = to_z-of_z w64 c.roster.inside.cost fits ∙ ap (λ (k : Key). k.cost) c.roster.view_is in
    let slice : c.as_slice.result.now ≡ key.places = c.as_slice.ensures ∙ ap (λ (k : Key). k.places) c.roster.view_is in
    let has = number_of problem c.args.p key.places c.as_slice.result.now c.requires.agree.legal c.requires.pairing slice in
    let less : c.in-Some.k < number = c.in-Some.ensures in
    let found = subst (λ found. IsFoundWithin problem (Here c.from.result) most found) c.in-Some-2.is c.in_ok-earlier.ensures.found in
    let own = subst (λ k. IsWithinCost problem (Here k) most c.in-Some-2.earlier) c.from.ensures found in
    found_first problem c.args.p number c.in-Some.k c.args.region.now key c.in-Some-2.earlier most cost has less own

pub returns-in-None-clause-found : goal.returns-in-None-clause-found
returns-in-None-clause-found g c =
    let key : Key = c.args.roster.now in
    let slice : c.as_slice.result.now ≡ key.places = c.as_slice.ensures ∙ ap (λ (k : Key). k.places) c.roster.view_is in
    number_of c.args.problem.now c.args.p key.places c.as_slice.result.now c.requires.agree.legal c.requires.pairing slice
