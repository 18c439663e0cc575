use Rattle.std.proofs.Common.{◌≡◌, ℕ, List, length, ap, subst, ◌∙◌, arith}
use Rattle.roster_model.specs.Rosters.{Key}
use Rattle.roster_bases.specs.Bases.{only}
use Rattle.roster_bases.specs.United.{unite}
use Rattle.roster_bases.proofs.Unites.{united_at_end}
use Rattle.roster_bases.proofs.uniting.united.Goals as goal

pub returns : goal.returns
returns c =
    let problem = c.args.problem.now in
    let places = c.args.places.now in
    let own = c.as_slice-own.result.now in
    let same : own ≡ c.args.part.now.places =
    c.as_slice-own.ensures ∙ ap (λ (key : Key). key.places) c.part.view_is in
    let long : length own ≡ length problem.pairings = ap length same ∙ c.requires.part in
    let all : c.loop-p.p ≡ length places = omega (arith, c.loop-p-test.false) in
    let covers : length c.loop-p.united.items ≡ c.loop-p.p =
    omega (arith, c.loop-p.united.ok.0, c.loop-p.invariant.covers) in
    subst (λ (xs : List ℕ). c.loop-p.united.items ≡ unite problem (only c.args.base) xs places) same
    (united_at_end problem c.args.base c.loop-p.p own places c.loop-p.united.items long c.requires.places covers all c.loop-p.invariant.each)
