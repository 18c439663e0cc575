use Rattle.std.proofs.Common.{◌≡◌, List, ℕ, length, sym, ap, ◌∙◌}
use Rattle.std.proofs.lemmas.List.{length-replicate}
use Rattle.roster_model.specs.Settled.{IsHeld}
use Rattle.roster_bases.proofs.Unites.{length-unite}
use Rattle.roster_bases.specs.Bases.{only}
use Rattle.roster_bases.specs.Homes.{IsHome}
use Rattle.roster_plan.proofs.PartLemmas.{base_roster}
use Rattle.roster_plan.proofs.parts.roster_of.Goals as goal

pub costed-requires : goal.costed-requires
costed-requires c =
    let problem = c.args.problem.now in
    let none : List ℕ = c.deref.result.now in
    let covers : length none ≡ length problem.pairings =
    ap length (c.deref.ensures.value ∙ c.in_ok-open.ensures)
    ∙ length-replicate (length problem.pairings) (length problem.persons) in
    ap length c.in_ok-places.ensures ∙ length-unite problem (only c.args.base) c.args.known.now.places none (c.requires.legal.covers ∙ sym covers) ∙ covers

own : (c : goal.After-drop-open-2)
    → IsHeld c.args.problem.now c.costed.result × IsHome c.args.problem.now (only c.args.base) c.costed.result.places
own c = base_roster c.args.problem.now c.args.base c.args.known.now.places c.deref.result.now c.in_ok-places.places.items c.costed.result c.requires.legal
    (c.deref.ensures.value ∙ c.in_ok-open.ensures) c.in_ok-places.ensures c.costed.ensures

pub returns-clause-held : goal.returns-clause-held
returns-clause-held c = (own c).0

pub returns-clause-home : goal.returns-clause-home
returns-clause-home c = (own c).1
