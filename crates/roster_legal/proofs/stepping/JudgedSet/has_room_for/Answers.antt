use Rattle.std.proofs.Common.{ap, subst, ◌∙◌}
use Rattle.std.proofs.lemmas.Bool.{both_ways}
use Rattle.roster_legal.specs.Stepping.{IsPlaced, Stepped}
use Rattle.roster_legal.proofs.Stepped.{known_of, load_of_view, room-next, within-next, within-set}
use Rattle.roster_legal.proofs.stepping.JudgedSet.has_room_for.Goals as goal

pub returns-else-self-lt2-clause-yes : goal.returns-else-self-lt2-clause-yes
returns-else-self-lt2-clause-yes c = λ h many.
    let judged = c.args.self.now in
    let p = c.args.p in
    let same = ap (λ (j : Stepped). j.loads) c.self.view_is in
    let placed = subst IsPlaced same c.problem.ensures.placed in
    let known = known_of c.self.view_is c.self.invariant in
    let load = load_of_view p same c.load.ensures c.requires.alone in
    within-next judged p placed.ordered placed.timed known.legal c.requires c.deref.result.now c.load.result.now (c.deref.ensures.value ∙ known.rooms) load
    (within-set judged p placed.ordered placed.timed known.legal c.requires many) (c.have_room.ensures.0 h)

pub returns-else-self-lt2-clause-no : goal.returns-else-self-lt2-clause-no
returns-else-self-lt2-clause-no c = λ fails legal.
    let judged = c.args.self.now in
    let p = c.args.p in
    let same = ap (λ (j : Stepped). j.loads) c.self.view_is in
    let placed = subst IsPlaced same c.problem.ensures.placed in
    let known = known_of c.self.view_is c.self.invariant in
    let load = load_of_view p same c.load.ensures c.requires.alone in
    both_ways _ fails (c.have_room.ensures.1 (room-next judged p placed.ordered placed.timed known.legal c.requires c.deref.result.now c.load.result.now (c.deref.ensures.value ∙ known.rooms) load legal))
