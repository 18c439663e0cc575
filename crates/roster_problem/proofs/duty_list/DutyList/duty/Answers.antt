use Rattle.std.proofs.Common.{◌≡◌, ℕ, ◌<◌, length, get_or, subst, sym, ◌∙◌, arith}
use Rattle.std.proofs.lemmas.Option.{slice_get-get_or}
use Rattle.roster_problem.proofs.PositionLists.{length_of_list, duty_in_list}
use Rattle.roster_problem.proofs.duty_list.DutyList.duty.Goals as goal

pub index-requires : goal.index-requires
index-requires c =
    let long = length_of_list c.self.inside.duties.now c.args.self.now c.self.inside.positions.items c.self.view_is c.self.invariant in
    let within = c.requires in
    omega arith

pub bounds-self-inside-from : goal.bounds-self-inside-from
bounds-self-inside-from c =
    let long = length_of_list c.self.inside.duties.now c.args.self.now c.self.inside.positions.items c.self.view_is c.self.invariant in
    let n : ℕ = length c.self.inside.duties.now in
    let inside = c.self.invariant.within c.args.i c.index.result.now (omega arith) in
    subst (λ p. p < n) (sym (c.from.ensures ∙ c.index.ensures)) inside

pub returns : goal.returns
returns c =
    let long = length_of_list c.self.inside.duties.now c.args.self.now c.self.inside.positions.items c.self.view_is c.self.invariant in
    let n : ℕ = length c.self.inside.duties.now in
    let inside = c.self.invariant.within c.args.i c.index.result.now (omega arith) in
    let within : c.from.result < n = subst (λ p. p < n) (sym (c.from.ensures ∙ c.index.ensures)) inside in
    let at : c.from.result ≡ get_or c.self.inside.positions.items c.args.i c.from.result =
    subst (λ r. r ≡ get_or c.self.inside.positions.items c.args.i r)
    (sym c.from.ensures) c.index.ensures in
    duty_in_list c.self.inside.duties.now c.args.self.now c.self.inside.positions.items c.args.i c.from.result c.self.view_is c.self.invariant (omega arith) at
    ∙ slice_get-get_or c.self.inside.duties.now c.from.result c.index-self-from.result within
