use Rattle.std.proofs.Common.{◌≡◌, ℕ, ◌+◌, ◌<◌, [], ◌∷◌, ◌++◌, List, length, ◌+ℤ◌, SFits, w64, to_z, of_z, refl, sym, ap, ◌∙◌, subst, arith, rules}
use Rattle.std.proofs.lemmas.Int.{ints}
use Rattle.std.proofs.lemmas.Option.{slice_get_read}
use Rattle.roster_model.specs.Costs.{flight_of, total}
use Rattle.roster_model.specs.Lines.{IsLine}
use Rattle.roster_model.specs.Problem.{units_of}
use Rattle.roster_lines.specs.declared.stem.Stem.{Stem}
use Rattle.roster_lines.proofs.Listed.{IsStem-below}
use Rattle.roster_lines.proofs.Stems.{flight_with}
use Rattle.roster_lines.proofs.stem.Stem.below.Goals as goal

pub overflow_add-result-2 : goal.overflow_add-result-2
overflow_add-result-2 c =
    let stem = c.args.self.now in
    let p : ℕ = c.args.p in
    let more = c.one_pairing_more.ensures.flight c.args.problem.now c.args.k p stem.set in
    let flown = flight_with c.args.problem.now c.args.k stem c.args.pairs.now.flights.items p c.index-2.result.now c.requires.stem c.requires.pairs.flights c.requires.candidate more c.index-2.ensures in
    omega (arith, flown, c.requires.flown (stem.set ++ p ∷ []))

pub returns-clause-stem : goal.returns-clause-stem
returns-clause-stem c =
    let problem = c.args.problem.now in
    let k : ℕ = c.args.k in
    let stem = c.args.self.now in
    let p : ℕ = c.args.p in
    let units = c.units.result in
    let is = c.requires.stem in
    let rows = c.args.pairs.now.rows.items in
    let inside : p < length rows = omega (arith, c.requires.pairs.covers, is.places p c.requires.candidate) in
    let there = slice_get_read rows (length rows) p c.index.result.now refl inside c.index.ensures in
    let before : SFits w64 stem.units = search rules in
    let brought : SFits w64 units = search rules in
    let longer : List ℕ = stem.set ++ p ∷ [] in
    let made : c.put.new.self ≡ longer = c.put.ensures.last (is.behind p c.requires.candidate) in
    let within = c.units_of_set.ensures problem k longer c.is_sound.ensures.sound c.requires.line.ascending c.requires.line.places in
    let all : stem.units +ℤ units ≡ total (units_of problem k) longer =
    omega
    (arith, ints, is.units, c.units.ensures.value, c.one_pairing_more.ensures.units problem k p stem.set) in
    let more = c.one_pairing_more.ensures.flight problem k p stem.set in
    let flown = flight_with problem k stem c.args.pairs.now.flights.items p c.index-2.result.now is c.requires.pairs.flights c.requires.candidate more c.index-2.ensures in
    let below : Stem = record { set = c.put.new.self; number = c.args.number; among = stem.among; candidates = c.and.result; units = to_z w64 (of_z w64 (to_z w64 (of_z w64 stem.units) +ℤ to_z w64 (of_z w64 units))); flight = stem.flight + c.index-2.result.now } in
    IsStem-below problem k c.requires.parts stem below p c.index.result.now is c.requires.candidate
    (c.requires.pairs.rows p c.index.result.now there) made refl c.and.ensures
    (omega (arith, ints, before, brought, all, within.0, within.1) ∙ ap (total (units_of problem k)) (sym made))
    (flown ∙ ap (flight_of problem k) (sym made))
    (subst (IsLine problem k) (sym made) c.requires.line)

pub returns-clause-set : goal.returns-clause-set
returns-clause-set c = c.put.ensures.last (c.requires.stem.behind c.args.p c.requires.candidate)
