use Rattle.std.proofs.Common.{◌≡◌, ◌++◌, ◌∙◌, Some, arith, length, refl, subst, sym, take}
use Rattle.std.specs.Prelude.{slice_get}
use Rattle.std.proofs.lemmas.Option.{slice_get_read}
use Rattle.roster_desk_reports.specs.Given.{AreTaken}
use Rattle.roster_desk_reports.proofs.Growth.{next_name}
use Rattle.roster_desk_reports.proofs.Taken.{names_done, names_more, names_next, names_stop, taken_next}
use Rattle.roster_desk_reports.proofs.placing.put_names.Goals as goal

pub loop-i-preserved : goal.loop-i-preserved
loop-i-preserved c =
    let problem = c.args.problem.now in
    let names = c.args.names.now in
    let i = c.loop-i.i in
    let name = c.index-names-i.result in
    let few = c.loop-i-test.true in
    let at : slice_get names i ≡ Some name = slice_get_read names (length names) i name refl few c.index-names-i.is in
    let next = next_name problem c.args.number names i name c.args.places.now c.loop-i.places c.put_pairing.new.places
    c.requires.person at (record { grows = c.loop-i.invariant.grows; has = c.loop-i.invariant.has }) c.in_default.ensures.grows c.in_default.ensures.has in
    record {
      grows = next.grows;
      has = next.has;
      taken = λ before taken.
          let now = c.loop-i.invariant.taken before taken in
          let sound = c.in_default.ensures.sound (before ++ take i names) now.0 in
          let more = taken_next problem (before ++ take i names) name c.args.number c.loop-i.places c.put_pairing.new.places
          c.requires.person now.0 c.in_default.ensures.grows c.in_default.ensures.has in
          (subst (AreTaken problem c.put_pairing.new.places) (names_more before names i name few at) more, sym (names_next problem before names i name few at sound) ∙ now.1);
    }

pub returns-in-Err-clause-fault : goal.returns-in-Err-clause-fault
returns-in-Err-clause-fault c before taken =
    let problem = c.args.problem.now in
    let names = c.args.names.now in
    let i = c.loop-i.i in
    let name = c.index-names-i.result in
    let few = c.loop-i-test.true in
    let at : slice_get names i ≡ Some name = slice_get_read names (length names) i name refl few c.index-names-i.is in
    let now = c.loop-i.invariant.taken before taken in
    sym now.1 ∙ names_stop problem (before ++ take i names) names i name c.in-Err.wrong few at (c.in-Err.ensures.fault (before ++ take i names) now.0)

pub returns-clause-taken : goal.returns-clause-taken
returns-clause-taken c before taken =
    let now = c.loop-i.invariant.taken before taken in
    names_done c.args.problem.now before c.args.names.now c.loop-i.i c.loop-i.places
    (omega (arith, c.loop-i-test.false)) now.0 now.1
