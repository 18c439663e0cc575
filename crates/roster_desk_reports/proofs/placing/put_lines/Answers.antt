use Rattle.std.proofs.Common.{◌≡◌, ◌<◌, ◌≤◌, ◌++◌, ◌∙◌, Some, ap, arith, length, refl, sym}
use Rattle.std.specs.Prelude.{map, option_map, slice_get}
use Rattle.std.proofs.Math.ListN.{drop_of_length-le}
use Rattle.std.proofs.lemmas.List.{length-map}
use Rattle.std.proofs.lemmas.Option.{slice_get_read, slice_get-map}
use Rattle.roster_desk_reports.specs.Faults.{placing_fault}
use Rattle.roster_desk_reports.specs.Text.{given_by_line, numbered_by_line}
use Rattle.roster_desk_reports.proofs.Growth.{next_put, said_at}
use Rattle.roster_desk_reports.proofs.Taken.{placing_next, placing_stop}
use Rattle.roster_desk_reports.proofs.placing.put_lines.Goals as goal

pub loop-i-preserved : goal.loop-i-preserved
loop-i-preserved c =
    let problem = c.args.problem.now in
    let lines = c.args.lines.now in
    let i = c.loop-i.i in
    let crew = c.index-lines-i.result in
    let at : slice_get lines i ≡ Some crew = slice_get_read lines (length lines) i crew refl c.loop-i-test.true c.index-lines-i.is in
    let next = next_put problem (map given_by_line lines) i (given_by_line crew) c.args.places.now c.loop-i.places c.put_line.new.places
    (said_at given_by_line lines i crew at) (record { grows = c.loop-i.invariant.grows; has = c.loop-i.invariant.has }) c.in_default.ensures.grows c.in_default.ensures.has in
    let all = map numbered_by_line lines in
    let there : slice_get all i ≡ Some (numbered_by_line crew) =
    slice_get-map numbered_by_line lines i ∙ ap (option_map numbered_by_line) at in
    let long : length all ≡ length lines = length-map lines numbered_by_line in
    let few : i < length all = omega (arith, long, c.loop-i-test.true) in
    record {
      grows = next.grows;
      has = next.has;
      taken = λ before taken.
          let now = c.loop-i.invariant.taken before taken in
          let step = c.in_default.ensures.taken now.0 now.1 in
          (now.0 ++ (given_by_line crew).1, step.1, sym (placing_next problem now.0 all i (numbered_by_line crew) few there step.0) ∙ now.2);
    }

pub returns-in-Err-clause-fault : goal.returns-in-Err-clause-fault
returns-in-Err-clause-fault c before taken =
    let problem = c.args.problem.now in
    let lines = c.args.lines.now in
    let i = c.loop-i.i in
    let crew = c.index-lines-i.result in
    let at : slice_get lines i ≡ Some crew = slice_get_read lines (length lines) i crew refl c.loop-i-test.true c.index-lines-i.is in
    let all = map numbered_by_line lines in
    let there : slice_get all i ≡ Some (numbered_by_line crew) =
    slice_get-map numbered_by_line lines i ∙ ap (option_map numbered_by_line) at in
    let long : length all ≡ length lines = length-map lines numbered_by_line in
    let few : i < length all = omega (arith, long, c.loop-i-test.true) in
    let now = c.loop-i.invariant.taken before taken in
    sym now.2 ∙ placing_stop problem now.0 all i (numbered_by_line crew) c.in-Err.wrong few there (c.in-Err.ensures.fault now.0 now.1)

pub returns-clause-sound : goal.returns-clause-sound
returns-clause-sound c before taken =
    let lines = c.args.lines.now in
    let all = map numbered_by_line lines in
    let long : length all ≡ length lines = length-map lines numbered_by_line in
    let past : length all ≤ c.loop-i.i = omega (arith, long, c.loop-i-test.false) in
    let now = c.loop-i.invariant.taken before taken in
    sym now.2 ∙ ap (placing_fault c.args.problem.now now.0) (drop_of_length-le all past)
