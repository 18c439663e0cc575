use Rattle.std.proofs.Common.{◌+◌, ◌<◌, refl, arith}
use Rattle.std.proofs.lemmas.Option.{slice_get_within}
use Rattle.roster_problem.specs.Duties.{picked}
use Rattle.roster_problem.proofs.PositionLists.{length-picked}
use Rattle.roster_plan_bound.proofs.span.is_solid.Goals as goal

pub returns : goal.returns
returns c =
    let duties = c.args.duties.now in
    let positions = c.args.positions.now in (
      λ yes j a b first second.
          let inside = slice_get_within (picked duties positions) (j + 1) b second in
          let long = length-picked duties positions c.requires in
          let seen : j + 1 < c.loop-i.i = omega (arith, inside, long, c.loop-i-test.false) in
          c.loop-i.invariant j a b seen first second,
      λ solid. refl,
    )
