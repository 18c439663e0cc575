use Rattle.std.proofs.Common.{◌∙◌, length, take, ap, sym, arith}
use Rattle.std.proofs.lemmas.List.{length-take-le, length_push}
use Rattle.roster_search_regions.proofs.Copied.{begins-there, begins-next, from_none, next_path-on}
use Rattle.roster_search_regions.proofs.build.Copying.go_to.Goals as goal
use Rattle.roster_search_regions.proofs.build.Copying.go_to.Goals.{then-not-is_at+in_ok-step, else-not-is_at}

pub loop-p-init : goal.loop-p-init
loop-p-init c = record { few = omega arith; inside = omega arith; most = omega arith; begins = sym (from_none _); writing = λ lines is. is }

pub loop-p-preserved : goal.loop-p-preserved
loop-p-preserved c =
    elim c.if-not-is_at.branch [
      | then-not-is_at+in_ok-step w ↦
          let next = w.in_ok-step.ensures.path ∙ next_path-on c.loop-p.self.path w.on_the_way.result c.loop-p.depth c.in-Some.p w.on_the_way.ensures.depth w.on_the_way.ensures.last in
          rw w.self-is (record {
            few = omega (arith, c.in-Some.ensures.place);
            inside = omega (arith, ap length next, length_push (take c.loop-p.depth c.loop-p.self.path) c.in-Some.p, length-take-le c.loop-p.depth c.loop-p.self.path c.loop-p.invariant.inside);
            most = omega (arith, c.in-Some.ensures.place);
            begins = begins-next c.args.set.now c.loop-p.self.path w.step.new.self.path c.loop-p.depth c.loop-p.from c.in-Some.p c.loop-p.invariant.inside next c.loop-p.invariant.begins c.in-Some.ensures.rest;
            writing = λ lines is. w.in_ok-step.ensures.writing lines (c.loop-p.invariant.writing lines is);
          })
      | else-not-is_at w ↦
          let here = c.is_at.ensures.there w.if-not-is_at.false in
          let same = c.is_at.ensures.same w.if-not-is_at.false in
          rw w.self-is (record {
            few = omega (arith, c.in-Some.ensures.place);
            inside = omega (arith, here);
            most = omega (arith, c.in-Some.ensures.place);
            begins = begins-there c.args.set.now c.loop-p.self.path c.loop-p.depth c.loop-p.from c.in-Some.p here same c.loop-p.invariant.begins c.in-Some.ensures.rest;
            writing = c.loop-p.invariant.writing;
          })
    ]
