use Rattle.std.proofs.Common.{length, sym, ap, subst, ◌<◌, arith}
use Rattle.roster_search_regions.specs.Regions.{size_of}
use Rattle.roster_search_regions.specs.declared.split.Split.TheVariants.{Holder}
use Rattle.roster_search.specs.Branches.{AreAlike, IsOtherSide}
use Rattle.roster_search.proofs.Alike.{denied_alike}
use Rattle.roster_search.proofs.OpenLemmas.{other_side}
use Rattle.roster_search.proofs.parting.deny_alike.Goals as goal
use Rattle.roster_search.proofs.parting.deny_alike.Goals.{then-are_alike+in_ok-deny-2, else-are_alike}

pub loop-j-init : goal.loop-j-init
loop-j-init c =
    let denied = c.in_ok-deny.ensures in record {
      other = other_side c.args.problem.now (Holder c.args.k c.args.p) c.args.region.now c.deny.new.self denied.narrowed;
      fewer = denied.fewer c.requires.split;
    }

pub loop-j-preserved : goal.loop-j-preserved
loop-j-preserved c =
    let problem = c.args.problem.now in
    let old = c.args.region.now in
    let persons = ap length c.persons-j-end.ensures.value in
    let before = c.loop-j.invariant in
    elim c.if-are_alike.branch [
      | then-are_alike+in_ok-deny-2 w ↦
          let new = w.deny-then-are_alike.new.self in
          let denied = w.in_ok-deny-2.ensures in
          let some = subst (λ whole. 0 < whole.scale) c.in_ok-whole.ensures (c.are_alike.ensures.scale w.if-are_alike.true) in
          let alike = subst (λ whole. AreAlike whole c.loop-j.j c.args.k) c.in_ok-whole.ensures (c.are_alike.ensures.alike w.if-are_alike.true) in
          let less = before.fewer in
          let size = denied.narrowed.size in
          let other =
          denied_alike problem old c.loop-j.region new c.args.k c.args.p c.loop-j.j c.requires.region some
          (omega (arith, persons, c.loop-j-test.true))
          c.requires.person alike before.other denied.narrowed in
          subst (λ region. record { other : IsOtherSide problem (Holder c.args.k c.args.p) old region; fewer : size_of region < size_of old }) (sym w.region-is)
          (record { other = other; fewer = omega (arith, less, size) })
      | else-are_alike w ↦
          subst (λ region. record { other : IsOtherSide problem (Holder c.args.k c.args.p) old region; fewer : size_of region < size_of old }) (sym w.region-is) before
    ]
