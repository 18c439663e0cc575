use Rattle.std.proofs.Common.{length, refl, sym, subst, inl, inr}
use Rattle.std.specs.Arc.{arc_value}
use Rattle.std.proofs.lemmas.Option.{slice_get_read}
use Rattle.roster_model.specs.Rosters.{Key}
use Rattle.roster_model.specs.Settled.{IsHeld}
use Rattle.roster_combine_workers.proofs.PartLemmas.{least-more}
use Rattle.roster_combine_workers.proofs.combining.least_in.Goals as goal

pub loop-k-preserved : goal.loop-k-preserved
loop-k-preserved c =
    let parts = c.args.list.now in
    let earlier = c.in_ok-best.ensures in
    least-more parts c.loop-k.k c.index-list-k.result (arc_value c.args.known) (arc_value c.loop-k.best)
    (arc_value c.in_ok-best.best) c.loop-k.invariant
    (slice_get_read parts (length parts) c.loop-k.k c.index-list-k.result refl c.loop-k-test.true c.index-list-k.is)
    earlier.second earlier.first
    (λ problem mid first. elim earlier.one [
      | inl is ↦ subst (λ (key : Key). IsHeld problem key) (sym is) first
      | inr is ↦ subst (λ (key : Key). IsHeld problem key) (sym is) mid
    ])
