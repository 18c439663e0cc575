use Rattle.std.proofs.Common.{length, sym, ap, ◌∙◌, subst, arith}
use Rattle.roster_model.specs.Places.{open_number}
use Rattle.roster_model.specs.Rules.{is_among}
use Rattle.roster_search_regions.specs.Regions.{HasNone, IsWhollyIn}
use Rattle.roster_search_fixing.proofs.PropagationLemmas.{none_more, other_has, owner_has}
use Rattle.roster_search_fixing.proofs.propagate.taken_from.Goals as goal
use Rattle.roster_search_fixing.proofs.propagate.taken_from.Goals.{then-j-k+then-width-gt0, else-j-k}

pub loop-j-init : goal.loop-j-init
loop-j-init c places there p among =
    other_has (open_number c.args.problem.now) c.args.k p places (λ same. omega (arith, same, c.requires.person))
    (there.left_open p (ap (λ set. is_among set p) (sym c.left_open.ensures) ∙ among))

pub loop-j-preserved : goal.loop-j-preserved
loop-j-preserved c =
    let problem = c.args.problem.now in
    let region = c.args.region.now in
    let k = c.args.k in
    let j = c.loop-j.j in
    let persons = ap length c.persons-j-end.ensures.value in
    let before = c.loop-j.invariant in
    elim c.if-j-k.branch [
      | then-j-k+then-width-gt0 w ↦
          subst (λ taken. IsWhollyIn problem region (HasNone k taken)) (sym w.taken-is)
          (λ places there. none_more k c.loop-j.taken w.certain.result w.or-taken.result places w.or-taken.ensures (before places there)
          (λ p among. other_has j k p places (λ same. w.if-j-k.true (sym same)) (owner_has problem region j p w.certain.result c.requires.region (omega (arith, c.requires.region.covers, persons, c.loop-j-test.true)) w.certain.ensures (omega (arith, w.width.ensures, w.if-width-gt0.true)) among places there)))
      | else-j-k w ↦ subst (λ taken. IsWhollyIn problem region (HasNone k taken)) (sym w.taken-is) before
    ]
