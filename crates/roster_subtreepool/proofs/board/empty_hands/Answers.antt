use Rattle.std.proofs.Common.{◌∙◌, ◌++◌, ◌∷◌, [], None, ap}
use Rattle.std.proofs.lemmas.List.{replicate_more}
use Rattle.roster_subtreepool.proofs.board.empty_hands.Goals as goal

pub loop-worker-preserved : goal.loop-worker-preserved
loop-worker-preserved c =
    c.in_ok-push.ensures.items ∙ ap (λ hands. hands ++ None ∷ []) c.loop-worker.invariant
    ∙ replicate_more c.loop-worker._worker None
