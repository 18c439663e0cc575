use Rattle.std.proofs.lemmas.Bool.{both_ways}
use Rattle.roster_model.specs.Settled.{Anywhere}
use Rattle.roster_model.proofs.SettledLemmas.{Settles-illegal}
use Rattle.roster_test_reference.proofs.plain.offer.Goals as goal

pub returns-else-branch : goal.returns-else-branch
returns-else-branch c =
    Settles-illegal c.args.problem.now Anywhere c.args.best.now c.args.places.now c.requires.held
    (λ legal. both_ways _ c.if-branch.false (c.in_ok-is_legal_roster.ensures.1 legal))
