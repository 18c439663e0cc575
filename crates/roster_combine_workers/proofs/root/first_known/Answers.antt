use Rattle.std.proofs.Common.{refl, sym, ◌∙◌, subst}
use Rattle.roster_model.specs.Settled.{IsHeld}
use Rattle.roster_model.proofs.RosterLemmas.{all_open_legal}
use Rattle.roster_combine_workers.proofs.root.first_known.Goals as goal

pub returns-clause-held : goal.returns-clause-held
returns-clause-held c =
    subst (IsHeld c.args.problem.now) (sym (c.in_ok-known-2.ensures.ok ∙ c.in_ok-known.ensures))
    (record { legal = all_open_legal c.args.problem.now; cost = refl })
