use Rattle.roster_combine.proofs.replaying.replay_over.Given as goal

-- the ledger is that of the blank
abbrev pub ghosts-replay_steps : goal.ghosts-replay_steps
ghosts-replay_steps a = record { name = a.blank.name; parts = a.blank.parts }
