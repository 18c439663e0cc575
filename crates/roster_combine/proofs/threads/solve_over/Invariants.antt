use Rattle.roster_combine.proofs.threads.solve_over.Given as goal

-- the ledger is that of the blank
abbrev pub ghosts-work_together : goal.ghosts-work_together
ghosts-work_together g a = record { name = a.blank.name; parts = a.blank.parts }
