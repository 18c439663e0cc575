use Rattle.roster_test_pool.proofs.shared.takes_turns_in_one_thread.Given as goal

-- the ledger is that of the blank
abbrev pub ghosts-takes_turns : goal.ghosts-takes_turns
ghosts-takes_turns g a = record { name = a.blank.name; parts = a.blank.parts }
