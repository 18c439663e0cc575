use Rattle.roster_test_pool.proofs.events.tells_who_may_take.Given as goal

-- the ledger is that of the blank
abbrev pub ghosts-stays_open : goal.ghosts-stays_open
ghosts-stays_open g a = record { name = a.blank.name; parts = a.blank.parts }
