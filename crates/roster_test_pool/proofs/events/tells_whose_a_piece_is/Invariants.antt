use Rattle.roster_test_pool.proofs.events.tells_whose_a_piece_is.Given as goal

-- the ledger is that of the blank
abbrev pub ghosts-refuses_and_goes_on : goal.ghosts-refuses_and_goes_on
ghosts-refuses_and_goes_on g a = record { name = a.blank.name; parts = a.blank.parts }
