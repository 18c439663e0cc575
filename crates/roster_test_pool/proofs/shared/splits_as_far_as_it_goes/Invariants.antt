use Rattle.roster_test_pool.proofs.shared.splits_as_far_as_it_goes.Given as goal

-- the ledger is that of the blank
abbrev pub ghosts-is_split : goal.ghosts-is_split
ghosts-is_split g a = record { name = a.blank.name; parts = a.blank.parts }
