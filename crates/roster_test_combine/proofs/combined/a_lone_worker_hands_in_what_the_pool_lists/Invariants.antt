use Rattle.roster_test_combine.proofs.combined.a_lone_worker_hands_in_what_the_pool_lists.Given as goal

-- the ledger is that of the blank
abbrev pub ghosts-hands_in_what_is_listed : goal.ghosts-hands_in_what_is_listed
ghosts-hands_in_what_is_listed g a = record { name = a.blank.name; parts = a.blank.parts }
