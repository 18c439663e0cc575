use Rattle.roster_test_combine.proofs.combined.a_list_for_another_worker_is_searched_again.Given as goal

-- the ledger is that of the blank
abbrev pub ghosts-combined : goal.ghosts-combined
ghosts-combined g a = record { name = a.blank.name; parts = a.blank.parts }
