use Rattle.roster_test_combine.proofs.combined.without_a_list_all_is_searched_again.Given as goal

-- the ledger is that of the blank
abbrev pub ghosts-combined : goal.ghosts-combined
ghosts-combined g a = record { name = a.blank.name; parts = a.blank.parts }
