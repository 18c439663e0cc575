use Rattle.roster_test_combine.proofs.combined.what_is_listed_is_combined.Given as goal

-- the ledger is that of the blank
abbrev pub ghosts-combined : goal.ghosts-combined
ghosts-combined g a = record { name = a.blank.name; parts = a.blank.parts }
