use Rattle.roster_test_pool.proofs.shared.stops_with_spans_left.Given as goal

-- the ledger is that of the blank
abbrev pub ghosts-stops : goal.ghosts-stops
ghosts-stops g a = record { name = a.blank.name; parts = a.blank.parts }
