use Rattle.roster_test_pool.proofs.shared.two_threads_share_it_out.Given as goal

-- the ledger is that of the blank
abbrev pub ghosts-shares_out : goal.ghosts-shares_out
ghosts-shares_out g a = record { name = a.blank.name; parts = a.blank.parts }
