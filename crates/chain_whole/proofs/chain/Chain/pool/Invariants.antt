use Rattle.chain_whole.proofs.chain.Chain.pool.Given as goal

abbrev pub ghosts-pool_of : goal.ghosts-pool_of
ghosts-pool_of g a = record { name = a.blank.name; parts = a.blank.parts }
