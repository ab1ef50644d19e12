use Rattle.chain_whole.proofs.chain.Chain.settle.Given as goal

abbrev pub ghosts-settle_modules : goal.ghosts-settle_modules
ghosts-settle_modules g a = record { name = a.blank.name; parts = a.blank.parts }
