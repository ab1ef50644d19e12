use Rattle.chain_whole.proofs.chain.Chain.supply.Given as goal

abbrev pub ghosts-supply_of : goal.ghosts-supply_of
ghosts-supply_of g a = record { name = a.blank.name; parts = a.blank.parts }
