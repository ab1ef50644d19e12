use Rattle.chain_whole.proofs.chain.Chain.items.Given as goal

abbrev pub ghosts-items_of : goal.ghosts-items_of
ghosts-items_of g a = record { name = a.blank.name; parts = a.blank.parts }
