use Rattle.chain_whole.proofs.chain.Chain.pending_to.Given as goal

abbrev pub ghosts-pending_to : goal.ghosts-pending_to
ghosts-pending_to g a = record { name = a.blank.name; parts = a.blank.parts }
