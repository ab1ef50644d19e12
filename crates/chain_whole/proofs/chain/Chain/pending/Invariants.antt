use Rattle.chain_whole.proofs.chain.Chain.pending.Given as goal

abbrev pub ghosts-pending_of : goal.ghosts-pending_of
ghosts-pending_of g a = record { name = a.blank.name; parts = a.blank.parts }
