use Rattle.chain_whole.proofs.chain.Chain.apply_block.Given as goal

abbrev pub ghosts-apply : goal.ghosts-apply
ghosts-apply g a = record { name = a.blank.name; parts = a.blank.parts }
