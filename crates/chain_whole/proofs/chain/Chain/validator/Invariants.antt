use Rattle.chain_whole.proofs.chain.Chain.validator.Given as goal

abbrev pub ghosts-validator_of : goal.ghosts-validator_of
ghosts-validator_of g a = record { name = a.blank.name; parts = a.blank.parts }
