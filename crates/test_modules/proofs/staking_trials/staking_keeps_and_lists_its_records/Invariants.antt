use Rattle.test_modules.proofs.staking_trials.staking_keeps_and_lists_its_records.Given as goal

abbrev pub ghosts-tried : goal.ghosts-tried
ghosts-tried g a = record { name = a.blank.name; parts = a.blank.parts }
