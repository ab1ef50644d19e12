use Rattle.test_modules.proofs.unbonding_trials.entries_are_kept_and_listed.Given as goal

abbrev pub ghosts-tried : goal.ghosts-tried
ghosts-tried g a = record { name = a.blank.name; parts = a.blank.parts }
