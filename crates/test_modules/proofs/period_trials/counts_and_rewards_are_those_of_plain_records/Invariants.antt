use Rattle.test_modules.proofs.period_trials.counts_and_rewards_are_those_of_plain_records.Given as goal

abbrev pub ghosts-tried : goal.ghosts-tried
ghosts-tried g a = record { name = a.blank.name; parts = a.blank.parts }
