use Rattle.test_values.proofs.forgetting_tests.the_latest_height_is_told.Given as goal

abbrev pub ghosts-period_alone : goal.ghosts-period_alone
ghosts-period_alone g a = record { name = a.blank.name; parts = a.blank.parts }

abbrev pub ghosts-periods_of_both : goal.ghosts-periods_of_both
ghosts-periods_of_both g a = record { name = a.blank.name; parts = a.blank.parts }
