use Rattle.test_values.proofs.role_tests.a_short_sender_between_hooks_is_refused.Given as goal

abbrev pub ghosts-outcome_of_sending : goal.ghosts-outcome_of_sending
ghosts-outcome_of_sending g a = record { name = a.blank.name; parts = a.blank.parts }
