use Rattle.test_values.proofs.text_tests.a_caller_that_counts_nothing_starts_from_a_blank.Given as goal

abbrev pub ghosts-ticks_twice : goal.ghosts-ticks_twice
ghosts-ticks_twice a = record { name = a.blank.name; parts = a.blank.parts }
