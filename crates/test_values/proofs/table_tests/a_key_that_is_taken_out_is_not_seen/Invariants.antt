use Rattle.test_values.proofs.table_tests.a_key_that_is_taken_out_is_not_seen.Given as goal

abbrev pub ghosts-seen_without_2 : goal.ghosts-seen_without_2
ghosts-seen_without_2 g a = record { name = a.blank.name; parts = a.blank.parts }
