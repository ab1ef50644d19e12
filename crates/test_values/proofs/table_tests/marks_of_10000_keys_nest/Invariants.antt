use Rattle.test_values.proofs.table_tests.marks_of_10000_keys_nest.Given as goal

abbrev pub ghosts-last_values : goal.ghosts-last_values
ghosts-last_values g a = record { name = a.blank.name; parts = a.blank.parts }
