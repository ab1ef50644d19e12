use Rattle.test_values.proofs.table_tests.a_key_that_was_put_again_goes_back.Given as goal

abbrev pub ghosts-values_of_1 : goal.ghosts-values_of_1
ghosts-values_of_1 g a = record { name = a.blank.name; parts = a.blank.parts }
