use Rattle.test_values.proofs.table_tests.a_settled_table_lists_anew.Given as goal

abbrev pub ghosts-touched_again : goal.ghosts-touched_again
ghosts-touched_again g a = record { name = a.blank.name; parts = a.blank.parts }
