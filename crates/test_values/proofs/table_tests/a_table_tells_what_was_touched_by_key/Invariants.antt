use Rattle.test_values.proofs.table_tests.a_table_tells_what_was_touched_by_key.Given as goal

abbrev pub ghosts-gone_back : goal.ghosts-gone_back
ghosts-gone_back g a = record { name = a.blank.name; parts = a.blank.parts }
