use Rattle.test_values.proofs.row_tests.records_of_two_kinds_are_listed.Given as goal

abbrev pub ghosts-listed_after : goal.ghosts-listed_after
ghosts-listed_after g a = record { name = a.blank.name; parts = a.blank.parts }
