use Rattle.test_records.proofs.loading_tests.again.Given as goal

abbrev pub ghosts-modules_of : goal.ghosts-modules_of
ghosts-modules_of g a = record { name = a.blank.name; parts = a.blank.parts }

abbrev pub ghosts-told : goal.ghosts-told
ghosts-told g a = record { name = a.blank.name; parts = a.blank.parts }
