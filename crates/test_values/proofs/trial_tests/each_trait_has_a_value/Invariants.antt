use Rattle.test_values.proofs.trial_tests.each_trait_has_a_value.Given as goal

abbrev pub ghosts-trials_are_slashed : goal.ghosts-trials_are_slashed
ghosts-trials_are_slashed g a = record { name = a.blank.name; parts = a.blank.parts }

abbrev pub ghosts-wants_memory : goal.ghosts-wants_memory
ghosts-wants_memory g a = record { name = a.blank.name; parts = a.blank.parts }

abbrev pub ghosts-is_banned : goal.ghosts-is_banned
ghosts-is_banned g a = record { name = a.blank.name; parts = a.blank.parts }

abbrev pub ghosts-marks_nest : goal.ghosts-marks_nest
ghosts-marks_nest g a = record { name = a.blank.name; parts = a.blank.parts }
