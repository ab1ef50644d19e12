use Rattle.store_resuming.proofs.resuming.loaded.Given as goal

abbrev pub ghosts-modules_of : goal.ghosts-modules_of
ghosts-modules_of a = record { name = a.blank.name; parts = a.blank.parts }
