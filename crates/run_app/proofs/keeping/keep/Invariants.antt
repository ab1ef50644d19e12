use Rattle.run_app.proofs.keeping.keep.Given as goal

abbrev pub ghosts-carry_out_kept : goal.ghosts-carry_out_kept
ghosts-carry_out_kept g a = record { name = a.keeper.ghost_name; rows = g.D.Keeper.rows a.keeper.now }
