use Rattle.std.specs.Prelude.{Some}
use Rattle.test_history.proofs.keeper_tests.a_history_goes_on_where_it_stands.Given as goal

abbrev pub ghosts-commit_kept : goal.ghosts-commit_kept
ghosts-commit_kept g a = record { name = a.keeper.ghost_name; rows = Some a.keeper.now }
