use Rattle.std.specs.Prelude.{Some}
use Rattle.test_history.proofs.keeper_tests.what_commits_replace_is_told_of_past_heights.Given as goal

abbrev pub ghosts-three_commits : goal.ghosts-three_commits
ghosts-three_commits g a = record { name = a.below.ghost_name; rows = Some a.below.now }
