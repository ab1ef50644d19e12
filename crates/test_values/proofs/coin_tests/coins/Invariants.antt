use Rattle.std.proofs.Common.{◌<◌, ◌^◌, All}
use Rattle.test_values.proofs.coin_tests.coins.Given as goal

abbrev pub invariant-loop-name : goal.invariant-loop-name
invariant-loop-name g l = All (λ c. c.amount < 10 ^ 38) l.coins.items
