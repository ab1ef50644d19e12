use Rattle.std.proofs.Common.{ℕ, List, ◌≤◌, ◌^◌, subst, IfOk}
use Rattle.base_coins.specs.Coins.{amount_of}
use Rattle.test_modules.proofs.staking_tests.purse.Goals as goal

pub returns : goal.returns
returns g c = subst (λ r. IfOk r (λ coins. (d : List ℕ) → amount_of coins d ≤ 10 ^ 12)) c.expect.ensures c.coins.ensures
