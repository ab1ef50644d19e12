use Rattle.std.proofs.Common.{◌≡◌, ◌++◌, length, map}
use Rattle.base_types.specs.Orders.{denom_cmp}
use Rattle.base_roles.specs.Holdings.{coins_of}
use Rattle.base_records.proofs.WalkLemmas.{left_of}
use Rattle.mod_bank.proofs.tables.Tables.coins_of.Given as goal

abbrev pub invariant-loop-coin : goal.invariant-loop-coin
invariant-loop-coin g l = map (λ c. (c.denom, c.amount)) l.coins.items ++ left_of denom_cmp (coins_of l.self.holdings l.who) l.after ≡ coins_of l.self.holdings l.who

abbrev pub decreases-loop-coin : goal.decreases-loop-coin
decreases-loop-coin g l = length (left_of denom_cmp (coins_of l.self.holdings l.who) l.after)
