use Rattle.std.proofs.Common.{◌≡◌, drop, map}
use Rattle.mod_statement.{specs.Sums.coins_shared, proofs.Walks.seen}
use Rattle.mod_statement.proofs.sums.Sums.with_shares.Given as goal

abbrev pub invariant-loop-coin : goal.invariant-loop-coin
invariant-loop-coin l = coins_shared l.tokens l.fn.self (map seen l.coins) ≡ coins_shared l.tokens l.sums (map seen (drop l.coin-index l.coins))
