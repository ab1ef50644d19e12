use Rattle.std.proofs.Common.{◌≡◌, drop, map}
use Rattle.mod_statement.{specs.Slack.denoms_with, proofs.Walks.seen}
use Rattle.mod_statement.proofs.denoms.put_all.Given as goal

abbrev pub invariant-loop-coin : goal.invariant-loop-coin
invariant-loop-coin l = denoms_with l.fn.denoms.items l.coins ≡ denoms_with l.denoms.items (map seen (drop l.coin-index l.coin-items))
