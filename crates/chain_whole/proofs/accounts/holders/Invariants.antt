use Rattle.std.proofs.Common.{◌≡◌, take, map, All}
use Rattle.chain_whole.proofs.StartLemmas.{pair_of, HasMoney}
use Rattle.chain_whole.proofs.accounts.holders.Given as goal

abbrev pub invariant-loop-account : goal.invariant-loop-account
invariant-loop-account l = (l.pairs.items ≡ map pair_of (take l.account-index l.accounts)) × All HasMoney (take l.account-index l.accounts)
