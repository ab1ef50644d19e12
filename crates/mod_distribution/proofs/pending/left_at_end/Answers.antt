use Rattle.std.proofs.Common.{◌≡◌, sym, subst, None}
use Rattle.base_coins.specs.Coins.{first_short}
use Rattle.mod_allocation.proofs.CoinLemmas.{smaller_enough}
use Rattle.mod_distribution.proofs.pending.left_at_end.Goals as goal

pub less-requires : goal.less-requires
less-requires c = record {
  enough = subst (λ r. first_short c.args.purse.now.outstanding r ≡ None) (sym c.in_ok-lost.ensures.smaller) (smaller_enough c.args.purse.now.current c.args.purse.now.outstanding c.len.ensures.money);
}
