use Rattle.mod_bank.proofs.CoinLemmas.{first_at, next_at}
use Rattle.mod_bank.proofs.tables.Tables.coin_above.Goals as goal

pub returns-in-None : goal.returns-in-None
returns-in-None g c =
    first_at c.args.who.now c.args.self.now.holdings c.balances-balances.result.now.entries c.balances-balances.ensures.entries c.known.ensures.ordered c.args.after _ _ c.least_denom.result
    c.own_coin.ensures c.balances-balances.ensures.named c.seek.ensures.from c.least_denom.ensures c.in-None.is

pub returns-in-Some : goal.returns-in-Some
returns-in-Some g c =
    next_at c.args.who.now c.args.self.now.holdings c.balances-balances.result.now.entries c.balances-balances.ensures.entries c.known.ensures.ordered c.args.after _ _ c.in-Some.denom
    c.own_coin-in-Some.ensures c.next.ensures.above c.in-Some.is
