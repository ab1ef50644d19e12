use Rattle.base_roles.specs.Holdings.{coins_of}
use Rattle.mod_bank.proofs.PurseLemmas.{coins-ordered, collected-more, collected-shorter}
use Rattle.mod_bank.proofs.tables.Tables.coins_of.Goals as goal

pub loop-coin-smaller : goal.loop-coin-smaller
loop-coin-smaller g c =
    collected-shorter (λ x. (x.denom, x.amount)) (coins_of c.args.self.now.holdings c.args.who.now) c.loop-coin.after c.in-Some.coin
    (coins-ordered c.balances.result.now.entries c.args.self.now.holdings c.args.who.now c.balances.ensures.entries c.known.ensures.ordered) c.in-Some.ensures

pub loop-coin-preserved : goal.loop-coin-preserved
loop-coin-preserved g c =
    collected-more (λ x. (x.denom, x.amount)) (coins_of c.args.self.now.holdings c.args.who.now) c.loop-coin.coins.items c.push.new.self.items c.loop-coin.after c.in-Some.coin
    (coins-ordered c.balances.result.now.entries c.args.self.now.holdings c.args.who.now c.balances.ensures.entries c.known.ensures.ordered) c.loop-coin.invariant c.in-Some.ensures c.in_ok-push.ensures.items
