use Rattle.std.proofs.Common.{arith}
use Rattle.mod_bank.proofs.SendLemmas.{balance-in_supply}
use Rattle.mod_bank.proofs.tables.Tables.burn_coin.Goals as goal

pub overflow_sub-supply : goal.overflow_sub-supply
overflow_sub-supply g c =
    let within = balance-in_supply c.args.self.now.holdings c.args.place.now.0 c.args.place.now.1 c.requires.affords.backed in
    let supply = c.supply-supply.ensures.amount in
    omega arith
