use Rattle.std.proofs.Common.{arith}
use Rattle.mod_bank.proofs.GiveLemmas.{given-fits}
use Rattle.mod_bank.proofs.tables.Tables.give_coin.Goals as goal

pub overflow_add-held : goal.overflow_add-held
overflow_add-held g c =
    let held = c.balance-held.ensures.amount in
    let most = given-fits c.args.self.now.holdings c.args.place.now.0 c.args.place.now.1 c.args.amount c.requires.backed c.requires.bounded in
    omega arith
