use Rattle.std.proofs.Common.{◌+◌, ◌*◌, ◌^◌, ◌≤◌, ap, arith}
use Rattle.mod_bank.proofs.SendLemmas.{there-fits}
use Rattle.mod_bank.proofs.tables.Tables.move_coin.Goals as goal

pub overflow_add-there : goal.overflow_add-there
overflow_add-there g c =
    let most : c.balance-there.result + c.args.coin.now.amount ≤ 2 * 10 ^ 18 =
    there-fits c.args.self.now.holdings c.set_balance.new.self.holdings c.args.from.now c.args.to.now c.args.coin.now.denom c.args.coin.now.amount c.balance-held.result c.balance-there.result
    c.requires.affords.backed c.requires.affords.enough c.balance-held.ensures.amount (ap (λ b. b.holdings) c.in_ok-set_balance.ensures.changes.ok) c.balance-there.ensures.amount in
    omega arith
