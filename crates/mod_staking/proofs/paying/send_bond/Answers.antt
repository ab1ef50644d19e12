use Rattle.std.proofs.Common.{arith}
use Rattle.base_roles.proofs.HoldingLemmas.{balance-most}
use Rattle.mod_staking.proofs.paying.send_bond.Goals as goal

pub coins_of-requires-clause-most : goal.coins_of-requires-clause-most
coins_of-requires-clause-most g c =
    let enough = c.requires.enough in
    let most = balance-most (g.B.Bank.holdings c.args.g.now.bank) c.args.from.now c.args.g.now.ctx.params.bond_denom c.requires.backed in
    omega (arith, enough, most)
