use Rattle.std.proofs.Common.{sym}
use Rattle.base_roles.specs.Ground.{seen}
use Rattle.mod_redelegation.proofs.{AskedLemmas.leaving-given, LeftLemmas.removable}
use Rattle.mod_redelegation.proofs.redelegations.Redelegations.can_begin.Goals as goal

pub remove-out-requires-clause-tokens : goal.remove-out-requires-clause-tokens
remove-out-requires-clause-tokens g c =
    let s = c.args.staking.now.staked in
    let l = leaving-given c.args.delegator.now c.args.source.now c.args.coin.now s (seen g.B.Bank.holdings c.args.g.now) (c.in_ok-asked.asked.0, c.in_ok-asked.asked.1) (sym c.in_ok-asked.ensures) in
    (removable c.args.delegator.now c.args.source.now s c.in_ok-asked.asked.0 c.in_ok-asked.asked.1 c.requires.sound l).tokens

pub remove-out-requires-clause-some : goal.remove-out-requires-clause-some
remove-out-requires-clause-some g c =
    let s = c.args.staking.now.staked in
    let l = leaving-given c.args.delegator.now c.args.source.now c.args.coin.now s (seen g.B.Bank.holdings c.args.g.now) (c.in_ok-asked.asked.0, c.in_ok-asked.asked.1) (sym c.in_ok-asked.ensures) in
    (removable c.args.delegator.now c.args.source.now s c.in_ok-asked.asked.0 c.in_ok-asked.asked.1 c.requires.sound l).some

pub remove-out-requires-clause-part : goal.remove-out-requires-clause-part
remove-out-requires-clause-part g c =
    let s = c.args.staking.now.staked in
    let l = leaving-given c.args.delegator.now c.args.source.now c.args.coin.now s (seen g.B.Bank.holdings c.args.g.now) (c.in_ok-asked.asked.0, c.in_ok-asked.asked.1) (sym c.in_ok-asked.ensures) in
    (removable c.args.delegator.now c.args.source.now s c.in_ok-asked.asked.0 c.in_ok-asked.asked.1 c.requires.sound l).part
