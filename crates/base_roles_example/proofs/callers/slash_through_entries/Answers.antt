use Rattle.base_roles.specs.{Ground.seen, Staked.{lists_of, bonded_tokens, other_tokens}}
use Rattle.base_roles.proofs.StakeLemmas.{holds-rest, holds-burned, stands-burned}
use Rattle.base_roles_example.proofs.StakeLemmas.{stands-burnt}
use Rattle.base_roles_example.proofs.callers.slash_through_entries.Goals as goal

pub slash_unbondings-requires-clause-account : goal.slash_unbondings-requires-clause-account
slash_unbondings-requires-clause-account g c =
    let s = g.D.Unbonder.stake (g.D.Unbonder.held c.args.delegations.now) in
    holds-rest (seen g.B.Bank.holdings c.args.g.now) (bonded_tokens s) (other_tokens s) (g.U.UnbondingSlash.owed (g.U.UnbondingSlash.held c.args.unbondings.now)) c.requires.accounts

pub slash_redelegations-requires-clause-stand : goal.slash_redelegations-requires-clause-stand
slash_redelegations-requires-clause-stand g c =
    let h = g.H.StakingHooks in
    stands-burned h.tells (h.holds c.args.hooks.now) (seen g.B.Bank.holdings c.args.g.now) (seen g.B.Bank.holdings c.slash_unbondings.new.g) _ _ (lists_of (g.D.Unbonder.stake (g.D.Unbonder.held c.args.delegations.now)))
    c.slash_unbondings.ensures.undone.ctx c.in_ok-some.ensures.burned c.in_ok-some.ensures.in_order c.requires.stand

pub slash_redelegations-requires-clause-accounts : goal.slash_redelegations-requires-clause-accounts
slash_redelegations-requires-clause-accounts g c =
    let s = g.D.Unbonder.stake (g.D.Unbonder.held c.args.delegations.now) in
    let owed = g.U.UnbondingSlash.owed (g.U.UnbondingSlash.held c.args.unbondings.now) in
    let owed2 = g.U.UnbondingSlash.owed (g.U.UnbondingSlash.held c.slash_unbondings.new.self) in
    let v = seen g.B.Bank.holdings c.slash_unbondings.new.g in
    holds-burned (seen g.B.Bank.holdings c.args.g.now) v (bonded_tokens s) (other_tokens s) owed owed2 c.slash_unbondings.ensures.undone.ctx c.in_ok-some.ensures.burned c.requires.accounts

pub burn_known-requires : goal.burn_known-requires
burn_known-requires g c = c.in_ok-more.ensures.stand.1.1.in_order.bank

pub returns-clause-stand : goal.returns-clause-stand
returns-clause-stand g c =
    let h = g.H.StakingHooks in
    stands-burnt h.tells (h.holds c.slash_redelegations.new.hooks) _ (seen g.B.Bank.holdings c.slash_redelegations.new.g) (seen g.B.Bank.holdings c.burn_known.new.g) (lists_of (g.D.Unbonder.stake (g.D.Unbonder.held c.slash_redelegations.new.delegations)))
    c.in_ok-burn_known.ensures c.in_ok-more.ensures.stand
