use Rattle.std.proofs.Common.{◌≡◌, ◌∙◌, ◌≤◌, sym, ap, subst, rules, Err}
use Rattle.base_roles.specs.{Ground.seen, Lent.Unbonds, Holdings.balance_of, Staked.lists_of, World.burnt}
use Rattle.base_types.specs.declared.account.Account.TheVariants as account
use Rattle.rule_modules.specs.{Answers.Leaves, Stakes.pool_of}
use Rattle.mod_staking.specs.Calls.{behind_log}
use Rattle.mod_redelegation.specs.Slashed.{unbonded_burnt}
use Rattle.mod_redelegation.proofs.BurntLemmas.{can_burn, slashed-once, held-burnt, stand-burnt}
use Rattle.mod_redelegation.proofs.GoesOnLemmas.{goes-burnt, leaves_burnt, leaves_fault}
use Rattle.mod_redelegation.proofs.slashing.unbond_and_burn.Goals as goal

pub burn_bond-requires-clause-backed : goal.burn_bond-requires-clause-backed
burn_bond-requires-clause-backed g c = c.in_ok-out.ensures.stand.1.1.in_order.bank

pub burn_bond-requires-clause-enough : goal.burn_bond-requires-clause-enough
burn_bond-requires-clause-enough g c =
    let holdings = g.B.Bank.holdings in
    let v0 = seen holdings c.args.g.now in
    let v1 = seen holdings c.unbond.new.g in
    let d0 = g.D.Unbonder.held c.args.delegations.now in
    let d1 = g.D.Unbonder.held c.unbond.new.self in
    let s = g.D.Unbonder.stake d0 in
    let s1 = g.D.Unbonder.stake d1 in
    let t = c.args.t.now in
    let out = c.in_ok-out.out in
    let stand = c.requires.scene.stand in
    let keeps = c.in_ok-out.ensures.keeps stand.0 stand.1.0 stand.1.1 in
    let iu = c.in_ok-out.ensures.unbonded in
    subst (λ m. out ≤ balance_of v1.bank (account.Module m) v1.ctx.params.bond_denom) (sym c.pool_of.ensures)
    (can_burn c.args.delegator.now t.operator c.args.part out s s1 iu t c.requires.stands _ v0 v1 keeps c.requires.scene.accounts)

pub returns-clause-told : goal.returns-clause-told
returns-clause-told g c = λ h o log.
    let holdings = g.B.Bank.holdings in
    let told = g.H.StakingHooks.tells.told in
    let holds = g.H.StakingHooks.holds in
    let held = g.D.Unbonder.held in
    let lent : Unbonds g.D.Unbonder.Held g.H.StakingHooks.Held = record { stake = g.D.Unbonder.stake; unbond = g.D.Unbonder.unbonds g.H.StakingHooks.Held told } in
    let holdings = g.B.Bank.holdings in
    let v0 = seen holdings c.args.g.now in
    let v1 = seen holdings c.unbond.new.g in
    let d0 = g.D.Unbonder.held c.args.delegations.now in
    let d1 = g.D.Unbonder.held c.unbond.new.self in
    let s = g.D.Unbonder.stake d0 in
    let s1 = g.D.Unbonder.stake d1 in
    let t = c.args.t.now in
    let out = c.in_ok-out.out in
    let stand = c.requires.scene.stand in
    let keeps = c.in_ok-out.ensures.keeps stand.0 stand.1.0 stand.1.1 in
    let iu = c.in_ok-out.ensures.unbonded in
    let v2 = seen holdings c.burn_bond.new.g in
    let is_burnt : v2 ≡ burnt (pool_of t.status) v1.ctx.params.bond_denom out v1 = c.in_ok-burn_bond.ensures.burnt ∙ ap (λ m. burnt m v1.ctx.params.bond_denom out v1) c.pool_of.ensures in
    let backed = c.in_ok-out.ensures.stand.1.1.in_order.bank in
    leaves_burnt lent t c.args.delegator.now c.args.part (behind_log log d0 h v0) d1 (holds c.unbond.new.hooks) v1 v2 out (c.in_ok-out.ensures.told h o log) keeps.ctx is_burnt

pub returns-clause-scene : goal.returns-clause-scene
returns-clause-scene g c =
    let holdings = g.B.Bank.holdings in
    let v0 = seen holdings c.args.g.now in
    let v1 = seen holdings c.unbond.new.g in
    let d0 = g.D.Unbonder.held c.args.delegations.now in
    let d1 = g.D.Unbonder.held c.unbond.new.self in
    let s = g.D.Unbonder.stake d0 in
    let s1 = g.D.Unbonder.stake d1 in
    let t = c.args.t.now in
    let out = c.in_ok-out.out in
    let stand = c.requires.scene.stand in
    let keeps = c.in_ok-out.ensures.keeps stand.0 stand.1.0 stand.1.1 in
    let iu = c.in_ok-out.ensures.unbonded in
    let v2 = seen holdings c.burn_bond.new.g in
    let is_burnt : v2 ≡ burnt (pool_of t.status) v1.ctx.params.bond_denom out v1 = c.in_ok-burn_bond.ensures.burnt ∙ ap (λ m. burnt m v1.ctx.params.bond_denom out v1) c.pool_of.ensures in
    let backed = c.in_ok-out.ensures.stand.1.1.in_order.bank in
    let p = c.in_ok-out.ensures.stand in
    record {
      sound = c.in_ok-out.ensures.sound;
      stand = (p.0, (p.1.0, stand-burnt c.args.delegator.now t.operator c.args.part out s s1 iu t c.requires.stands _ v0 v1 keeps c.requires.scene.accounts backed v2 is_burnt c.in_ok-burn_bond.ensures.backed g.H.StakingHooks.tells p.0 (lists_of s1) p.1.1));
      accounts = held-burnt c.args.delegator.now t.operator c.args.part out s s1 iu t c.requires.stands _ v0 v1 keeps c.requires.scene.accounts backed v2 is_burnt c.in_ok-burn_bond.ensures.backed;
    }

pub returns-clause-slashed : goal.returns-clause-slashed
returns-clause-slashed g c =
    let holdings = g.B.Bank.holdings in
    let v0 = seen holdings c.args.g.now in
    let v1 = seen holdings c.unbond.new.g in
    let d0 = g.D.Unbonder.held c.args.delegations.now in
    let d1 = g.D.Unbonder.held c.unbond.new.self in
    let s = g.D.Unbonder.stake d0 in
    let s1 = g.D.Unbonder.stake d1 in
    let t = c.args.t.now in
    let out = c.in_ok-out.out in
    let stand = c.requires.scene.stand in
    let keeps = c.in_ok-out.ensures.keeps stand.0 stand.1.0 stand.1.1 in
    let iu = c.in_ok-out.ensures.unbonded in
    let v2 = seen holdings c.burn_bond.new.g in
    let is_burnt : v2 ≡ burnt (pool_of t.status) v1.ctx.params.bond_denom out v1 = c.in_ok-burn_bond.ensures.burnt ∙ ap (λ m. burnt m v1.ctx.params.bond_denom out v1) c.pool_of.ensures in
    let backed = c.in_ok-out.ensures.stand.1.1.in_order.bank in
    slashed-once c.args.delegator.now t.operator c.args.part out s s1 iu t c.requires.stands _ v0 v1 keeps c.requires.scene.accounts backed v2 is_burnt c.in_ok-burn_bond.ensures.backed

pub returns-clause-goes_on : goal.returns-clause-goes_on
returns-clause-goes_on g c =
    goes-burnt g.B.Bank.marks g.B.Bank.most_steps g.H.StakingHooks.marks g.D.Unbonder.marks c.args.g.now c.unbond.new.g c.burn_bond.new.g c.args.hooks.now c.unbond.new.hooks c.args.delegations.now c.unbond.new.self
    (record { undone = c.unbond.ensures.undone; bank = c.unbond.ensures.bank; hooks = c.unbond.ensures.hook_marks; delegations = c.unbond.ensures.marks }) c.burn_bond.ensures.undone c.burn_bond.ensures.bank

pub returns-in_err-out-clause-told : goal.returns-in_err-out-clause-told
returns-in_err-out-clause-told g c = λ h o log.
    let holdings = g.B.Bank.holdings in
    let told = g.H.StakingHooks.tells.told in
    let holds = g.H.StakingHooks.holds in
    let held = g.D.Unbonder.held in
    let lent : Unbonds g.D.Unbonder.Held g.H.StakingHooks.Held = record { stake = g.D.Unbonder.stake; unbond = g.D.Unbonder.unbonds g.H.StakingHooks.Held told } in
    let d0 = held c.args.delegations.now in
    let d1 = held c.unbond.new.self in
    let v0 = seen holdings c.args.g.now in
    let v1 = seen holdings c.unbond.new.g in
    let w = behind_log log d0 h v0 in
    let fault = c.in_err-out.field-0.0 in
    let given : c.from_residual.result ≡ Err fault = search rules in
    subst (Leaves (unbonded_burnt lent c.args.t.now c.args.delegator.now c.args.part w) d1 (holds c.unbond.new.hooks) v1) (sym given)
    (leaves_fault (lent.unbond c.args.delegator.now c.args.t.now.operator c.args.part w) _ d1 d1 (holds c.unbond.new.hooks) (holds c.unbond.new.hooks) v1 v1 fault (c.in_err-out.ensures.told h o log))
