use Rattle.std.proofs.Common.{◌≡◌, ◌∙◌, ap, sym, subst, arith, rules, Ok, ◌+◌}
use Rattle.std.proofs.lemmas.Grind.{common_steps}
use Rattle.base_roles.specs.{Ground.seen, Hooks.{Stand, after}}
use Rattle.base_roles.specs.{Staked.{lists_of, put_validator, bonded_tokens, other_tokens}, StakeChanges.HoldsStake}
use Rattle.base_roles.specs.declared.calls.Hook.TheVariants.{Modified as modified}
use Rattle.base_roles.proofs.HookLemmas.{Stand-after_ok, picked}
use Rattle.rule_modules.specs.{Delegating.hook_before, Stakes.put_delegation}
use Rattle.rule_modules.proofs.SoundLemmas.{IsSoundAt, to_points, from_points}
use Rattle.mod_staking.specs.Calls.{origin_of}
use Rattle.mod_staking.proofs.DelegateLemmas.{ready-before, stand-before, origin-before, can_pay, reached, shares-given, held-most, ready-delegated, sound-delegated, lists-delegated_is, holds-delegated, keeps-ok, grown, ok_is}
use Rattle.mod_staking.proofs.GroundLemmas.{holds-kept}
use Rattle.mod_staking.proofs.staking.Staking.delegate_to.Goals as goal

pub shares_given-requires : goal.shares_given-requires
shares_given-requires g c = let h = to_points c.requires.scene.hooked.sound.0 c.args.self.now.staked c.requires.scene.hooked.sound.1 in (h.validators c.args.v.now.operator c.args.v.now c.requires.stands).tokens

pub call_before-requires : goal.call_before-requires
call_before-requires g c =
    let s = c.args.self.now.staked in
    let h = to_points c.requires.scene.hooked.sound.0 s c.requires.scene.hooked.sound.1 in (
      c.requires.scene.hooked.stand.0,
      (
        c.requires.scene.hooked.stand.1.0,
        (
          lists_of s,
          ready-before c.requires.scene.hooked.sound.0 s h c.args.v.now c.requires.stands c.args.delegator.now g.H.StakingHooks.tells c.requires.scene.hooked.stand.0 (seen g.B.Bank.holdings c.args.g.now) c.held-held.result (sym c.held-held.ensures.value) c.requires.scene.hooked.stand.1.1,
        ),
      ),
    )

pub pay_in-requires-clause-backed : goal.pay_in-requires-clause-backed
pay_in-requires-clause-backed g c =
    let s = c.args.self.now.staked in
    let h = to_points c.requires.scene.hooked.sound.0 s c.requires.scene.hooked.sound.1 in
    let p = picked (g.H.StakingHooks.tells.told c.requires.scene.hooked.stand.0 (hook_before c.args.v.now c.args.delegator.now c.held-held.result) (seen g.B.Bank.holdings c.args.g.now)) (g.H.StakingHooks.holds c.call_before.new.hooks) (seen g.B.Bank.holdings c.call_before.new.g) (c.in_ok-call_before.ensures.told c.requires.scene.hooked.stand.0 c.requires.scene.hooked.stand.1.0) in
    (stand-before c.requires.scene.hooked.sound.0 s h c.args.v.now c.requires.stands c.args.delegator.now c.held-held.result (sym c.held-held.ensures.value) g.H.StakingHooks.tells g.met.H.StakingHooks.lawful
    c.requires.scene.hooked.stand.0 p.0 (seen g.B.Bank.holdings c.args.g.now) (seen g.B.Bank.holdings c.call_before.new.g) c.requires.scene.hooked.stand.1.1 p.1.1).in_order.bank

pub pay_in-requires-clause-enough : goal.pay_in-requires-clause-enough
pay_in-requires-clause-enough g c =
    let s = c.args.self.now.staked in
    let h = to_points c.requires.scene.hooked.sound.0 s c.requires.scene.hooked.sound.1 in
    let p = picked (g.H.StakingHooks.tells.told c.requires.scene.hooked.stand.0 (hook_before c.args.v.now c.args.delegator.now c.held-held.result) (seen g.B.Bank.holdings c.args.g.now)) (g.H.StakingHooks.holds c.call_before.new.hooks) (seen g.B.Bank.holdings c.call_before.new.g) (c.in_ok-call_before.ensures.told c.requires.scene.hooked.stand.0 c.requires.scene.hooked.stand.1.0) in
    can_pay (origin_of c.args.origin) c.args.amount s (seen g.B.Bank.holdings c.call_before.new.g)
    (origin-before c.requires.scene.hooked.sound.0 s h c.args.v.now c.requires.stands c.args.delegator.now c.held-held.result (sym c.held-held.ensures.value) g.H.StakingHooks.tells g.met.H.StakingHooks.lawful
    c.requires.scene.hooked.stand.0 p.0 (seen g.B.Bank.holdings c.args.g.now) (seen g.B.Bank.holdings c.call_before.new.g) c.requires.scene.hooked.stand.1.1 p.1.1
    (origin_of c.args.origin) c.args.amount c.requires.origin)

pub overflow_add-grown : goal.overflow_add-grown
overflow_add-grown g c =
    let s = c.args.self.now.staked in
    let h = to_points c.requires.scene.hooked.sound.0 s c.requires.scene.hooked.sound.1 in
    let p = picked (g.H.StakingHooks.tells.told c.requires.scene.hooked.stand.0 (hook_before c.args.v.now c.args.delegator.now c.held-held.result) (seen g.B.Bank.holdings c.args.g.now)) (g.H.StakingHooks.holds c.call_before.new.hooks) (seen g.B.Bank.holdings c.call_before.new.g) (c.in_ok-call_before.ensures.told c.requires.scene.hooked.stand.0 c.requires.scene.hooked.stand.1.0) in
    let at_u = reached c.requires.scene.hooked.sound.0 s h c.args.v.now c.requires.stands c.args.delegator.now c.held-held.result (sym c.held-held.ensures.value) g.H.StakingHooks.tells g.met.H.StakingHooks.lawful
    c.requires.scene.hooked.stand.0 p.0 (seen g.B.Bank.holdings c.args.g.now) (seen g.B.Bank.holdings c.call_before.new.g) c.requires.scene.hooked.stand.1.1 p.1.1
    (origin_of c.args.origin) c.args.amount c.requires.origin c.requires.some c.requires.scene.accounts (seen g.B.Bank.holdings c.pay_in.new.g) c.in_ok-pay_in.ensures.paid c.in_ok-pay_in.ensures.backed in
    let few = at_u.tokens in
    omega (arith, few)

pub total_of-shares-requires : goal.total_of-shares-requires
total_of-shares-requires g c =
    let s = c.args.self.now.staked in
    let h = to_points c.requires.scene.hooked.sound.0 s c.requires.scene.hooked.sound.1 in
    let most = held-most c.requires.scene.hooked.sound.0 s h c.args.v.now c.requires.stands c.args.delegator.now c.held-held.result (sym c.held-held.ensures.value) in
    let given = shares-given c.args.v.now c.args.amount c.in_ok-issued.issued (sym c.in_ok-issued.ensures) in
    let below = given.below in
    omega (arith, most, below)

pub after_delegation_modified-requires : goal.after_delegation_modified-requires
after_delegation_modified-requires g c =
    let s = c.args.self.now.staked in
    let h = to_points c.requires.scene.hooked.sound.0 s c.requires.scene.hooked.sound.1 in
    let p = picked (g.H.StakingHooks.tells.told c.requires.scene.hooked.stand.0 (hook_before c.args.v.now c.args.delegator.now c.held-held.result) (seen g.B.Bank.holdings c.args.g.now)) (g.H.StakingHooks.holds c.call_before.new.hooks) (seen g.B.Bank.holdings c.call_before.new.g) (c.in_ok-call_before.ensures.told c.requires.scene.hooked.stand.0 c.requires.scene.hooked.stand.1.0) in
    let given = shares-given c.args.v.now c.args.amount c.in_ok-issued.issued (sym c.in_ok-issued.ensures) in
    let shares : Ok c.unwrap.result ≡ Ok (c.args.v.now.shares + c.in_ok-issued.issued) = sym c.unwrap.ensures ∙ c.add.ensures ∙ given.sum in
    let at_u = reached c.requires.scene.hooked.sound.0 s h c.args.v.now c.requires.stands c.args.delegator.now c.held-held.result (sym c.held-held.ensures.value) g.H.StakingHooks.tells g.met.H.StakingHooks.lawful
    c.requires.scene.hooked.stand.0 p.0 (seen g.B.Bank.holdings c.args.g.now) (seen g.B.Bank.holdings c.call_before.new.g) c.requires.scene.hooked.stand.1.1 p.1.1
    (origin_of c.args.origin) c.args.amount c.requires.origin c.requires.some c.requires.scene.accounts (seen g.B.Bank.holdings c.pay_in.new.g) c.in_ok-pay_in.ensures.paid c.in_ok-pay_in.ensures.backed in (
      p.0,
      (
        p.1.0,
        (
          after (hook_before c.args.v.now c.args.delegator.now c.held-held.result) (lists_of s),
          ready-delegated c.requires.scene.hooked.sound.0 s h c.args.v.now c.requires.stands c.args.delegator.now c.held-held.result (sym c.held-held.ensures.value)
              c.args.amount c.in_ok-issued.issued c.total_of-shares.result c.unwrap.result given (ok_is _ _ shares) c.total_of-shares.ensures g.H.StakingHooks.tells p.0 (seen g.B.Bank.holdings c.pay_in.new.g) at_u,
        ),
      ),
    )

pub returns-in_err-call_before-clause-told : goal.returns-in_err-call_before-clause-told
returns-in_err-call_before-clause-told g c = λ h o. let k = c.in_err-call_before.ensures.told h o in first_of (search rules, grind (arith, common_steps, k))

pub returns-clause-scene : goal.returns-clause-scene
returns-clause-scene g c =
    let s = c.args.self.now.staked in
    let h = to_points c.requires.scene.hooked.sound.0 s c.requires.scene.hooked.sound.1 in
    let p = picked (g.H.StakingHooks.tells.told c.requires.scene.hooked.stand.0 (hook_before c.args.v.now c.args.delegator.now c.held-held.result) (seen g.B.Bank.holdings c.args.g.now)) (g.H.StakingHooks.holds c.call_before.new.hooks) (seen g.B.Bank.holdings c.call_before.new.g) (c.in_ok-call_before.ensures.told c.requires.scene.hooked.stand.0 c.requires.scene.hooked.stand.1.0) in
    let given = shares-given c.args.v.now c.args.amount c.in_ok-issued.issued (sym c.in_ok-issued.ensures) in
    let shares : Ok c.unwrap.result ≡ Ok (c.args.v.now.shares + c.in_ok-issued.issued) = sym c.unwrap.ensures ∙ c.add.ensures ∙ given.sum in
    let at_u = reached c.requires.scene.hooked.sound.0 s h c.args.v.now c.requires.stands c.args.delegator.now c.held-held.result (sym c.held-held.ensures.value) g.H.StakingHooks.tells g.met.H.StakingHooks.lawful
    c.requires.scene.hooked.stand.0 p.0 (seen g.B.Bank.holdings c.args.g.now) (seen g.B.Bank.holdings c.call_before.new.g) c.requires.scene.hooked.stand.1.1 p.1.1
    (origin_of c.args.origin) c.args.amount c.requires.origin c.requires.some c.requires.scene.accounts (seen g.B.Bank.holdings c.pay_in.new.g) c.in_ok-pay_in.ensures.paid c.in_ok-pay_in.ensures.backed in
    let w = grown c.args.v.now c.args.amount c.unwrap.result in
    let staked : c.put_shares.new.self.staked ≡ put_delegation c.args.delegator.now c.args.v.now.operator c.total_of-shares.result (put_validator w s)
    = ap (λ r. r.staked) c.in_ok-put_shares.ensures.ok ∙ ap (λ r. put_delegation c.args.delegator.now c.args.v.now.operator c.total_of-shares.result r.staked) c.in_ok-put.ensures.ok in
    let tells = g.H.StakingHooks.tells in
    let l = after (hook_before c.args.v.now c.args.delegator.now c.held-held.result) (lists_of s) in
    let hook = modified w c.args.delegator.now c.total_of-shares.result in
    let q = picked (tells.told p.0 hook (seen g.B.Bank.holdings c.pay_in.new.g)) (g.H.StakingHooks.holds c.after_delegation_modified.new.self) (seen g.B.Bank.holdings c.after_delegation_modified.new.g) (c.in_ok-after_delegation_modified.ensures.told p.0 p.1.0) in
    let ready = ready-delegated c.requires.scene.hooked.sound.0 s h c.args.v.now c.requires.stands c.args.delegator.now c.held-held.result (sym c.held-held.ensures.value)
    c.args.amount c.in_ok-issued.issued c.total_of-shares.result c.unwrap.result given (ok_is _ _ shares) c.total_of-shares.ensures g.H.StakingHooks.tells p.0 (seen g.B.Bank.holdings c.pay_in.new.g) at_u in
    let keeps = keeps-ok tells g.met.H.StakingHooks.lawful p.0 q.0 hook (seen g.B.Bank.holdings c.pay_in.new.g) (seen g.B.Bank.holdings c.after_delegation_modified.new.g) l ready q.1.1 in
    record {
      hooked = record {
        sound = (
          c.requires.scene.hooked.sound.0,
          from_points c.requires.scene.hooked.sound.0 c.put_shares.new.self.staked (subst (IsSoundAt c.requires.scene.hooked.sound.0) (sym staked)
              (sound-delegated c.requires.scene.hooked.sound.0 s h c.args.v.now c.requires.stands c.args.delegator.now c.held-held.result (sym c.held-held.ensures.value)
              c.args.amount c.in_ok-issued.issued c.total_of-shares.result c.unwrap.result given (ok_is _ _ shares) c.total_of-shares.ensures g.H.StakingHooks.tells p.0 (seen g.B.Bank.holdings c.pay_in.new.g) at_u)),
        );
        stand = (
          q.0,
          (
            q.1.0,
            subst (Stand tells q.0 (seen g.B.Bank.holdings c.after_delegation_modified.new.g))
                (lists-delegated_is c.requires.scene.hooked.sound.0 s h c.args.v.now c.requires.stands c.args.delegator.now c.held-held.result (sym c.held-held.ensures.value)
                c.args.amount c.in_ok-issued.issued c.total_of-shares.result c.unwrap.result given (ok_is _ _ shares) c.total_of-shares.ensures g.H.StakingHooks.tells p.0 (seen g.B.Bank.holdings c.pay_in.new.g) at_u ∙ ap lists_of (sym staked))
                (Stand-after_ok tells g.met.H.StakingHooks.lawful p.0 q.0 hook (seen g.B.Bank.holdings c.pay_in.new.g) (seen g.B.Bank.holdings c.after_delegation_modified.new.g) l ready q.1.1),
          ),
        );
      };
      accounts = subst (λ x. HoldsStake (seen g.B.Bank.holdings c.after_delegation_modified.new.g) (bonded_tokens x) (other_tokens x)) (sym staked)
          (holds-kept _ (seen g.B.Bank.holdings c.pay_in.new.g) (seen g.B.Bank.holdings c.after_delegation_modified.new.g) _ _ keeps
          (holds-delegated c.requires.scene.hooked.sound.0 s h c.args.v.now c.requires.stands c.args.delegator.now c.held-held.result (sym c.held-held.ensures.value)
          c.args.amount c.in_ok-issued.issued c.total_of-shares.result c.unwrap.result given (ok_is _ _ shares) c.total_of-shares.ensures g.H.StakingHooks.tells p.0 (seen g.B.Bank.holdings c.pay_in.new.g) at_u));
    }
