use Rattle.std.proofs.Common.{refl}
use Rattle.base_types.specs.declared.account.Account.TheVariants as account
use Rattle.base_types.specs.declared.account.Module.TheVariants.{NotBonded}
use Rattle.base_roles.proofs.HookLemmas.{Stands-after_ok, Stand-after_send}
use Rattle.base_roles_example.proofs.callers.send_between_hooks.Goals as goal

pub send-requires : goal.send-requires
send-requires g c = (Stands-after_ok _ g.met.H.StakingHooks.lawful _ _ _ _ _ c.requires.ready c.in_ok-before_delegation_created.ensures.told).1.1.in_order.bank

pub after_delegation_modified-requires : goal.after_delegation_modified-requires
after_delegation_modified-requires g c =
    let ready = c.requires.ready.1.1.1 in
    let stand = Stands-after_ok _ g.met.H.StakingHooks.lawful _ _ _ _ _ c.requires.ready c.in_ok-before_delegation_created.ensures.told in
    let sent = Stand-after_send _ _ (account.User c.args.delegator.now) (account.Module NotBonded) c.args.coins.now _ _ _ _ c.in_ok-send.ensures.sends.1 c.send.ensures.backed refl refl stand.1.1 in
    (stand.0, (stand.1.0, (c.requires.ready.1.1.0, record { stand = sent; needs = (ready.needs.0, ready.needs.1, c.requires.some, c.requires.most); tokens = ready.tokens })))
