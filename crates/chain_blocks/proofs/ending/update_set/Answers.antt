use Rattle.std.proofs.Common.{[], refl}
use Rattle.chain_modules.{specs.declared.modules.Modules.Modules, proofs.{HeardLemmas.heard_scene, HookLemmas.held_as}}
use Rattle.chain_transactions.proofs.GoLemmas.{all_on, listener_behind, unheard}
use Rattle.chain_blocks.proofs.{EndLemmas.set_leads, HearLemmas.{set_apart, set_hears}}
use Rattle.chain_blocks.proofs.ending.update_set.Goals as goal

pub update-requires-clause-scene : goal.update-requires-clause-scene
update-requires-clause-scene g c = heard_scene g.E.Extra.hears g.E.Extra.heard c.args.modules.now.hooks _ _ c.requires.scene.scene

pub update-requires-clause-power : goal.update-requires-clause-power
update-requires-clause-power g c = c.requires.scene.power

pub returns-clause-leads : goal.returns-clause-leads
returns-clause-leads g c = λ p k.
    let old : Modules g.row.E.Denot = c.args.modules.now in
    let after = c.update.new in
    let new : Modules g.row.E.Denot = record { ground = after.g; stakes = record { staking = after.staking; unbondings = old.stakes.unbondings; redelegations = old.stakes.redelegations }; hooks = after.hooks } in
    set_leads old new p k c.update.ensures.stays.undone.ctx refl refl c.update.result (set_apart g.E.Extra.heard g.E.Extra.hears old new c.update.result (λ h o. c.update.ensures.told h o []) (held_as old.ground.ctx.params.signed_blocks_window p.hooks) (k.shared, k.signings))

pub returns-clause-go_on : goal.returns-clause-go_on
returns-clause-go_on g c =
    let old : Modules g.row.E.Denot = c.args.modules.now in
    let after = c.update.new in
    let new : Modules g.row.E.Denot = record { ground = after.g; stakes = record { staking = after.staking; unbondings = old.stakes.unbondings; redelegations = old.stakes.redelegations }; hooks = after.hooks } in
    (all_on old new c.update.ensures.stays.undone c.update.ensures.stays.register.behind refl refl (unheard g.E.StakingHooks.marks old.hooks new.hooks c.update.ensures.stays.hook_marks))

pub returns-clause-listener : goal.returns-clause-listener
returns-clause-listener g c = g.met.E.Extra.listens.same_marks _ _ (listener_behind g.E.StakingHooks.marks c.args.modules.now.hooks c.update.new.hooks c.update.ensures.stays.hook_marks)

pub returns-clause-heard : goal.returns-clause-heard
returns-clause-heard g c =
    let old : Modules g.row.E.Denot = c.args.modules.now in
    let after = c.update.new in
    let new : Modules g.row.E.Denot = record { ground = after.g; stakes = record { staking = after.staking; unbondings = old.stakes.unbondings; redelegations = old.stakes.redelegations }; hooks = after.hooks } in
    set_hears g.E.Extra.heard g.E.Extra.hears old new c.update.result (λ h o. c.update.ensures.told h o []) (λ p k. set_leads old new p k c.update.ensures.stays.undone.ctx refl refl c.update.result (set_apart g.E.Extra.heard g.E.Extra.hears old new c.update.result (λ h o. c.update.ensures.told h o []) (held_as old.ground.ctx.params.signed_blocks_window p.hooks) (k.shared, k.signings)))
