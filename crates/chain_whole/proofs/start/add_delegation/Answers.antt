use Rattle.std.proofs.Common.{◌≡◌, ◌∙◌, Some, Ok, Err, refl, sym, ap}
use Rattle.base_roles.specs.{declared.params.Ctx.Ctx, Staked.validator_at}
use Rattle.rule_machine.specs.Listening.{unheard}
use Rattle.rule_modules.specs.Chain.{Stakes, with_staked}
use Rattle.chain_modules.{specs.declared.modules.Modules.Modules, proofs.HeardLemmas.{heard_scene, scene_apart}}
use Rattle.chain_modules.proofs.HookLemmas.{held_as}
use Rattle.chain_whole.proofs.HearLemmas.{delegated_apart, delegation_hears}
use Rattle.chain_whole.proofs.AddingLemmas.{delegated_added, delegation_sure, the_validator}
use Rattle.chain_transactions.proofs.GoLemmas.{hooked_on}
use Rattle.chain_whole.proofs.start.add_delegation.Goals as goal

pub delegate-delegated-requires-clause-known : goal.delegate-delegated-requires-clause-known
delegate-delegated-requires-clause-known g c = c.requires.next.known

pub delegate-delegated-requires-clause-some : goal.delegate-delegated-requires-clause-some
delegate-delegated-requires-clause-some g c = c.requires.next.some

pub delegate-delegated-requires-clause-scene : goal.delegate-delegated-requires-clause-scene
delegate-delegated-requires-clause-scene g c = heard_scene g.E.Extra.hears g.E.Extra.heard c.args.modules.now.hooks _ _ c.requires.next.scene.scene

pub delegate-delegated-requires-clause-origin : goal.delegate-delegated-requires-clause-origin
delegate-delegated-requires-clause-origin g c = c.requires.next.origin

pub returns-in-Ok-clause-added : goal.returns-in-Ok-clause-added
returns-in-Ok-clause-added g c = λ p k.
    let old : Modules g.row.E.Denot = c.args.modules.now in
    let after = c.delegate-delegated.new in
    let new : Modules g.row.E.Denot = record { ground = after.g; stakes = record { staking = after.self; unbondings = old.stakes.unbondings; redelegations = old.stakes.redelegations }; hooks = after.hooks } in
    let here = the_validator (validator_at old.stakes.staking.staked c.args.d.now.validator) c.requires.next.known in
    let found : validator_at p.mine.staked c.args.d.now.validator ≡ Some here.0 = ap (λ (x : Stakes). validator_at x.staked c.args.d.now.validator) k.stakes ∙ here.1 in
    delegated_added old new p k c.in-Ok.ensures.goes_on.undone.ctx refl refl c.args.d.now here.0 c.in-Ok.field-0 found (delegated_apart g.E.Extra.heard g.E.Extra.hears old new here.0 c.args.d.now.delegator c.args.d.now.amount (Ok c.in-Ok.field-0) (λ h o. c.in-Ok.ensures.told h o here.0 here.1) (held_as old.ground.ctx.params.signed_blocks_window p.hooks) (k.shared, k.signings))

pub returns-in-Ok-clause-scene : goal.returns-in-Ok-clause-scene
returns-in-Ok-clause-scene g c =
    let goes = c.in-Ok.ensures.goes_on in
    record {
      power = ap (λ b. b.power_reduction) goes.register.behind ∙ c.requires.next.scene.power ∙ ap (λ (x : Ctx). x.params.power_reduction) (sym goes.undone.ctx);
      scene = scene_apart g.E.Extra.hears g.E.Extra.heard c.delegate-delegated.new.hooks _ _ c.in-Ok.ensures.scene;
    }

pub returns-in-Ok-clause-go_on : goal.returns-in-Ok-clause-go_on
returns-in-Ok-clause-go_on g c =
    let old : Modules g.row.E.Denot = c.args.modules.now in
    let after = c.delegate-delegated.new in
    let new : Modules g.row.E.Denot = record { ground = after.g; stakes = record { staking = after.self; unbondings = old.stakes.unbondings; redelegations = old.stakes.redelegations }; hooks = after.hooks } in
    hooked_on g.E.StakingHooks.marks _ old new (Ok c.in-Ok.field-0) c.in-Ok.ensures.goes_on refl refl

pub never_refused-requires : goal.never_refused-requires
never_refused-requires g c =
    let old : Modules g.row.E.Denot = c.args.modules.now in
    let after = c.delegate-delegated.new in
    let new : Modules g.row.E.Denot = record { ground = after.g; stakes = record { staking = after.self; unbondings = old.stakes.unbondings; redelegations = old.stakes.redelegations }; hooks = after.hooks } in
    let next = c.requires.next in
    let p = next.state in
    let k = next.keeps in
    let here = the_validator (validator_at old.stakes.staking.staked c.args.d.now.validator) c.requires.next.known in
    let found : validator_at p.mine.staked c.args.d.now.validator ≡ Some here.0 = ap (λ (x : Stakes). validator_at x.staked c.args.d.now.validator) k.stakes ∙ here.1 in
    delegation_sure old new p k c.in-Err.ensures.goes_on.undone.ctx refl refl c.args.d.now here.0 next.sure.0 c.in-Err.why found next.sure.1 (delegated_apart g.E.Extra.heard g.E.Extra.hears old new here.0 c.args.d.now.delegator c.args.d.now.amount (Err c.in-Err.why) (λ h o. c.in-Err.ensures.told h o here.0 here.1) (held_as old.ground.ctx.params.signed_blocks_window p.hooks) (k.shared, k.signings))

pub returns-in-Err-clause-go_on : goal.returns-in-Err-clause-go_on
returns-in-Err-clause-go_on g c =
    let old : Modules g.row.E.Denot = c.args.modules.now in
    let after = c.delegate-delegated.new in
    let new : Modules g.row.E.Denot = record { ground = after.g; stakes = record { staking = after.self; unbondings = old.stakes.unbondings; redelegations = old.stakes.redelegations }; hooks = after.hooks } in
    hooked_on g.E.StakingHooks.marks _ old new (Err c.in-Err.why) c.in-Err.ensures.goes_on refl refl

pub returns-in-Ok-clause-heard : goal.returns-in-Ok-clause-heard
returns-in-Ok-clause-heard g c = λ e s k.
    let old : Modules g.row.E.Denot = c.args.modules.now in
    let after = c.delegate-delegated.new in
    let new : Modules g.row.E.Denot = record { ground = after.g; stakes = record { staking = after.self; unbondings = old.stakes.unbondings; redelegations = old.stakes.redelegations }; hooks = after.hooks } in
    let d = c.args.d.now in
    let here = the_validator (validator_at old.stakes.staking.staked d.validator) c.requires.next.known in
    let found : validator_at s.mine d.validator ≡ Some here.0 = ap (λ (x : Stakes). validator_at x.staked d.validator) k.0.stakes ∙ here.1 in
    let p = unheard (with_staked e s) in
    delegation_hears g.E.Extra.heard g.E.Extra.hears old new d here.0 c.in-Ok.field-0 e s k found (λ h o. c.in-Ok.ensures.told h o here.0 here.1)
    (delegated_added old new p k.0 c.in-Ok.ensures.goes_on.undone.ctx refl refl d here.0 c.in-Ok.field-0 found
    (delegated_apart g.E.Extra.heard g.E.Extra.hears old new here.0 d.delegator d.amount (Ok c.in-Ok.field-0) (λ h o. c.in-Ok.ensures.told h o here.0 here.1) (held_as old.ground.ctx.params.signed_blocks_window p.hooks) (k.0.shared, k.0.signings)))
