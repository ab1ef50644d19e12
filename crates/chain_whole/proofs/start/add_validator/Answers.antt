use Rattle.std.proofs.Common.{◌∙◌, Ok, Err, refl, sym, ap, subst}
use Rattle.base_roles.specs.declared.{messages.CreateValidator.CreateValidator, params.Ctx.Ctx}
use Rattle.base_roles.specs.Staked.{validator_at, validator_by_cons}
use Rattle.rule_modules.specs.{Answers.Leaves, Validators.{new_validator, stored}, Chain.with_staked}
use Rattle.mod_staking.specs.Calls.{HasRates, over}
use Rattle.chain_modules.specs.{declared.modules.Modules.Modules, Kept.{ground_of, hooks_hold, hooks_tell}}
use Rattle.chain_modules.{specs.Heard.{heard_hold, heard_tell}, proofs.HeardLemmas.{heard_scene, scene_apart}}
use Rattle.chain_modules.proofs.HookLemmas.{held_as}
use Rattle.rule_machine.specs.Listening.{unheard}
use Rattle.chain_whole.proofs.HearLemmas.{stored_apart, validator_hears}
use Rattle.chain_whole.proofs.AddingLemmas.{admission_sure, admitted_added}
use Rattle.chain_transactions.proofs.GoLemmas.{hooked_on}
use Rattle.chain_whole.proofs.start.add_validator.Goals as goal

pub admit-admitted-requires-clause-new : goal.admit-admitted-requires-clause-new
admit-admitted-requires-clause-new g c = ap (λ (m : CreateValidator). validator_at c.args.modules.now.stakes.staking.staked m.validator) c.creation_of-m.ensures ∙ c.requires.next.new

pub admit-admitted-requires-clause-new_cons : goal.admit-admitted-requires-clause-new_cons
admit-admitted-requires-clause-new_cons g c = ap (λ (m : CreateValidator). validator_by_cons c.args.modules.now.stakes.staking.staked m.cons) c.creation_of-m.ensures ∙ c.requires.next.new_cons

pub admit-admitted-requires-clause-rates : goal.admit-admitted-requires-clause-rates
admit-admitted-requires-clause-rates g c = subst HasRates (sym c.creation_of-m.ensures) c.requires.next.rates

pub admit-admitted-requires-clause-scene : goal.admit-admitted-requires-clause-scene
admit-admitted-requires-clause-scene g c = heard_scene g.E.Extra.hears g.E.Extra.heard c.args.modules.now.hooks _ _ c.requires.next.scene.scene

pub returns-in-Ok-clause-added : goal.returns-in-Ok-clause-added
returns-in-Ok-clause-added g c = λ p k.
    let old : Modules g.row.E.Denot = c.args.modules.now in
    let after = c.admit-admitted.new in
    let new : Modules g.row.E.Denot = record { ground = after.g; stakes = record { staking = after.self; unbondings = old.stakes.unbondings; redelegations = old.stakes.redelegations }; hooks = after.hooks } in
    admitted_added old new p k c.in-Ok.ensures.goes_on.undone.ctx refl refl c.args.v.now k.view
    (subst (λ (x : CreateValidator). Leaves (stored hooks_tell.told (new_validator x old.ground.ctx.time) (over old.stakes.staking.staked (held_as old.ground.ctx.params.signed_blocks_window p.hooks) (ground_of old))) new.stakes.staking.staked (hooks_hold new.hooks) (ground_of new) (Ok tt))
    c.creation_of-m.ensures (stored_apart g.E.Extra.heard g.E.Extra.hears old new (new_validator c.creation_of-m.result old.ground.ctx.time) (Ok tt) c.in-Ok.ensures.told (held_as old.ground.ctx.params.signed_blocks_window p.hooks) (k.shared, k.signings)))

pub returns-in-Ok-clause-scene : goal.returns-in-Ok-clause-scene
returns-in-Ok-clause-scene g c =
    let goes = c.in-Ok.ensures.goes_on in
    record {
      power = ap (λ b. b.power_reduction) goes.register.behind ∙ c.requires.next.scene.power ∙ ap (λ (x : Ctx). x.params.power_reduction) (sym goes.undone.ctx);
      scene = scene_apart g.E.Extra.hears g.E.Extra.heard c.admit-admitted.new.hooks _ _ c.in-Ok.ensures.scene;
    }

pub returns-in-Ok-clause-go_on : goal.returns-in-Ok-clause-go_on
returns-in-Ok-clause-go_on g c =
    let old : Modules g.row.E.Denot = c.args.modules.now in
    let after = c.admit-admitted.new in
    let new : Modules g.row.E.Denot = record { ground = after.g; stakes = record { staking = after.self; unbondings = old.stakes.unbondings; redelegations = old.stakes.redelegations }; hooks = after.hooks } in
    hooked_on g.E.StakingHooks.marks _ old new (Ok tt) c.in-Ok.ensures.goes_on refl refl

pub never_over-requires : goal.never_over-requires
never_over-requires g c =
    let old : Modules g.row.E.Denot = c.args.modules.now in
    let after = c.admit-admitted.new in
    let new : Modules g.row.E.Denot = record { ground = after.g; stakes = record { staking = after.self; unbondings = old.stakes.unbondings; redelegations = old.stakes.redelegations }; hooks = after.hooks } in
    let next = c.requires.next in
    let p = next.state in
    let k = next.keeps in
    admission_sure old new p k c.in-Err.ensures.goes_on.undone.ctx refl refl c.args.v.now next.sure.0 c.in-Err.fault k.view next.sure.1
    (subst (λ (x : CreateValidator). Leaves (stored hooks_tell.told (new_validator x old.ground.ctx.time) (over old.stakes.staking.staked (held_as old.ground.ctx.params.signed_blocks_window p.hooks) (ground_of old))) new.stakes.staking.staked (hooks_hold new.hooks) (ground_of new) (Err c.in-Err.fault))
    c.creation_of-m.ensures (stored_apart g.E.Extra.heard g.E.Extra.hears old new (new_validator c.creation_of-m.result old.ground.ctx.time) (Err c.in-Err.fault) c.in-Err.ensures.told (held_as old.ground.ctx.params.signed_blocks_window p.hooks) (k.shared, k.signings)))

pub returns-in-Err-clause-go_on : goal.returns-in-Err-clause-go_on
returns-in-Err-clause-go_on g c =
    let old : Modules g.row.E.Denot = c.args.modules.now in
    let after = c.admit-admitted.new in
    let new : Modules g.row.E.Denot = record { ground = after.g; stakes = record { staking = after.self; unbondings = old.stakes.unbondings; redelegations = old.stakes.redelegations }; hooks = after.hooks } in
    hooked_on g.E.StakingHooks.marks _ old new (Err c.in-Err.fault) c.in-Err.ensures.goes_on refl refl

pub returns-in-Ok-clause-heard : goal.returns-in-Ok-clause-heard
returns-in-Ok-clause-heard g c = λ e s k.
    let old : Modules g.row.E.Denot = c.args.modules.now in
    let after = c.admit-admitted.new in
    let new : Modules g.row.E.Denot = record { ground = after.g; stakes = record { staking = after.self; unbondings = old.stakes.unbondings; redelegations = old.stakes.redelegations }; hooks = after.hooks } in
    let told = subst (λ (x : CreateValidator). (h : _) → heard_hold g.E.Extra.heard old.hooks h → Leaves (stored (heard_tell g.E.Extra.hears).told (new_validator x old.ground.ctx.time) (over old.stakes.staking.staked h (ground_of old))) new.stakes.staking.staked (heard_hold g.E.Extra.heard new.hooks) (ground_of new) (Ok tt))
    c.creation_of-m.ensures c.in-Ok.ensures.told in
    let p = unheard (with_staked e s) in
    validator_hears g.E.Extra.heard g.E.Extra.hears old new c.args.v.now e s k told
    (admitted_added old new p k.0 c.in-Ok.ensures.goes_on.undone.ctx refl refl c.args.v.now k.0.view (stored_apart g.E.Extra.heard g.E.Extra.hears old new _ (Ok tt) told (held_as old.ground.ctx.params.signed_blocks_window p.hooks) (k.0.shared, k.0.signings)))
