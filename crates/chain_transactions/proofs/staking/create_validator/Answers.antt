use Rattle.std.proofs.Common.{refl}
use Rattle.chain_modules.{specs.declared.modules.Modules.Modules, proofs.HeardLemmas.heard_scene}
use Rattle.chain_modules.proofs.SceneLemmas.{scene_kept}
use Rattle.chain_transactions.proofs.{GoLemmas.listener_behind, CallLemmas.create_well}
use Rattle.chain_transactions.proofs.HearLemmas.{create_apart, create_hears}
use Rattle.chain_transactions.proofs.staking.create_validator.Goals as goal

pub create_validator-requires : goal.create_validator-requires
create_validator-requires g c = let s = c.requires.steady in record { scene = heard_scene g.E.Extra.hears g.E.Extra.heard c.args.modules.now.hooks _ _ (scene_kept c.args.modules.now s.state s.stands.keeps s.stands.sound) }

pub returns-clause-ends : goal.returns-clause-ends
returns-clause-ends g c =
    let old : Modules g.row.E.Denot = c.args.modules.now in
    let after = c.create_validator.new in
    let new : Modules g.row.E.Denot = record { ground = after.g; stakes = record { staking = after.self; unbondings = old.stakes.unbondings; redelegations = old.stakes.redelegations }; hooks = after.hooks } in
    create_well g.E.StakingHooks.marks old new c.requires.steady refl refl c.args.m.now c.create_validator.result (create_apart g.E.Extra.heard g.E.Extra.hears old new c.args.m.now c.create_validator.result c.create_validator.ensures.told) c.create_validator.ensures.goes_on

pub returns-clause-listener : goal.returns-clause-listener
returns-clause-listener g c = g.met.E.Extra.listens.same_marks _ _ (listener_behind g.E.StakingHooks.marks c.args.modules.now.hooks c.create_validator.new.hooks c.create_validator.ensures.goes_on.hook_marks)

pub returns-clause-heard : goal.returns-clause-heard
returns-clause-heard g c =
    let old : Modules g.row.E.Denot = c.args.modules.now in
    let after = c.create_validator.new in
    let new : Modules g.row.E.Denot = record { ground = after.g; stakes = record { staking = after.self; unbondings = old.stakes.unbondings; redelegations = old.stakes.redelegations }; hooks = after.hooks } in
    create_hears g.E.Extra.heard g.E.Extra.hears old new c.args.m.now c.create_validator.result c.create_validator.ensures.told
    (create_well g.E.StakingHooks.marks old new c.requires.steady refl refl c.args.m.now c.create_validator.result (create_apart g.E.Extra.heard g.E.Extra.hears old new c.args.m.now c.create_validator.result c.create_validator.ensures.told) c.create_validator.ensures.goes_on).ends
