use Rattle.std.proofs.Common.{Ok, Err, refl}
use Rattle.chain_modules.{specs.declared.modules.Modules.Modules, proofs.HeardLemmas.heard_scene}
use Rattle.chain_modules.proofs.SceneLemmas.{scene_kept}
use Rattle.chain_transactions.proofs.{GoLemmas.listener_behind, CallLemmas.delegate_well}
use Rattle.chain_transactions.proofs.HearLemmas.{delegate_apart, delegate_hears}
use Rattle.chain_transactions.proofs.staking.delegate.Goals as goal

pub delegate_coin-answer-requires : goal.delegate_coin-answer-requires
delegate_coin-answer-requires g c = let s = c.requires.steady in record { scene = heard_scene g.E.Extra.hears g.E.Extra.heard c.args.modules.now.hooks _ _ (scene_kept c.args.modules.now s.state s.stands.keeps s.stands.sound) }

pub returns-in-Ok-clause-ends : goal.returns-in-Ok-clause-ends
returns-in-Ok-clause-ends g c =
    let old : Modules g.row.E.Denot = c.args.modules.now in
    let after = c.delegate_coin-answer.new in
    let new : Modules g.row.E.Denot = record { ground = after.g; stakes = record { staking = after.self; unbondings = old.stakes.unbondings; redelegations = old.stakes.redelegations }; hooks = after.hooks } in
    let m = c.args.m.now in
    delegate_well g.E.StakingHooks.marks old new c.requires.steady refl refl m.delegator m.validator m.amount (Ok c.in-Ok.field-0) (delegate_apart g.E.Extra.heard g.E.Extra.hears old new m.delegator m.validator m.amount (Ok c.in-Ok.field-0) c.in-Ok.ensures.told) c.in-Ok.ensures.goes_on

pub returns-in-Err-clause-ends : goal.returns-in-Err-clause-ends
returns-in-Err-clause-ends g c =
    let old : Modules g.row.E.Denot = c.args.modules.now in
    let after = c.delegate_coin-answer.new in
    let new : Modules g.row.E.Denot = record { ground = after.g; stakes = record { staking = after.self; unbondings = old.stakes.unbondings; redelegations = old.stakes.redelegations }; hooks = after.hooks } in
    let m = c.args.m.now in
    delegate_well g.E.StakingHooks.marks old new c.requires.steady refl refl m.delegator m.validator m.amount (Err c.in-Err.stop) (delegate_apart g.E.Extra.heard g.E.Extra.hears old new m.delegator m.validator m.amount (Err c.in-Err.stop) c.in-Err.ensures.told) c.in-Err.ensures.goes_on

pub returns-in-Ok-clause-listener : goal.returns-in-Ok-clause-listener
returns-in-Ok-clause-listener g c = g.met.E.Extra.listens.same_marks _ _ (listener_behind g.E.StakingHooks.marks c.args.modules.now.hooks c.delegate_coin-answer.new.hooks c.in-Ok.ensures.goes_on.hook_marks)

pub returns-in-Err-clause-listener : goal.returns-in-Err-clause-listener
returns-in-Err-clause-listener g c = g.met.E.Extra.listens.same_marks _ _ (listener_behind g.E.StakingHooks.marks c.args.modules.now.hooks c.delegate_coin-answer.new.hooks c.in-Err.ensures.goes_on.hook_marks)

pub returns-in-Ok-clause-heard : goal.returns-in-Ok-clause-heard
returns-in-Ok-clause-heard g c =
    let old : Modules g.row.E.Denot = c.args.modules.now in
    let after = c.delegate_coin-answer.new in
    let new : Modules g.row.E.Denot = record { ground = after.g; stakes = record { staking = after.self; unbondings = old.stakes.unbondings; redelegations = old.stakes.redelegations }; hooks = after.hooks } in
    let m = c.args.m.now in
    delegate_hears g.E.Extra.heard g.E.Extra.hears old new m.delegator m.validator m.amount (Ok c.in-Ok.field-0) c.in-Ok.ensures.told
    (delegate_well g.E.StakingHooks.marks old new c.requires.steady refl refl m.delegator m.validator m.amount (Ok c.in-Ok.field-0) (delegate_apart g.E.Extra.heard g.E.Extra.hears old new m.delegator m.validator m.amount (Ok c.in-Ok.field-0) c.in-Ok.ensures.told) c.in-Ok.ensures.goes_on).ends
