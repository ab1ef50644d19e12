use Rattle.std.proofs.Common.{[], Ok, Err, refl}
use Rattle.chain_modules.{specs.declared.modules.Modules.Modules, proofs.HeardLemmas.heard_unbonding}
use Rattle.chain_modules.proofs.SceneLemmas.{unbonding_scene, whole_kept}
use Rattle.chain_transactions.proofs.{GoLemmas.listener_behind, CallLemmas.undelegate_well}
use Rattle.chain_transactions.proofs.HearLemmas.{undelegate_apart, undelegate_hears}
use Rattle.chain_transactions.proofs.unbonding.undelegate.Goals as goal

pub undelegate-answer-requires-clause-scene : goal.undelegate-answer-requires-clause-scene
undelegate-answer-requires-clause-scene g c = let s = c.requires.steady in heard_unbonding g.E.Extra.hears g.E.Extra.heard c.args.modules.now.hooks _ _ _ (unbonding_scene c.args.modules.now s.state s.stands.keeps s.stands.sound)

pub undelegate-answer-requires-clause-whole : goal.undelegate-answer-requires-clause-whole
undelegate-answer-requires-clause-whole g c = let s = c.requires.steady in whole_kept c.args.modules.now s.state s.stands.keeps s.stands.sound s.stands.whole

pub returns-in-Ok-clause-ends : goal.returns-in-Ok-clause-ends
returns-in-Ok-clause-ends g c =
    let old : Modules g.row.E.Denot = c.args.modules.now in
    let after = c.undelegate-answer.new in
    let new : Modules g.row.E.Denot = record { ground = after.g; stakes = record { staking = after.staking; unbondings = after.self; redelegations = old.stakes.redelegations }; hooks = after.hooks } in
    let m = c.args.m.now in
    undelegate_well g.E.StakingHooks.marks old new c.requires.steady m.delegator m.validator m.amount (Ok c.in-Ok.field-0) refl (undelegate_apart g.E.Extra.heard g.E.Extra.hears old new m.delegator m.validator m.amount (Ok c.in-Ok.field-0) (λ h k. c.in-Ok.ensures.told h k [])) c.in-Ok.ensures.goes_on c.in-Ok.ensures.entries_go_on

pub returns-in-Err-clause-ends : goal.returns-in-Err-clause-ends
returns-in-Err-clause-ends g c =
    let old : Modules g.row.E.Denot = c.args.modules.now in
    let after = c.undelegate-answer.new in
    let new : Modules g.row.E.Denot = record { ground = after.g; stakes = record { staking = after.staking; unbondings = after.self; redelegations = old.stakes.redelegations }; hooks = after.hooks } in
    let m = c.args.m.now in
    undelegate_well g.E.StakingHooks.marks old new c.requires.steady m.delegator m.validator m.amount (Err c.in-Err.stop) refl (undelegate_apart g.E.Extra.heard g.E.Extra.hears old new m.delegator m.validator m.amount (Err c.in-Err.stop) (λ h k. c.in-Err.ensures.told h k [])) c.in-Err.ensures.goes_on c.in-Err.ensures.entries_go_on

pub returns-in-Ok-clause-listener : goal.returns-in-Ok-clause-listener
returns-in-Ok-clause-listener g c = g.met.E.Extra.listens.same_marks _ _ (listener_behind g.E.StakingHooks.marks c.args.modules.now.hooks c.undelegate-answer.new.hooks c.in-Ok.ensures.goes_on.hook_marks)

pub returns-in-Err-clause-listener : goal.returns-in-Err-clause-listener
returns-in-Err-clause-listener g c = g.met.E.Extra.listens.same_marks _ _ (listener_behind g.E.StakingHooks.marks c.args.modules.now.hooks c.undelegate-answer.new.hooks c.in-Err.ensures.goes_on.hook_marks)

pub returns-in-Ok-clause-heard : goal.returns-in-Ok-clause-heard
returns-in-Ok-clause-heard g c =
    let old : Modules g.row.E.Denot = c.args.modules.now in
    let after = c.undelegate-answer.new in
    let new : Modules g.row.E.Denot = record { ground = after.g; stakes = record { staking = after.staking; unbondings = after.self; redelegations = old.stakes.redelegations }; hooks = after.hooks } in
    let m = c.args.m.now in
    undelegate_hears g.E.Extra.heard g.E.Extra.hears old new m.delegator m.validator m.amount (Ok c.in-Ok.field-0) (λ h k. c.in-Ok.ensures.told h k [])
    (undelegate_well g.E.StakingHooks.marks old new c.requires.steady m.delegator m.validator m.amount (Ok c.in-Ok.field-0) refl (undelegate_apart g.E.Extra.heard g.E.Extra.hears old new m.delegator m.validator m.amount (Ok c.in-Ok.field-0) (λ h k. c.in-Ok.ensures.told h k [])) c.in-Ok.ensures.goes_on c.in-Ok.ensures.entries_go_on).ends
