use Rattle.std.proofs.Common.{[], refl}
use Rattle.chain_modules.{specs.declared.modules.Modules.Modules, proofs.HeardLemmas.heard_unbonding}
use Rattle.chain_modules.proofs.SceneLemmas.{unbonding_scene}
use Rattle.chain_transactions.proofs.{GoLemmas.listener_behind, CallLemmas.cancel_well}
use Rattle.chain_transactions.proofs.HearLemmas.{cancel_apart, cancel_hears}
use Rattle.chain_transactions.proofs.unbonding.cancel_unbonding.Goals as goal

pub cancel-requires : goal.cancel-requires
cancel-requires g c = let s = c.requires.steady in record { scene = heard_unbonding g.E.Extra.hears g.E.Extra.heard c.args.modules.now.hooks _ _ _ (unbonding_scene c.args.modules.now s.state s.stands.keeps s.stands.sound) }

pub returns-clause-ends : goal.returns-clause-ends
returns-clause-ends g c =
    let old : Modules g.row.E.Denot = c.args.modules.now in
    let after = c.cancel.new in
    let new : Modules g.row.E.Denot = record { ground = after.g; stakes = record { staking = after.staking; unbondings = after.self; redelegations = old.stakes.redelegations }; hooks = after.hooks } in
    let m = c.args.m.now in
    cancel_well g.E.StakingHooks.marks old new c.requires.steady m.delegator m.validator m.amount m.creation_height c.cancel.result refl (cancel_apart g.E.Extra.heard g.E.Extra.hears old new m.delegator m.validator m.amount m.creation_height c.cancel.result (λ h k. c.cancel.ensures.told h k [])) c.cancel.ensures.goes_on c.cancel.ensures.entries_go_on

pub returns-clause-listener : goal.returns-clause-listener
returns-clause-listener g c = g.met.E.Extra.listens.same_marks _ _ (listener_behind g.E.StakingHooks.marks c.args.modules.now.hooks c.cancel.new.hooks c.cancel.ensures.goes_on.hook_marks)

pub returns-clause-heard : goal.returns-clause-heard
returns-clause-heard g c =
    let old : Modules g.row.E.Denot = c.args.modules.now in
    let after = c.cancel.new in
    let new : Modules g.row.E.Denot = record { ground = after.g; stakes = record { staking = after.staking; unbondings = after.self; redelegations = old.stakes.redelegations }; hooks = after.hooks } in
    let m = c.args.m.now in
    cancel_hears g.E.Extra.heard g.E.Extra.hears old new m.delegator m.validator m.amount m.creation_height c.cancel.result (λ h k. c.cancel.ensures.told h k [])
    (cancel_well g.E.StakingHooks.marks old new c.requires.steady m.delegator m.validator m.amount m.creation_height c.cancel.result refl (cancel_apart g.E.Extra.heard g.E.Extra.hears old new m.delegator m.validator m.amount m.creation_height c.cancel.result (λ h k. c.cancel.ensures.told h k [])) c.cancel.ensures.goes_on c.cancel.ensures.entries_go_on).ends
