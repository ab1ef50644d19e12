use Rattle.std.proofs.Common.{[], refl}
use Rattle.chain_modules.{specs.declared.modules.Modules.Modules, proofs.HeardLemmas.heard_redelegation}
use Rattle.chain_modules.proofs.SceneLemmas.{redelegation_scene}
use Rattle.chain_transactions.proofs.{GoLemmas.listener_behind, CallLemmas.redelegate_well}
use Rattle.chain_transactions.proofs.HearLemmas.{redelegate_apart, redelegate_hears}
use Rattle.chain_transactions.proofs.unbonding.begin_redelegate.Goals as goal

pub begin-requires : goal.begin-requires
begin-requires g c = let s = c.requires.steady in record { scene = heard_redelegation g.E.Extra.hears g.E.Extra.heard c.args.modules.now.hooks _ _ _ (redelegation_scene c.args.modules.now s.state s.stands.keeps s.stands.sound) }

pub returns-clause-ends : goal.returns-clause-ends
returns-clause-ends g c =
    let old : Modules g.row.E.Denot = c.args.modules.now in
    let after = c.begin.new in
    let new : Modules g.row.E.Denot = record { ground = after.g; stakes = record { staking = after.staking; unbondings = old.stakes.unbondings; redelegations = after.self }; hooks = after.hooks } in
    let m = c.args.m.now in
    redelegate_well g.E.StakingHooks.marks old new c.requires.steady m.delegator m.source m.target m.amount c.begin.result refl (redelegate_apart g.E.Extra.heard g.E.Extra.hears old new m.delegator m.source m.target m.amount c.begin.result (λ h k. c.begin.ensures.told h k [])) c.begin.ensures.goes_on c.begin.ensures.entries_go_on

pub returns-clause-listener : goal.returns-clause-listener
returns-clause-listener g c = g.met.E.Extra.listens.same_marks _ _ (listener_behind g.E.StakingHooks.marks c.args.modules.now.hooks c.begin.new.hooks c.begin.ensures.goes_on.hook_marks)

pub returns-clause-heard : goal.returns-clause-heard
returns-clause-heard g c =
    let old : Modules g.row.E.Denot = c.args.modules.now in
    let after = c.begin.new in
    let new : Modules g.row.E.Denot = record { ground = after.g; stakes = record { staking = after.staking; unbondings = old.stakes.unbondings; redelegations = after.self }; hooks = after.hooks } in
    let m = c.args.m.now in
    redelegate_hears g.E.Extra.heard g.E.Extra.hears old new m.delegator m.source m.target m.amount c.begin.result (λ h k. c.begin.ensures.told h k [])
    (redelegate_well g.E.StakingHooks.marks old new c.requires.steady m.delegator m.source m.target m.amount c.begin.result refl (redelegate_apart g.E.Extra.heard g.E.Extra.hears old new m.delegator m.source m.target m.amount c.begin.result (λ h k. c.begin.ensures.told h k [])) c.begin.ensures.goes_on c.begin.ensures.entries_go_on).ends
