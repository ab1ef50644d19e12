use Rattle.std.proofs.Common.{◌≡◌, refl}
use Rattle.chain_modules.{specs.declared.modules.Modules.Modules, proofs.SceneLemmas.{hooked_kept, window_kept}}
use Rattle.chain_transactions.proofs.CallLemmas.{unjail_well}
use Rattle.chain_transactions.proofs.staking.unjail.Goals as goal

pub unjail-requires-clause-kept : goal.unjail-requires-clause-kept
unjail-requires-clause-kept g c = let s = c.requires.steady in window_kept c.args.modules.now s.state s.stands.keeps s.stands.sound

pub unjail-requires-clause-sound : goal.unjail-requires-clause-sound
unjail-requires-clause-sound g c = let s = c.requires.steady in (hooked_kept c.args.modules.now s.state s.stands.keeps s.stands.sound).sound

pub returns-clause-ends : goal.returns-clause-ends
returns-clause-ends g c =
    let old : Modules g.row.E.Denot = c.args.modules.now in
    let after = c.unjail.new in
    let new : Modules g.row.E.Denot = record { ground = after.g; stakes = record { staking = after.staking; unbondings = old.stakes.unbondings; redelegations = old.stakes.redelegations }; hooks = record { first = old.hooks.first; second = after.self } } in
    let same : new.hooks ≡ old.hooks = λ i. record { first = old.hooks.first; second = c.unjail.ensures.same i } in
    unjail_well g.E.StakingHooks.marks old new c.requires.steady refl refl same c.unjail.ensures.undone c.args.m.now.validator c.unjail.result c.unjail.ensures.told c.unjail.ensures.register
