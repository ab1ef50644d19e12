use Rattle.std.proofs.Common.{[], refl}
use Rattle.chain_modules.{specs.{declared.modules.Modules.Modules, Kept.kept_of}, proofs.HeardLemmas.heard_hooked}
use Rattle.chain_modules.proofs.{HookLemmas.held_as, SceneLemmas.hooked_kept}
use Rattle.rule_modules.specs.Chain.{maturing_step}
use Rattle.chain_transactions.proofs.GoLemmas.{all_on, listener_behind, unheard}
use Rattle.chain_blocks.proofs.HearLemmas.{matured_apart, matured_hears}
use Rattle.chain_blocks.proofs.{EndLemmas.{matured_leads, maturing_next, step_leads}, TakesLemmas.takes}
use Rattle.chain_blocks.proofs.ending.mature.Goals as goal

pub mature_validators-requires : goal.mature_validators-requires
mature_validators-requires g c = let s = c.requires.steady in record { hooked = heard_hooked g.E.Extra.hears g.E.Extra.heard c.args.modules.now.hooks _ _ (hooked_kept c.args.modules.now s.state s.stands.keeps s.stands.sound) }

pub returns-clause-takes : goal.returns-clause-takes
returns-clause-takes g c =
    let old : Modules g.row.E.Denot = c.args.modules.now in
    let after = c.mature_validators.new in
    let new : Modules g.row.E.Denot = record { ground = after.g; stakes = record { staking = after.staking; unbondings = old.stakes.unbondings; redelegations = old.stakes.redelegations }; hooks = after.hooks } in
    takes maturing_step old new c.mature_validators.result c.requires.steady (all_on old new c.mature_validators.ensures.stays.undone c.mature_validators.ensures.stays.register.behind refl refl (unheard g.E.StakingHooks.marks old.hooks new.hooks c.mature_validators.ensures.stays.hook_marks))
    (λ p s. step_leads maturing_step p (kept_of new) c.mature_validators.result (maturing_next p s.sound s.whole) (matured_leads old new p s.keeps c.mature_validators.ensures.stays.undone.ctx refl refl c.mature_validators.result (matured_apart g.E.Extra.heard g.E.Extra.hears old new c.mature_validators.result (λ h o. c.mature_validators.ensures.told h o []) (held_as old.ground.ctx.params.signed_blocks_window p.hooks) (s.keeps.shared, s.keeps.signings))))

pub returns-clause-listener : goal.returns-clause-listener
returns-clause-listener g c = g.met.E.Extra.listens.same_marks _ _ (listener_behind g.E.StakingHooks.marks c.args.modules.now.hooks c.mature_validators.new.hooks c.mature_validators.ensures.stays.hook_marks)

pub returns-clause-heard : goal.returns-clause-heard
returns-clause-heard g c =
    let old : Modules g.row.E.Denot = c.args.modules.now in
    let after = c.mature_validators.new in
    let new : Modules g.row.E.Denot = record { ground = after.g; stakes = record { staking = after.staking; unbondings = old.stakes.unbondings; redelegations = old.stakes.redelegations }; hooks = after.hooks } in
    matured_hears g.E.Extra.heard g.E.Extra.hears old new c.mature_validators.result (λ h o. c.mature_validators.ensures.told h o []) (λ p s.
    step_leads maturing_step p (kept_of new) c.mature_validators.result (maturing_next p s.sound s.whole) (matured_leads old new p s.keeps c.mature_validators.ensures.stays.undone.ctx refl refl c.mature_validators.result (matured_apart g.E.Extra.heard g.E.Extra.hears old new c.mature_validators.result (λ h o. c.mature_validators.ensures.told h o []) (held_as old.ground.ctx.params.signed_blocks_window p.hooks) (s.keeps.shared, s.keeps.signings))))
