use Rattle.base_roles.proofs.StakeLemmas.{on_ok}
use Rattle.rule_machine.specs.Listening.{set_heard, unheard}
use Rattle.chain_modules.{specs.Kept.kept_of, proofs.{ErasingLemmas.set_unheard, SceneLemmas.stake_scene}}
use Rattle.rule_modules.specs.Chain.{set_step}
use Rattle.chain_blocks.proofs.{HearLemmas.whole_hears, EndLemmas.{set_next, step_leads}, TakesLemmas.takes}
use Rattle.chain_blocks.proofs.ending.make_set.Goals as goal

pub update_set-requires : goal.update_set-requires
update_set-requires g c = let s = c.requires.steady in record { scene = stake_scene c.args.modules.now s.state s.stands.keeps s.stands.sound s.power }

pub returns-clause-takes : goal.returns-clause-takes
returns-clause-takes g c =
    takes set_step c.args.modules.now c.update_set.new.modules c.update_set.result c.requires.steady c.update_set.ensures.go_on
    (λ p s. step_leads set_step p (kept_of c.update_set.new.modules) c.update_set.result (set_next p s.sound s.whole) (c.update_set.ensures.leads p s.keeps))

pub returns-clause-heard : goal.returns-clause-heard
returns-clause-heard g c = λ w s.
    on_ok c.update_set.result (whole_hears g.E.Extra.heard g.E.Extra.hears c.args.modules.now c.update_set.new.modules set_step w (set_heard g.E.Extra.hears w) (set_unheard g.E.Extra.hears w) (set_next (unheard w) s.0.sound s.0.whole)) (c.update_set.ensures.heard w (s.0.keeps, s.1))
