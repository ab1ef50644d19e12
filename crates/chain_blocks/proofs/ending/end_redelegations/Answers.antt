use Rattle.std.proofs.Common.{refl}
use Rattle.chain_modules.{specs.{declared.modules.Modules.Modules, Kept.kept_of}, proofs.SceneLemmas.redelegation_scene}
use Rattle.rule_modules.specs.Chain.{redelegations_step}
use Rattle.chain_transactions.proofs.GoLemmas.{all_on, ground_stays}
use Rattle.chain_blocks.proofs.{EndLemmas.{redelegations_lead, redelegations_next, step_leads}, TakesLemmas.takes}
use Rattle.chain_blocks.proofs.ending.end_redelegations.Goals as goal

pub complete-requires : goal.complete-requires
complete-requires g c = let s = c.requires.steady in record { entries = (redelegation_scene c.args.modules.now s.state s.stands.keeps s.stands.sound).entries }

pub returns-clause-takes : goal.returns-clause-takes
returns-clause-takes g c =
    let old : Modules g.row.E.Denot = c.args.modules.now in
    let after = c.complete.new in
    let new : Modules g.row.E.Denot = record { ground = old.ground; stakes = record { staking = old.stakes.staking; unbondings = old.stakes.unbondings; redelegations = after.self }; hooks = old.hooks } in
    takes redelegations_step old new c.complete.result c.requires.steady (all_on old new (ground_stays old new refl) refl refl c.complete.ensures.behind refl)
    (λ p s. step_leads redelegations_step p (kept_of new) c.complete.result (redelegations_next p s.sound s.whole) (redelegations_lead old new p s.keeps refl refl refl refl c.complete.result refl refl c.complete.ensures.lists c.complete.ensures.fault))
