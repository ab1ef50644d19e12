use Rattle.std.proofs.Common.{refl}
use Rattle.chain_modules.specs.{declared.modules.Modules.Modules, Kept.kept_of}
use Rattle.chain_modules.proofs.SceneLemmas.{entries_account, ground_kept, unbonding_scene}
use Rattle.rule_modules.specs.Chain.{unbondings_step}
use Rattle.chain_transactions.proofs.GoLemmas.{all_on}
use Rattle.chain_blocks.proofs.{EndLemmas.{step_leads, unbondings_lead, unbondings_next}, TakesLemmas.takes}
use Rattle.chain_blocks.proofs.ending.pay_unbondings.Goals as goal

pub complete-requires-clause-entries : goal.complete-requires-clause-entries
complete-requires-clause-entries g c = let s = c.requires.steady in (unbonding_scene c.args.modules.now s.state s.stands.keeps s.stands.sound).entries

pub complete-requires-clause-in_order : goal.complete-requires-clause-in_order
complete-requires-clause-in_order g c = let s = c.requires.steady in ground_kept c.args.modules.now s.state s.stands.keeps s.stands.sound

pub complete-requires-clause-account : goal.complete-requires-clause-account
complete-requires-clause-account g c = let s = c.requires.steady in entries_account c.args.modules.now s.state s.stands.keeps s.stands.sound

pub returns-clause-takes : goal.returns-clause-takes
returns-clause-takes g c =
    let old : Modules g.row.E.Denot = c.args.modules.now in
    let after = c.complete.new in
    let new : Modules g.row.E.Denot = record { ground = after.g; stakes = record { staking = old.stakes.staking; unbondings = after.self; redelegations = old.stakes.redelegations }; hooks = old.hooks } in
    takes unbondings_step old new c.complete.result c.requires.steady (all_on old new c.complete.ensures.undone refl c.complete.ensures.behind refl refl)
    (λ p s. step_leads unbondings_step p (kept_of new) c.complete.result (unbondings_next p s.sound s.whole) (unbondings_lead old new p s.keeps c.complete.ensures.undone.ctx refl refl refl c.complete.result refl c.complete.ensures.lists c.complete.ensures.ground c.complete.ensures.fault))
