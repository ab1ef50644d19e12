use Rattle.base_roles.specs.Ground.{seen}
use Rattle.test_modules.proofs.UnbondingLemmas.{scene-of_kept, fit-after}
use Rattle.test_modules.proofs.unbonding_tests.undelegate.Goals as goal

pub undelegate-requires-clause-scene : goal.undelegate-requires-clause-scene
undelegate-requires-clause-scene g c = scene-of_kept c.args.scene.now.unbondings.lists c.args.scene.now.staking.staked (seen (λ b. b.holdings) c.args.scene.now.g) c.requires.kept

pub returns-clause-fit : goal.returns-clause-fit
returns-clause-fit g c =
    fit-after c.undelegate.result c.args.scene.now.unbondings.lists c.undelegate.new.self.lists c.undelegate.new.staking.staked (seen (λ b. b.holdings) c.undelegate.new.g) c.undelegate.ensures.scene c.undelegate.ensures.whole c.requires.whole
