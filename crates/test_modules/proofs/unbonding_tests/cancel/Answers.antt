use Rattle.base_roles.specs.Ground.{seen}
use Rattle.test_modules.proofs.UnbondingLemmas.{scene-of_kept, kept-after}
use Rattle.test_modules.proofs.unbonding_tests.cancel.Goals as goal

pub cancel-requires : goal.cancel-requires
cancel-requires g c = record { scene = scene-of_kept c.args.scene.now.unbondings.lists c.args.scene.now.staking.staked (seen (λ b. b.holdings) c.args.scene.now.g) c.requires }

pub returns-clause-fit : goal.returns-clause-fit
returns-clause-fit g c = kept-after c.cancel.result c.cancel.new.self.lists c.cancel.new.staking.staked (seen (λ b. b.holdings) c.cancel.new.g) c.cancel.ensures.scene
