use Rattle.base_roles.specs.Ground.{seen}
use Rattle.test_modules.proofs.UnbondingLemmas.{scene-of_kept, stake-of_fit, fit-none}
use Rattle.test_modules.proofs.unbonding_tests.create.Goals as goal

pub create_validator-requires : goal.create_validator-requires
create_validator-requires g c =
    let u = c.args.scene.now.unbondings.lists in
    let s = c.args.scene.now.staking.staked in
    let v = seen (λ b. b.holdings) c.args.scene.now.g in
    record { scene = record { hooked = (scene-of_kept u s v c.requires.fit.kept).hooked; accounts = stake-of_fit u s v c.requires.fit } }

pub returns-clause-fit : goal.returns-clause-fit
returns-clause-fit g c =
    fit-none c.args.scene.now.unbondings.lists c.create_validator.new.self.staked (seen (λ b. b.holdings) c.create_validator.new.g) c.requires.lists
    c.in_ok-create_validator.ensures.scene.hooked.sound c.in_ok-create_validator.ensures.scene.hooked.stand.1.1.in_order c.in_ok-create_validator.ensures.scene.accounts
