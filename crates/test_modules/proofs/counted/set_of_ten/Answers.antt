use Rattle.chain_modules.proofs.HeardLemmas.{heard_scene}
use Rattle.test_modules.proofs.CountedLemmas.{eight, four, of_ten}
use Rattle.test_modules.proofs.counted.set_of_ten.Goals as goal

pub update-requires-clause-scene : goal.update-requires-clause-scene
update-requires-clause-scene g c = heard_scene g.E.Extra.hears g.E.Extra.heard c.args.modules.now.hooks _ _ c.requires.scene.scene

pub update-requires-clause-power : goal.update-requires-clause-power
update-requires-clause-power g c = c.requires.scene.power

pub returns : goal.returns
returns g c =
    let stand = (heard_scene g.E.Extra.hears g.E.Extra.heard c.args.modules.now.hooks _ _ c.requires.scene.scene).hooked.stand in
    of_ten c.args.steps.now c.update.new.steps _ _ c.requires.most c.requires.bonded (c.update.ensures.cost stand.0 stand.1.0 four eight)
