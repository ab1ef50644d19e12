use Rattle.chain_modules.proofs.ErasingLemmas.{blocks_unheard}
use Rattle.chain_modules.proofs.laws.a_listener_changes_nothing.Goals as goal

pub returns : goal.returns
returns g c = λ b w e. blocks_unheard g.E.Extra.hears g.E.Extra.parted g.E.Extra.ended b w e
