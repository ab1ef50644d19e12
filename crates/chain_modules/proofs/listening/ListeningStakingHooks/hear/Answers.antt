use Rattle.chain_modules.proofs.ListeningLemmas.{listened, listener_may, listener_steps}
use Rattle.chain_modules.proofs.listening.ListeningStakingHooks.hear.Goals as goal

pub hear-requires : goal.hear-requires
hear-requires g c = listener_may g.E.Extra.hears g.met.E.StakingHooks.lawful g.met.E.Extra.listens c.args.self.now.listener _ _ c.requires

pub returns-clause-told : goal.returns-clause-told
returns-clause-told g c = λ p is.
    listened g.E.Extra.hears g.met.E.StakingHooks.lawful g.met.E.Extra.listens c.args.self.now.listener c.hear.new.self p _ _ _ _ is c.hear.ensures.told

pub returns-clause-cost : goal.returns-clause-cost
returns-clause-cost g c = λ v e p is.
    listener_steps g.E.Extra.hears g.met.E.StakingHooks.lawful g.met.E.Extra.listens c.args.self.now.listener _ _ (c.hear.ensures.cost v e)
