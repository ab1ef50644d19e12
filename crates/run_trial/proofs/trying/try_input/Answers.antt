use Rattle.run_trial.proofs.TryingLemmas.{begun}
use Rattle.run_trial.proofs.trying.try_input.Goals as goal

pub try_chain-requires-clause-started : goal.try_chain-requires-clause-started
try_chain-requires-clause-started c = begun _ _ _ c.in-Ok.ensures.genesis c.in-Ok-genesis.ensures.chain
