use Rattle.store_history.proofs.KeepingLemmas.{makes_refl}
use Rattle.store_history.proofs.committing.ready.Goals as goal

pub returns-then-known-clause-same : goal.returns-then-known-clause-same
returns-then-known-clause-same g c = makes_refl (g.D.Keeper.rows c.args.keeper.now)
