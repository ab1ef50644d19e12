use Rattle.base_roles.proofs.HookLemmas.{second_may}
use Rattle.base_roles.proofs.pair.HookPairStakingHooks.hear.Goals as goal

pub hear-requires-2 : goal.hear-requires-2
hear-requires-2 g c = second_may _ _ g.met.X.StakingHooks.lawful _ _ _ _ _ _ c.requires c.in_ok-hear.ensures.told
