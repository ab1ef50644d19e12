use Rattle.test_modules.proofs.UnbondingLemmas.{room-first}
use Rattle.test_modules.proofs.unbonding_records.load_one.Goals as goal

pub load-requires : goal.load-requires
load-requires g c = record { room = room-first _ _ c.requires }
