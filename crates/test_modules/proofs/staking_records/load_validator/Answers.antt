use Rattle.std.proofs.Common.{ap, refl}
use Rattle.std.proofs.lemmas.Result.{on_ok_weaker}
use Rattle.mod_staking.specs.Items.{items_of}
use Rattle.test_modules.proofs.StakingLemmas.{none-contained, room-beside}
use Rattle.test_modules.proofs.staking_records.load_validator.Goals as goal

pub load-requires : goal.load-requires
load-requires g c = record { room = λ i has same. absurd (none-contained _ i (ap items_of c.requires) has) }

pub returns-clause-room : goal.returns-clause-room
returns-clause-room g c =
    on_ok_weaker c.load.result (λ added operator delegator shares. room-beside _ _ _ operator delegator shares (ap items_of c.requires) added) (c.load.ensures.added refl)
