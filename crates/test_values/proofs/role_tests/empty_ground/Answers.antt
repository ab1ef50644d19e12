use Rattle.std.proofs.Common.{arith}
use Rattle.base_roles.proofs.HoldingLemmas.{backed-none}
use Rattle.test_values.proofs.role_tests.empty_ground.Goals as goal

pub returns-clause-in_order : goal.returns-clause-in_order
returns-clause-in_order g c = record { params = c.params.ensures; time = rw c.moment.ensures (omega arith); height = omega arith; bank = backed-none }
