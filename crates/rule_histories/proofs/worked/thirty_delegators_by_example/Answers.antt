use Rattle.std.proofs.Common.{refl, arith}
use Rattle.rule_histories.proofs.worked.thirty_delegators_by_example.Goals as goal

pub returns : goal.returns
returns c = record { run = refl; below_a_unit = omega arith }
