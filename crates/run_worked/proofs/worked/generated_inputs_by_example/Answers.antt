use Rattle.std.proofs.Common.{refl}
use Rattle.run_generated.proofs.OnLiterals.{gen_on_literals}
use Rattle.run_worked.proofs.worked.generated_inputs_by_example.Goals as goal

pub returns-clause-one : goal.returns-clause-one
unfolding gen_on_literals
returns-clause-one c = refl

pub returns-clause-two : goal.returns-clause-two
unfolding gen_on_literals
returns-clause-two c = refl
