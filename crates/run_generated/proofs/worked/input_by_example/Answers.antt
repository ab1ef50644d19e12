use Rattle.std.proofs.Common.{refl}
use Rattle.run_generated.proofs.OnLiterals.{gen_on_literals}
use Rattle.run_generated.proofs.worked.input_by_example.Goals as goal

pub returns-clause-draws : goal.returns-clause-draws
unfolding gen_on_literals
returns-clause-draws c = record { least = refl; greatest = refl }

pub returns-clause-messages : goal.returns-clause-messages
returns-clause-messages c = record {
  delegation = refl;
  undelegation = refl;
  redelegation = refl;
  reward = refl;
  commission = refl;
  payment = refl;
  commission_paid = refl;
  payment_paid = refl;
}

pub returns-clause-zero : goal.returns-clause-zero
unfolding gen_on_literals
returns-clause-zero c = record { first = refl; second = refl; third = refl }

pub returns-clause-others : goal.returns-clause-others
unfolding gen_on_literals
returns-clause-others c = record { seven = refl; greatest = refl; behind_greatest = refl }

pub returns-clause-evidence : goal.returns-clause-evidence
unfolding gen_on_literals
returns-clause-evidence c = record { second = refl }

pub returns-clause-lines : goal.returns-clause-lines
unfolding gen_on_literals
returns-clause-lines c = record {
  genesis = refl;
  redelegation = refl;
  evidence = refl;
  delegation = refl;
  undelegation = refl;
  payment = refl;
  commission = refl;
  reward = refl;
}

pub returns-clause-spelled : goal.returns-clause-spelled
unfolding gen_on_literals
returns-clause-spelled c = record { delegation = refl }
