use Rattle.std.proofs.Common.{refl}
use Rattle.line_json.proofs.OnWritten.{written_on_literals}
use Rattle.line_json.proofs.written.lines_written_by_example.Goals as goal

pub returns-clause-run : goal.returns-clause-run
unfolding written_on_literals
returns-clause-run c = record { genesis = refl; block_is = refl }

pub returns-clause-order : goal.returns-clause-order
unfolding written_on_literals
returns-clause-order c = record { beginning_first = refl }

pub returns-clause-payments : goal.returns-clause-payments
unfolding written_on_literals
returns-clause-payments c = record { transfer = refl; burn = refl; paid = refl; commission = refl }

pub returns-clause-rewards : goal.returns-clause-rewards
unfolding written_on_literals
returns-clause-rewards c = record { allocated = refl; pooled = refl; period = refl; started = refl }

pub returns-clause-validators : goal.returns-clause-validators
unfolding written_on_literals
returns-clause-validators c = record {
  slashed = refl;
  bonded = refl;
  unbonding = refl;
  unbonded = refl;
  jailed = refl;
  unjailed = refl;
  tombstoned = refl;
  removed = refl;
}

pub returns-clause-parameters : goal.returns-clause-parameters
unfolding written_on_literals
returns-clause-parameters c = record { changed = refl }

pub returns-clause-outcomes : goal.returns-clause-outcomes
unfolding written_on_literals
returns-clause-outcomes c = record {
  accepted = refl;
  unpaid = refl;
  short = refl;
  jailed = refl;
  sum = refl;
  quotient = refl;
  period = refl;
  range = refl;
  fixed = refl;
}
