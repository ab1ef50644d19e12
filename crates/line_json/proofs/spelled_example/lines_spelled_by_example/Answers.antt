use Rattle.std.proofs.Common.{refl}
use Rattle.line_json.proofs.SpelledOnLiterals.{spelled_on_literals}
use Rattle.line_json.proofs.spelled_example.lines_spelled_by_example.Goals as goal

pub returns-clause-addresses : goal.returns-clause-addresses
unfolding spelled_on_literals
returns-clause-addresses c = record {
  user = refl;
  user_of_module = refl;
  user_of_digits = refl;
  user_in_capitals = refl;
  operator = refl;
  operator_of_user = refl;
  operator_of_module = refl;
  asked = refl;
  cons = refl;
  cons_written = refl;
  account_is = refl;
  module_is = refl;
  module_name = refl;
}

pub returns-clause-read : goal.returns-clause-read
unfolding spelled_on_literals
returns-clause-read c = record {
  block = refl;
  digits = refl;
  send = refl;
  from_module = refl;
  to_name = refl;
  to_operator = refl;
  delegate = refl;
  at_user = refl;
  create_validator = refl;
}

pub returns-clause-written : goal.returns-clause-written
unfolding spelled_on_literals
returns-clause-written c = record { block = refl; paid = refl; jailed = refl }
