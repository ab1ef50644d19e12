use Rattle.std.proofs.Common.{refl}
use Rattle.line_json.proofs.{OnWritten.written_on_literals, SpelledOnLiterals.spelled_on_literals}
use Rattle.line_report.proofs.worked.reports_by_example.Goals as goal

pub returns-clause-run : goal.returns-clause-run
unfolding written_on_literals
returns-clause-run c = record {
  report = refl;
  of_user = refl;
  of_module = refl;
  of_supply = refl;
  of_pool = refl;
  nobody = refl;
  none_held = refl;
  none_rewarded = refl;
}

pub returns-clause-kinds : goal.returns-clause-kinds
unfolding written_on_literals
returns-clause-kinds c = record {
  report = refl;
  of_all = refl;
  validator_is = refl;
  no_validator = refl;
  delegated = refl;
  rewarded = refl;
  unbonding = refl;
  redelegating = refl;
  signs = refl;
  unsigned = refl;
}

pub returns-clause-state : goal.returns-clause-state
returns-clause-state c = record { items = refl; report = refl }

pub returns-clause-spelled : goal.returns-clause-spelled
unfolding spelled_on_literals
returns-clause-spelled c = record { validator_is = refl; redelegating = refl; delegated = refl; signs = refl; of_module = refl }
