use Rattle.std.proofs.Common.{true, false, refl, arith}
use Rattle.test_values.proofs.role_tests.outcome_of_sending.Goals as goal

-- the validator's operator is in the list, and nothing is started
pub send_between_hooks-requires-clause-ready : goal.send_between_hooks-requires-clause-ready
send_between_hooks-requires-clause-ready g c = (
  (tt, tt),
  (
    (tt, tt),
    (
      record { operators = λ o. true; started = λ w o. false },
      record {
        stand = record { lists = (tt, tt, refl); owed = tt; late = omega arith; in_order = c.empty_ground-g.ensures.in_order };
        needs = (refl, refl);
        tokens = rw c.validator-v.ensures.tokens (omega arith);
      },
    ),
  ),
)
