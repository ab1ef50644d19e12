use Rattle.std.proofs.Common.{true, false, [], ◌∷◌, refl, arith}
use Rattle.test_values.proofs.forgetting_tests.periods_of_both.Goals as goal

-- the plain values have one height and none; the validator's operator is in the list, and nothing is started
pub send_between_hooks-sent-requires-clause-ready : goal.send_between_hooks-sent-requires-clause-ready
send_between_hooks-sent-requires-clause-ready g c = (
  (1 ∷ [], []),
  (
    (refl, refl),
    (
      record { operators = λ o. true; started = λ w o. false },
      record {
        stand = record { lists = (tt, tt, refl); owed = tt; late = rw c.empty_ground-g.ensures.height (omega arith); in_order = c.empty_ground-g.ensures.in_order };
        needs = (refl, refl);
        tokens = rw c.validator-v.ensures.tokens (omega arith);
      },
    ),
  ),
)
