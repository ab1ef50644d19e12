use Rattle.std.proofs.Common.{◌≡◌, ◌∙◌, true, false, [], Some, None, refl, sym, ap}
use Rattle.rule_machine.specs.GenesisConditions.{has_operator_twice, has_cons_twice, has_wrong_rate, has_no_minimum}
use Rattle.chain_whole.proofs.ConditionLemmas.{holds_first, fails_first, minimum_test, rate_tests, cons_tests}
use Rattle.chain_whole.proofs.conditions.validator_condition.Goals as goal

pub returns-then-branch-clause-number : goal.returns-then-branch-clause-number
returns-then-branch-clause-number c =
    let g = c.args.genesis.now in
    let e3 : has_operator_twice g.validators ≡ true = ap has_operator_twice (sym c.as_slice-validators.ensures) ∙ sym c.in_ok-has_operator_twice.ensures ∙ c.if-branch.true in
    holds_first 3 (has_operator_twice g.validators) (cons_tests g) e3

pub returns-then-branch-2-clause-number : goal.returns-then-branch-2-clause-number
returns-then-branch-2-clause-number c =
    let g = c.args.genesis.now in
    let e3 : has_operator_twice g.validators ≡ false = ap has_operator_twice (sym c.as_slice-validators.ensures) ∙ sym c.in_ok-has_operator_twice.ensures ∙ c.if-branch.false in
    let e4 : has_cons_twice g.validators ≡ true = ap has_cons_twice (sym c.as_slice-validators.ensures) ∙ sym c.in_ok-has_cons_twice.ensures ∙ c.if-branch-2.true in
    fails_first 3 (has_operator_twice g.validators) (cons_tests g) (Some 4) e3
    (holds_first 4 (has_cons_twice g.validators) (rate_tests g) e4)

pub returns-then-has_wrong_rate-clause-number : goal.returns-then-has_wrong_rate-clause-number
returns-then-has_wrong_rate-clause-number c =
    let g = c.args.genesis.now in
    let e3 : has_operator_twice g.validators ≡ false = ap has_operator_twice (sym c.as_slice-validators.ensures) ∙ sym c.in_ok-has_operator_twice.ensures ∙ c.if-branch.false in
    let e4 : has_cons_twice g.validators ≡ false = ap has_cons_twice (sym c.as_slice-validators.ensures) ∙ sym c.in_ok-has_cons_twice.ensures ∙ c.if-branch-2.false in
    let e5 : has_wrong_rate g.params g.validators ≡ true = ap (has_wrong_rate g.params) (sym c.as_slice-validators.ensures) ∙ sym c.if-has_wrong_rate.ensures in
    fails_first 3 (has_operator_twice g.validators) (cons_tests g) (Some 5) e3
    (fails_first 4 (has_cons_twice g.validators) (rate_tests g) (Some 5) e4
    (holds_first 5 (has_wrong_rate g.params g.validators) (minimum_test g) e5))

pub returns-then-has_no_minimum-clause-number : goal.returns-then-has_no_minimum-clause-number
returns-then-has_no_minimum-clause-number c =
    let g = c.args.genesis.now in
    let e3 : has_operator_twice g.validators ≡ false = ap has_operator_twice (sym c.as_slice-validators.ensures) ∙ sym c.in_ok-has_operator_twice.ensures ∙ c.if-branch.false in
    let e4 : has_cons_twice g.validators ≡ false = ap has_cons_twice (sym c.as_slice-validators.ensures) ∙ sym c.in_ok-has_cons_twice.ensures ∙ c.if-branch-2.false in
    let e5 : has_wrong_rate g.params g.validators ≡ false = ap (has_wrong_rate g.params) (sym c.as_slice-validators.ensures) ∙ sym c.if-has_wrong_rate.ensures in
    let e6 : has_no_minimum g.validators ≡ true = ap has_no_minimum (sym c.as_slice-validators.ensures) ∙ sym c.if-has_no_minimum.ensures in
    fails_first 3 (has_operator_twice g.validators) (cons_tests g) (Some 6) e3
    (fails_first 4 (has_cons_twice g.validators) (rate_tests g) (Some 6) e4
    (fails_first 5 (has_wrong_rate g.params g.validators) (minimum_test g) (Some 6) e5
    (holds_first 6 (has_no_minimum g.validators) [] e6)))

pub returns-clause-number : goal.returns-clause-number
returns-clause-number c =
    let g = c.args.genesis.now in
    let e3 : has_operator_twice g.validators ≡ false = ap has_operator_twice (sym c.as_slice-validators.ensures) ∙ sym c.in_ok-has_operator_twice.ensures ∙ c.if-branch.false in
    let e4 : has_cons_twice g.validators ≡ false = ap has_cons_twice (sym c.as_slice-validators.ensures) ∙ sym c.in_ok-has_cons_twice.ensures ∙ c.if-branch-2.false in
    let e5 : has_wrong_rate g.params g.validators ≡ false = ap (has_wrong_rate g.params) (sym c.as_slice-validators.ensures) ∙ sym c.if-has_wrong_rate.ensures in
    let e6 : has_no_minimum g.validators ≡ false = ap has_no_minimum (sym c.as_slice-validators.ensures) ∙ sym c.if-has_no_minimum.ensures in
    fails_first 3 (has_operator_twice g.validators) (cons_tests g) None e3
    (fails_first 4 (has_cons_twice g.validators) (rate_tests g) None e4
    (fails_first 5 (has_wrong_rate g.params g.validators) (minimum_test g) None e5
    (fails_first 6 (has_no_minimum g.validators) [] None e6 refl)))
