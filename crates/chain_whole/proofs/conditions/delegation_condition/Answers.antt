use Rattle.std.proofs.Common.{◌≡◌, ◌∙◌, true, false, [], Some, None, refl, sym, ap, List}
use Rattle.base_messages.specs.declared.genesis.{GenesisDelegation.GenesisDelegation, GenesisValidator.GenesisValidator}
use Rattle.rule_machine.specs.GenesisConditions.{has_unknown_operator, has_pair_twice, has_empty_delegation, has_lonely_validator}
use Rattle.chain_whole.proofs.ConditionLemmas.{holds_first, fails_first, lonely_test, empty_tests, pair_tests}
use Rattle.chain_whole.proofs.conditions.delegation_condition.Goals as goal

pub returns-then-branch-clause-number : goal.returns-then-branch-clause-number
returns-then-branch-clause-number c =
    let g = c.args.genesis.now in
    let e7 : has_unknown_operator g.validators g.delegations ≡ true = ap (λ (vs : List GenesisValidator). has_unknown_operator vs g.delegations) (sym c.as_slice-validators.ensures) ∙ ap (λ (ds : List GenesisDelegation). has_unknown_operator c.as_slice-validators.result.now ds) (sym c.as_slice-delegations.ensures) ∙ sym c.in_ok-has_unknown_operator.ensures ∙ c.if-branch.true in
    holds_first 7 (has_unknown_operator g.validators g.delegations) (pair_tests g) e7

pub returns-then-branch-2-clause-number : goal.returns-then-branch-2-clause-number
returns-then-branch-2-clause-number c =
    let g = c.args.genesis.now in
    let e7 : has_unknown_operator g.validators g.delegations ≡ false = ap (λ (vs : List GenesisValidator). has_unknown_operator vs g.delegations) (sym c.as_slice-validators.ensures) ∙ ap (λ (ds : List GenesisDelegation). has_unknown_operator c.as_slice-validators.result.now ds) (sym c.as_slice-delegations.ensures) ∙ sym c.in_ok-has_unknown_operator.ensures ∙ c.if-branch.false in
    let e8 : has_pair_twice g.delegations ≡ true = ap has_pair_twice (sym c.as_slice-delegations.ensures) ∙ sym c.in_ok-has_pair_twice.ensures ∙ c.if-branch-2.true in
    fails_first 7 (has_unknown_operator g.validators g.delegations) (pair_tests g) (Some 8) e7
    (holds_first 8 (has_pair_twice g.delegations) (empty_tests g) e8)

pub returns-then-has_empty_delegation-clause-number : goal.returns-then-has_empty_delegation-clause-number
returns-then-has_empty_delegation-clause-number c =
    let g = c.args.genesis.now in
    let e7 : has_unknown_operator g.validators g.delegations ≡ false = ap (λ (vs : List GenesisValidator). has_unknown_operator vs g.delegations) (sym c.as_slice-validators.ensures) ∙ ap (λ (ds : List GenesisDelegation). has_unknown_operator c.as_slice-validators.result.now ds) (sym c.as_slice-delegations.ensures) ∙ sym c.in_ok-has_unknown_operator.ensures ∙ c.if-branch.false in
    let e8 : has_pair_twice g.delegations ≡ false = ap has_pair_twice (sym c.as_slice-delegations.ensures) ∙ sym c.in_ok-has_pair_twice.ensures ∙ c.if-branch-2.false in
    let e9 : has_empty_delegation g.delegations ≡ true = ap has_empty_delegation (sym c.as_slice-delegations.ensures) ∙ sym c.if-has_empty_delegation.ensures in
    fails_first 7 (has_unknown_operator g.validators g.delegations) (pair_tests g) (Some 9) e7
    (fails_first 8 (has_pair_twice g.delegations) (empty_tests g) (Some 9) e8
    (holds_first 9 (has_empty_delegation g.delegations) (lonely_test g) e9))

pub returns-then-branch-3-clause-number : goal.returns-then-branch-3-clause-number
returns-then-branch-3-clause-number c =
    let g = c.args.genesis.now in
    let e7 : has_unknown_operator g.validators g.delegations ≡ false = ap (λ (vs : List GenesisValidator). has_unknown_operator vs g.delegations) (sym c.as_slice-validators.ensures) ∙ ap (λ (ds : List GenesisDelegation). has_unknown_operator c.as_slice-validators.result.now ds) (sym c.as_slice-delegations.ensures) ∙ sym c.in_ok-has_unknown_operator.ensures ∙ c.if-branch.false in
    let e8 : has_pair_twice g.delegations ≡ false = ap has_pair_twice (sym c.as_slice-delegations.ensures) ∙ sym c.in_ok-has_pair_twice.ensures ∙ c.if-branch-2.false in
    let e9 : has_empty_delegation g.delegations ≡ false = ap has_empty_delegation (sym c.as_slice-delegations.ensures) ∙ sym c.if-has_empty_delegation.ensures in
    let e10 : has_lonely_validator g.validators g.delegations ≡ true = ap (λ (vs : List GenesisValidator). has_lonely_validator vs g.delegations) (sym c.as_slice-validators.ensures) ∙ ap (λ (ds : List GenesisDelegation). has_lonely_validator c.as_slice-validators.result.now ds) (sym c.as_slice-delegations.ensures) ∙ sym c.in_ok-has_lonely_validator.ensures ∙ c.if-branch-3.true in
    fails_first 7 (has_unknown_operator g.validators g.delegations) (pair_tests g) (Some 10) e7
    (fails_first 8 (has_pair_twice g.delegations) (empty_tests g) (Some 10) e8
    (fails_first 9 (has_empty_delegation g.delegations) (lonely_test g) (Some 10) e9
    (holds_first 10 (has_lonely_validator g.validators g.delegations) [] e10)))

pub returns-clause-number : goal.returns-clause-number
returns-clause-number c =
    let g = c.args.genesis.now in
    let e7 : has_unknown_operator g.validators g.delegations ≡ false = ap (λ (vs : List GenesisValidator). has_unknown_operator vs g.delegations) (sym c.as_slice-validators.ensures) ∙ ap (λ (ds : List GenesisDelegation). has_unknown_operator c.as_slice-validators.result.now ds) (sym c.as_slice-delegations.ensures) ∙ sym c.in_ok-has_unknown_operator.ensures ∙ c.if-branch.false in
    let e8 : has_pair_twice g.delegations ≡ false = ap has_pair_twice (sym c.as_slice-delegations.ensures) ∙ sym c.in_ok-has_pair_twice.ensures ∙ c.if-branch-2.false in
    let e9 : has_empty_delegation g.delegations ≡ false = ap has_empty_delegation (sym c.as_slice-delegations.ensures) ∙ sym c.if-has_empty_delegation.ensures in
    let e10 : has_lonely_validator g.validators g.delegations ≡ false = ap (λ (vs : List GenesisValidator). has_lonely_validator vs g.delegations) (sym c.as_slice-validators.ensures) ∙ ap (λ (ds : List GenesisDelegation). has_lonely_validator c.as_slice-validators.result.now ds) (sym c.as_slice-delegations.ensures) ∙ sym c.in_ok-has_lonely_validator.ensures ∙ c.if-branch-3.false in
    fails_first 7 (has_unknown_operator g.validators g.delegations) (pair_tests g) None e7
    (fails_first 8 (has_pair_twice g.delegations) (empty_tests g) None e8
    (fails_first 9 (has_empty_delegation g.delegations) (lonely_test g) None e9
    (fails_first 10 (has_lonely_validator g.validators g.delegations) [] None e10 refl)))
