use Rattle.std.proofs.Common.{◌≡◌, ◌∙◌, ℕ, true, false, ◌∷◌, ◌++◌, Option, Some, sym, ap, not, ◌||◌, nat_le}
use Rattle.base_roles.specs.Ground.{end_of_blocks}
use Rattle.rule_machine.specs.Genesis.{are_in_range, has_wrong_account, first_that_holds}
use Rattle.rule_machine.specs.GenesisConditions.{start_condition}
use Rattle.chain_whole.proofs.ConditionLemmas.{holds_first, fails_first, holds_among, fails_among, if_ok, validator_tests, delegation_tests, amount_tests}
use Rattle.chain_whole.proofs.conditions.condition.Goals as goal

pub returns-then-is_out_of_range-clause-number : goal.returns-then-is_out_of_range-clause-number
returns-then-is_out_of_range-clause-number c =
    let g = c.args.genesis.now in
    let e1 : (not (are_in_range g.params) || nat_le end_of_blocks g.time) ≡ true = sym c.if-is_out_of_range.ensures in
    holds_first 1 (not (are_in_range g.params) || nat_le end_of_blocks g.time) ((2, has_wrong_account g.accounts) ∷ validator_tests g ++ delegation_tests g ++ amount_tests g) e1

pub returns-then-branch-clause-number : goal.returns-then-branch-clause-number
returns-then-branch-clause-number c =
    let g = c.args.genesis.now in
    let e1 : (not (are_in_range g.params) || nat_le end_of_blocks g.time) ≡ false = sym c.if-is_out_of_range.ensures in
    let e2 : has_wrong_account g.accounts ≡ true = ap has_wrong_account (sym c.as_slice.ensures) ∙ sym c.in_ok-has_wrong_account.ensures ∙ c.if-branch.true in
    fails_first 1 (not (are_in_range g.params) || nat_le end_of_blocks g.time) ((2, has_wrong_account g.accounts) ∷ validator_tests g ++ delegation_tests g ++ amount_tests g) (Some 2) e1
    (holds_first 2 (has_wrong_account g.accounts) (validator_tests g ++ delegation_tests g ++ amount_tests g) e2)

pub returns-in-Some-clause-number : goal.returns-in-Some-clause-number
returns-in-Some-clause-number c =
    let g = c.args.genesis.now in
    let e1 : (not (are_in_range g.params) || nat_le end_of_blocks g.time) ≡ false = sym c.if-is_out_of_range.ensures in
    let e2 : has_wrong_account g.accounts ≡ false = ap has_wrong_account (sym c.as_slice.ensures) ∙ sym c.in_ok-has_wrong_account.ensures ∙ c.if-branch.false in
    fails_first 1 (not (are_in_range g.params) || nat_le end_of_blocks g.time) ((2, has_wrong_account g.accounts) ∷ validator_tests g ++ delegation_tests g ++ amount_tests g) (Some c.in-Some.number) e1
    (fails_first 2 (has_wrong_account g.accounts) (validator_tests g ++ delegation_tests g ++ amount_tests g) (Some c.in-Some.number) e2
    (holds_among (validator_tests g) (delegation_tests g ++ amount_tests g) c.in_ok-validator_condition.field-0 c.in-Some.number c.in-Some.is c.in_ok-validator_condition.ensures.number))

pub returns-in-None-clause-number : goal.returns-in-None-clause-number
returns-in-None-clause-number c =
    let g = c.args.genesis.now in
    let e1 : (not (are_in_range g.params) || nat_le end_of_blocks g.time) ≡ false = sym c.if-is_out_of_range.ensures in
    let e2 : has_wrong_account g.accounts ≡ false = ap has_wrong_account (sym c.as_slice.ensures) ∙ sym c.in_ok-has_wrong_account.ensures ∙ c.if-branch.false in
    if_ok (λ (n : Option ℕ). n ≡ first_that_holds (delegation_tests g ++ amount_tests g)) (λ (n : Option ℕ). n ≡ start_condition g) c.stake_condition.result c.stake_condition.ensures.number
    (λ n e. fails_first 1 (not (are_in_range g.params) || nat_le end_of_blocks g.time) ((2, has_wrong_account g.accounts) ∷ validator_tests g ++ delegation_tests g ++ amount_tests g) n e1
    (fails_first 2 (has_wrong_account g.accounts) (validator_tests g ++ delegation_tests g ++ amount_tests g) n e2
    (fails_among (validator_tests g) (delegation_tests g ++ amount_tests g) c.in_ok-validator_condition.field-0 n c.in-None.is c.in_ok-validator_condition.ensures.number e)))
