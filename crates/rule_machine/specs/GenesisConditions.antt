-- Why a genesis starts nothing: all twelve conditions, of which the first that holds is named (own: their numbers and order).
use Rattle.std.specs.Prelude.{ℕ, ◌==◌, nat_lt, nat_le, not, ◌||◌, Bool, List, [], ◌∷◌, ◌++◌, map, sum, Option}
use Rattle.std.specs.List.{list_any}
use Rattle.base_types.specs.declared.account.Account.TheVariants as account
use Rattle.base_types.specs.declared.account.Module.TheVariants as holder
use Rattle.base_types.specs.Orders.{addr_cmp, cons_cmp}
use Rattle.base_coins.specs.Coins.{Money, coin_then, has_repeats}
use Rattle.base_roles.specs.declared.messages.CreateValidator.{CreateValidator}
use Rattle.base_roles.specs.declared.params.Params.{Params}
use Rattle.base_roles.specs.Ground.{end_of_blocks}
use Rattle.base_roles.specs.Orders.{pair_cmp, same_addr}
use Rattle.base_messages.specs.declared.genesis.Genesis.{Genesis}
use Rattle.base_messages.specs.declared.genesis.GenesisAccount.{GenesisAccount}
use Rattle.base_messages.specs.declared.genesis.GenesisDelegation.{GenesisDelegation}
use Rattle.base_messages.specs.declared.genesis.GenesisValidator.{GenesisValidator}
use Rattle.rule_modules.specs.Validators.{are_out_of_range}
use Rattle.rule_machine.specs.Genesis.{supplies_with, are_in_range, has_wrong_account, has_too_much, denominations_with, first_that_holds}

-- ---- validators

-- the message that would create a validator of the genesis, with an amount of nothing (`x/genutil`: genesis transactions)
abbrev pub creation_of : List ℕ → GenesisValidator → CreateValidator
creation_of bond v = record {
  validator = v.operator;
  cons = v.cons;
  rate = v.rate;
  max_rate = v.max_rate;
  max_change_rate = v.max_change_rate;
  min_self_delegation = v.min_self_delegation;
  amount = record { denom = bond; amount = 0 };
}

-- two validators have one operator
abbrev pub has_operator_twice : List GenesisValidator → Bool
has_operator_twice vs = has_repeats addr_cmp (map (λ v. v.operator) vs)

-- two validators have one consensus address
abbrev pub has_cons_twice : List GenesisValidator → Bool
has_cons_twice vs = has_repeats cons_cmp (map (λ v. v.cons) vs)

-- some rates are no rates, or a rate is below the chain's minimum (`CommissionRates.Validate`)
abbrev pub has_wrong_rate : Params → List GenesisValidator → Bool
has_wrong_rate p vs = list_any (λ v. are_out_of_range (creation_of p.bond_denom v) || nat_lt v.rate p.min_commission_rate) vs

-- a validator asks no self-delegation of its operator (`ErrMinSelfDelegationInvalid`)
abbrev pub has_no_minimum : List GenesisValidator → Bool
has_no_minimum vs = list_any (λ v. v.min_self_delegation == 0) vs

-- ---- delegations

-- the operator is a validator's
abbrev pub validates : List GenesisValidator → List ℕ → Bool
validates vs operator = list_any (λ v. same_addr v.operator operator) vs

-- somebody delegates to the operator
abbrev pub is_delegated_to : List GenesisDelegation → List ℕ → Bool
is_delegated_to ds operator = list_any (λ d. same_addr d.validator operator) ds

-- a delegation is to an operator that no validator has
abbrev pub has_unknown_operator : List GenesisValidator → List GenesisDelegation → Bool
has_unknown_operator vs ds = list_any (λ d. not (validates vs d.validator)) ds

-- two delegations are of one delegator to one operator
abbrev pub has_pair_twice : List GenesisDelegation → Bool
has_pair_twice ds = has_repeats pair_cmp (map (λ d. (d.validator, d.delegator)) ds)

-- a delegation is of nothing
abbrev pub has_empty_delegation : List GenesisDelegation → Bool
has_empty_delegation ds = list_any (λ d. d.amount == 0) ds

-- nobody delegates to some validator
abbrev pub has_lonely_validator : List GenesisValidator → List GenesisDelegation → Bool
has_lonely_validator vs ds = list_any (λ v. not (is_delegated_to ds v.operator)) vs

-- ---- all conditions

-- what is delegated, all together
abbrev pub delegated_coins : Genesis → Money
delegated_coins g = coin_then g.params.bond_denom (sum (map (λ d. d.amount) g.delegations)) []

-- The accounts, and last the not-bonded account, which has what is delegated (`x/staking`: `InitGenesis`,
-- `notBondedTokens`).
abbrev pub accounts_at_start : Genesis → List GenesisAccount
accounts_at_start g = g.accounts ++ record { address = account.Module holder.NotBonded; coins = delegated_coins g } ∷ []

-- The number of the first condition that keeps a genesis from starting a chain: a parameter or the time out of range;
-- wrong accounts; an operator, a consensus address twice; wrong rates; no least self-delegation; an unknown operator; a
-- pair twice; a delegation of nothing; a validator without one; too much of a denomination; too many denominations.
abbrev pub start_condition : Genesis → Option ℕ
start_condition g =
    let supplies = supplies_with (accounts_at_start g) [] in
    first_that_holds
    ((1, not (are_in_range g.params) || nat_le end_of_blocks g.time)
    ∷ (2, has_wrong_account g.accounts)
    ∷ (3, has_operator_twice g.validators)
    ∷ (4, has_cons_twice g.validators)
    ∷ (5, has_wrong_rate g.params g.validators)
    ∷ (6, has_no_minimum g.validators)
    ∷ (7, has_unknown_operator g.validators g.delegations)
    ∷ (8, has_pair_twice g.delegations)
    ∷ (9, has_empty_delegation g.delegations)
    ∷ (10, has_lonely_validator g.validators g.delegations)
    ∷ (11, has_too_much supplies)
    ∷ (12, nat_lt 1_000_000 (denominations_with g.params.bond_denom supplies))
    ∷ [])
