-- What the accounts of the modules owe (the invariants of `x/staking/keeper` and `x/distribution/keeper`).
use Rattle.std.specs.Prelude.{◌≡◌, ℕ, ◌+◌, List, map, sum, Some}
use Rattle.std.specs.Map.{values_of}
use Rattle.base_types.specs.declared.account.Account.TheVariants as account
use Rattle.base_types.specs.declared.account.Module.TheVariants as holder
use Rattle.base_coins.specs.Coins.{amount_of}
use Rattle.base_roles.specs.declared.entities.UnbondingEntry.{UnbondingEntry}
use Rattle.base_roles.specs.Holdings.{coins_of}
use Rattle.base_roles.specs.Owing.{HoldsOwed}
use Rattle.base_roles.specs.Staked.{Staked, bonded_tokens, other_tokens}
use Rattle.rule_modules.specs.Amounts.{bond_coins}
use Rattle.rule_modules.specs.Chain.{State, shared_in}
use Rattle.rule_modules.specs.Distribution.{Shared}
use Rattle.rule_modules.specs.Unbondings.{UnbondingLists}

-- the bonded account owes the tokens of bonded validators (`ModuleAccountInvariants`)
abbrev pub owed_from_bonded : Staked → ℕ
owed_from_bonded s = bonded_tokens s

-- the balances of unbonding entries
abbrev pub balances_of : List UnbondingEntry → ℕ
balances_of es = sum (map (λ e. e.balance) es)

-- the balances of all unbonding entries
abbrev pub entry_balances : UnbondingLists → ℕ
entry_balances u = sum (map balances_of (values_of u))

-- the not-bonded account owes the tokens of all other validators and the balances of all unbonding entries
abbrev pub owed_from_not_bonded : Staked → UnbondingLists → ℕ
owed_from_not_bonded s u = other_tokens s + entry_balances u

-- the distribution account owes all that is outstanding and the pool, in units of 10^-18 (`ModuleAccountInvariant`)
abbrev pub owed_from_distribution : Shared → List ℕ → ℕ
owed_from_distribution d denom = sum (map (λ p. amount_of p.outstanding denom) (values_of d.purses.purses)) + amount_of d.purses.pool denom

-- The two staking accounts hold exactly what they owe, in the bond denomination, and nothing else; the distribution
-- account holds exactly what it owes, in each denomination.
pub record HoldsWhatIsOwed (w : State) : Type 0 where
  pub bonded : coins_of w.view.bank (account.Module holder.Bonded) ≡ bond_coins w.view (owed_from_bonded w.mine.staked)
  pub not_bonded : coins_of w.view.bank (account.Module holder.NotBonded) ≡ bond_coins w.view (owed_from_not_bonded w.mine.staked w.mine.unbondings)
  pub distribution : HoldsOwed (Some (owed_from_distribution (shared_in w))) w.view
