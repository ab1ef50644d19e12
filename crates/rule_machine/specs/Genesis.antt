-- What the accounts of a genesis hold, and conditions on its parameters, its accounts and the amounts.
use Rattle.std.specs.Prelude.{ℕ, ◌+◌, ◌^◌, ◌==◌, nat_lt, ◌||◌, Bool, if◌then◌else◌, List, [], ◌∷◌, map, length, Option, Some, None, is_none}
use Rattle.std.specs.List.{list_any}
use Rattle.base_types.specs.declared.account.Account.{Account}
use Rattle.base_types.specs.Orders.{account_cmp}
use Rattle.base_coins.specs.Coins.{Money, amount_of, with_amount, has_repeats}
use Rattle.base_roles.specs.declared.params.Params.{Params}
use Rattle.base_roles.specs.Entries.{number_at, with_number}
use Rattle.base_roles.specs.Holdings.{Balances, Holdings}
use Rattle.base_roles.specs.Orders.{place_cmp}
use Rattle.base_roles.specs.Ranges.{out_of_range}
use Rattle.base_messages.specs.declared.genesis.GenesisAccount.{GenesisAccount}
use Rattle.rule_modules.specs.Withdrawals.{is_module}

-- ---- what the accounts hold

-- the balances with these coins of an account, each besides what the account had of it
abbrev pub with_coins : Account → Money → Balances → Balances
with_coins who [] balances = balances
with_coins who (c ∷ cs) balances = with_coins who cs (with_number place_cmp balances (who, c.0) (number_at place_cmp balances (who, c.0) + c.1))

-- the balances with the coins of these accounts
abbrev pub balances_with : List GenesisAccount → Balances → Balances
balances_with [] balances = balances
balances_with (a ∷ accounts) balances = balances_with accounts (with_coins a.address a.coins balances)

-- the supplies with these coins, each besides what there was of it
abbrev pub coins_joined : Money → Money → Money
coins_joined [] supplies = supplies
coins_joined (c ∷ cs) supplies = coins_joined cs (with_amount supplies c.0 (amount_of supplies c.0 + c.1))

-- the supplies with the coins of these accounts
abbrev pub supplies_with : List GenesisAccount → Money → Money
supplies_with [] supplies = supplies
supplies_with (a ∷ accounts) supplies = supplies_with accounts (coins_joined a.coins supplies)

-- what the accounts hold, and how much there is of it
abbrev pub held_at_start : List GenesisAccount → Holdings
held_at_start accounts = record { balances = balances_with accounts []; supplies = supplies_with accounts [] }

-- ---- why a genesis starts nothing

-- the parameters are in their ranges
abbrev pub are_in_range : Params → Bool
are_in_range p = is_none (out_of_range p)

-- an account is a module's, or stands twice
abbrev pub has_wrong_account : List GenesisAccount → Bool
has_wrong_account accounts = list_any (λ a. is_module a.address) accounts || has_repeats account_cmp (map (λ a. a.address) accounts)

-- there is more than 10^18 of some denomination
abbrev pub has_too_much : Money → Bool
has_too_much supplies = list_any (λ c. nat_lt (10 ^ 18) c.1) supplies

-- how many denominations these are, with the bond denomination
abbrev pub denominations_with : List ℕ → Money → ℕ
denominations_with bond supplies = length supplies + (if amount_of supplies bond == 0 then 1 else 0)

-- the first of the numbers of which the condition beside it holds
abbrev pub first_that_holds : List (ℕ × Bool) → Option ℕ
first_that_holds [] = None
first_that_holds (c ∷ cs) = if c.1 then Some c.0 else first_that_holds cs
