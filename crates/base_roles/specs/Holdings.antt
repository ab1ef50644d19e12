-- What a bank holds: balances by account and denomination, and supplies, in the order of their keys and without zeros.
use Rattle.std.specs.Prelude.{◌≡◌, ℕ, ◌+◌, ◌-◌, ◌^◌, ◌<◌, ◌≤◌, ◌==◌, nat_lt, Bool, true, false, if◌then◌else◌, List, [], ◌∷◌, ◌++◌, All, Option, Some, None}
use Rattle.std.specs.List.{list_any, filter_map}
use Rattle.std.specs.List.Sorted.{IsStrictlySortedBy}
use Rattle.std.specs.Map.{keys_of}
use Rattle.std.specs.BTreeMap.{is_at}
use Rattle.base_types.specs.declared.account.Account.{Account}
use Rattle.base_types.specs.declared.account.Module.{Module}
use Rattle.base_types.specs.Orders.{account_cmp, denom_cmp}
use Rattle.base_coins.specs.Coins.{Money, amount_of, with_amount}
use Rattle.base_roles.specs.declared.facts.Fact.{Fact}
use Rattle.base_roles.specs.declared.facts.Fact.TheVariants.{Transfer, Burn}
use Rattle.base_roles.specs.Entries.{number_at, with_number, sum_where}
use Rattle.base_roles.specs.Orders.{place_cmp}

-- what an account holds of a denomination stands under both
abbrev pub Balances : Type 0
Balances = List ((Account × List ℕ) × ℕ)

-- balances and supplies
pub record Holdings : Type 0 where
  pub balances : Balances
  pub supplies : Money

-- nobody holds anything
abbrev pub no_holdings : Holdings
no_holdings = record { balances = []; supplies = [] }

-- what an account holds of a denomination
abbrev pub balance_of : Holdings → Account → List ℕ → ℕ
balance_of h who d = number_at place_cmp h.balances (who, d)

-- how much of a denomination there is
abbrev pub supply_of : Holdings → List ℕ → ℕ
supply_of h d = amount_of h.supplies d

-- what all accounts together hold of a denomination
abbrev pub total_of : Holdings → List ℕ → ℕ
total_of h d = sum_where (λ place. is_at (denom_cmp d) place.1) h.balances

-- the holdings with this balance of an account
abbrev pub with_balance : Holdings → Account → List ℕ → ℕ → Holdings
with_balance h who d n = record { balances = with_number place_cmp h.balances (who, d) n; supplies = h.supplies }

-- the sender's balance falls by the amount, then the receiver's rises by it
abbrev pub coin_moved : Account → Account → List ℕ → ℕ → Holdings → Holdings
coin_moved from to d n h =
    let less = with_balance h from d (balance_of h from d - n) in
    with_balance less to d (balance_of less to d + n)

-- each coin moves from one account to the other
abbrev pub moved : Account → Account → Money → Holdings → Holdings
moved from to [] h = h
moved from to (c ∷ cs) h = moved from to cs (coin_moved from to c.0 c.1 h)

-- the account's balance and the supply fall by the amount
abbrev pub coin_burned : Account → List ℕ → ℕ → Holdings → Holdings
coin_burned from d n h =
    let less = with_balance h from d (balance_of h from d - n) in
    record { balances = less.balances; supplies = with_amount h.supplies d (supply_of h d - n) }

-- the same, where there is something to burn
abbrev pub burned : Account → List ℕ → ℕ → Holdings → Holdings
burned from d n h = if n == 0 then h else coin_burned from d n h

-- some coin is above the account's balance
abbrev pub is_short : Holdings → Account → Money → Bool
is_short h who coins = list_any (λ c. nat_lt (balance_of h who c.0) c.1) coins

-- the coin of an entry, where the entry is the account's
abbrev pub coin_if : Bool → List ℕ × ℕ → Option (List ℕ × ℕ)
coin_if true c = Some c
coin_if false c = None

-- all balances of an account
abbrev pub coins_of : Holdings → Account → Money
coins_of h who = filter_map (λ e. coin_if (is_at (account_cmp who) e.0.0) (e.0.1, e.1)) h.balances

-- the facts after a transfer: a transfer of no coins is not told
abbrev pub transfer_told : Account → Account → Money → List Fact → List Fact
transfer_told from to [] facts = facts
transfer_told from to (c ∷ cs) facts = facts ++ Transfer from to (c ∷ cs) ∷ []

-- the facts after a burn: a burn of nothing is not told
abbrev pub burn_told : Module → List ℕ → ℕ → List Fact → List Fact
burn_told from d n facts = if n == 0 then facts else facts ++ Burn from (record { denom = d; amount = n }) ∷ []

-- What a bank in order meets: keys ascend, nothing is 0, each supply is the sum of the balances of its denomination
-- and at most 10^18.
pub record IsBacked (h : Holdings) : Type 0 where
  pub balances_ascend : IsStrictlySortedBy place_cmp (keys_of h.balances)
  pub balances_positive : All (λ e. 0 < e.1) h.balances
  pub supplies_ascend : IsStrictlySortedBy denom_cmp (keys_of h.supplies)
  pub supplies_positive : All (λ c. 0 < c.1) h.supplies
  pub backed : (d : List ℕ) → supply_of h d ≡ total_of h d
  pub bounded : (d : List ℕ) → supply_of h d ≤ 10 ^ 18
