-- What accounts hold that are given coins.
use Rattle.std.specs.Prelude.{ℕ, ◌+◌, ◌^◌, ◌≤◌, if◌then◌else◌, List, [], ◌∷◌}
use Rattle.std.specs.BTreeMap.{is_at}
use Rattle.base_types.specs.declared.account.Account.{Account}
use Rattle.base_types.specs.Orders.{account_cmp}
use Rattle.base_coins.specs.Coins.{Money, amount_of, with_amount}
use Rattle.base_roles.specs.Holdings.{Holdings, no_holdings, balance_of, supply_of, with_balance}

-- an account's balance and the supply rise by the amount
abbrev pub coin_given : Account → List ℕ → ℕ → Holdings → Holdings
coin_given who d n h =
    let more = with_balance h who d (balance_of h who d + n) in
    record { balances = more.balances; supplies = with_amount h.supplies d (supply_of h d + n) }

-- each coin is given to the account
abbrev pub coins_given : Account → Money → Holdings → Holdings
coins_given who [] h = h
coins_given who (c ∷ cs) h = coins_given who cs (coin_given who c.0 c.1 h)

-- each account is given its coins
abbrev pub all_given : List (Account × Money) → Holdings → Holdings
all_given [] h = h
all_given (a ∷ rest) h = all_given rest (coins_given a.0 a.1 h)

-- each account holds its coins, and the supplies are their sums
abbrev pub held_by : List (Account × Money) → Holdings
held_by accounts = all_given accounts no_holdings

-- what all accounts together are given of a denomination
abbrev pub given_of : List (Account × Money) → List ℕ → ℕ
given_of [] d = 0
given_of (a ∷ rest) d = amount_of a.1 d + given_of rest d

-- what an account is given of a denomination
abbrev pub given_to : List (Account × Money) → Account → List ℕ → ℕ
given_to [] who d = 0
given_to (a ∷ rest) who d = (if is_at (account_cmp who) a.0 then amount_of a.1 d else 0) + given_to rest who d

-- no more than 10^18 is given of any denomination
abbrev pub IsBounded : List (Account × Money) → Type 0
IsBounded accounts = (d : List ℕ) → given_of accounts d ≤ 10 ^ 18
