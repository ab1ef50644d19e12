-- What accounts hold that are given coins, amount by amount.
use Rattle.std.specs.Prelude.{◌≡◌, ℕ, List, [], ◌∷◌}
use Rattle.base_types.specs.declared.account.Account.{Account}
use Rattle.base_coins.specs.Coins.{Money, IsMoney}
use Rattle.base_roles.specs.Holdings.{balance_of, supply_of}
use Rattle.mod_bank.specs.Given.{held_by, given_of, given_to}

-- each account's coins are a list of coins
abbrev pub AreCoins : List (Account × Money) → Type 0
AreCoins [] = Unit {0}
AreCoins (a ∷ rest) = IsMoney a.1 × AreCoins rest

-- each account holds what it is given
abbrev pub EachHoldsWhatItIsGiven : Type 0
EachHoldsWhatItIsGiven = (accounts : List (Account × Money)) → AreCoins accounts → (who : Account) (d : List ℕ) → balance_of (held_by accounts) who d ≡ given_to accounts who d

-- and there is of each denomination what all are given
abbrev pub SuppliesAreWhatAllAreGiven : Type 0
SuppliesAreWhatAllAreGiven = (accounts : List (Account × Money)) → AreCoins accounts → (d : List ℕ) → supply_of (held_by accounts) d ≡ given_of accounts d
