-- What the definitions mean.
use Rattle.std.specs.Prelude.{◌≡◌, ℕ, ◌+◌, ◌≤◌, false, ◌&&◌, List, if◌then◌else◌}
use Rattle.std.specs.BTreeMap.{is_at}
use Rattle.base_types.specs.declared.account.Account.{Account}
use Rattle.base_types.specs.Orders.{account_cmp, denom_cmp}
use Rattle.base_coins.specs.Coins.{Money, IsMoney, amount_of}
use Rattle.base_roles.specs.Holdings.{Holdings, balance_of, supply_of, moved, burned, is_short, IsBacked}

-- Coins move amount by amount: of each denomination the sender loses the amount, the receiver gains it, and where both
-- are one account, or the account is another, its balance stays.
abbrev pub MovesByAmounts : Type 0
MovesByAmounts = (h : Holdings) (from to : Account) (coins : Money) → IsBacked h → IsMoney coins → is_short h from coins ≡ false → (who : Account) (d : List ℕ)
    → balance_of (moved from to coins h) who d + (if is_at (account_cmp who) from then amount_of coins d else 0)
    ≡ balance_of h who d + (if is_at (account_cmp who) to then amount_of coins d else 0)

-- Moves keep the supplies, and a bank in order stays in order when coins move or are burned.
abbrev pub MovesKeepSupplies : Type 0
MovesKeepSupplies = (h : Holdings) (from to : Account) (coins : Money) → (moved from to coins h).supplies ≡ h.supplies

abbrev pub MovesKeepOrder : Type 0
MovesKeepOrder = (h : Holdings) (from to : Account) (coins : Money) → IsBacked h → IsMoney coins → is_short h from coins ≡ false → IsBacked (moved from to coins h)

abbrev pub BurnsKeepOrder : Type 0
BurnsKeepOrder = (h : Holdings) (from : Account) (d : List ℕ) (n : ℕ) → IsBacked h → n ≤ balance_of h from d → IsBacked (burned from d n h)

-- A coin burns amount by amount: of its denomination the account and the supply lose the amount, and every other balance
-- and supply stays.
abbrev pub BurnsByAmounts : Type 0
BurnsByAmounts = (h : Holdings) (from : Account) (d : List ℕ) (n : ℕ) → IsBacked h → n ≤ balance_of h from d → (who : Account) (e : List ℕ)
    → balance_of (burned from d n h) who e + (if is_at (account_cmp who) from && is_at (denom_cmp e) d then n else 0) ≡ balance_of h who e

abbrev pub BurnsLowerSupplies : Type 0
BurnsLowerSupplies = (h : Holdings) (from : Account) (d : List ℕ) (n : ℕ) → IsBacked h → n ≤ balance_of h from d → (e : List ℕ)
    → supply_of (burned from d n h) e + (if is_at (denom_cmp e) d then n else 0) ≡ supply_of h e
