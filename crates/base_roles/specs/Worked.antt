-- Worked rows of holdings.
use Rattle.std.specs.Prelude.{◌≡◌, true, false, [], ◌∷◌, replicate, codes}
use Rattle.base_types.specs.declared.account.Account.{Account}
use Rattle.base_types.specs.declared.account.Account.TheVariants as account
use Rattle.base_types.specs.declared.account.Module.TheVariants.{Bonded}
use Rattle.base_roles.specs.Holdings.{Holdings, moved, burned, is_short, coins_of}

abbrev pub alice : Account
alice = account.User (replicate 20 7)

abbrev pub pool : Account
pool = account.Module Bonded

-- alice holds 3 stake and 10 uatom
abbrev pub at_first : Holdings
at_first = record {
  balances = ((alice, codes "stake"), 3) ∷ ((alice, codes "uatom"), 10) ∷ [];
  supplies = (codes "stake", 3) ∷ (codes "uatom", 10) ∷ [];
}

-- 4 uatom move to the bonded account
abbrev pub SomeMove : Type 0
SomeMove = moved alice pool ((codes "uatom", 4) ∷ []) at_first ≡ record {
  balances = ((alice, codes "stake"), 3) ∷ ((alice, codes "uatom"), 6) ∷ ((pool, codes "uatom"), 4) ∷ [];
  supplies = (codes "stake", 3) ∷ (codes "uatom", 10) ∷ [];
}

-- all coins move, and alice has no entry
abbrev pub AllMove : Type 0
AllMove = moved alice pool ((codes "stake", 3) ∷ (codes "uatom", 10) ∷ []) at_first ≡ record {
  balances = ((pool, codes "stake"), 3) ∷ ((pool, codes "uatom"), 10) ∷ [];
  supplies = (codes "stake", 3) ∷ (codes "uatom", 10) ∷ [];
}

-- to oneself nothing moves, also where it is all that one has
abbrev pub NothingMoves : Type 0
NothingMoves = moved alice alice ((codes "uatom", 10) ∷ []) at_first ≡ at_first

-- 10 uatom burn, and there are none any more
abbrev pub AllBurn : Type 0
AllBurn = burned alice (codes "uatom") 10 at_first ≡ record {
  balances = ((alice, codes "stake"), 3) ∷ [];
  supplies = (codes "stake", 3) ∷ [];
}

-- what is there is enough, and one more is not
abbrev pub IsEnough : Type 0
IsEnough = is_short at_first alice ((codes "uatom", 10) ∷ []) ≡ false

abbrev pub IsTooMuch : Type 0
IsTooMuch = is_short at_first alice ((codes "stake", 3) ∷ (codes "uatom", 11) ∷ []) ≡ true

-- the balances of alice, and of an account that holds nothing
abbrev pub Balances : Type 0
Balances = coins_of at_first alice ≡ (codes "stake", 3) ∷ (codes "uatom", 10) ∷ []

abbrev pub NoBalances : Type 0
NoBalances = coins_of at_first pool ≡ []
