-- The third point: the two staking accounts hold exactly what they owe, in the bond denomination,
-- and nothing else; the distribution account holds exactly what is outstanding and the pool.
use Rattle.std.specs.Prelude.{ℕ, ◌+◌, ◌*◌, ◌^◌, ◌==◌, ◌&&◌, ◌||◌, nat_le, not, if◌then◌else◌, Bool, List, [], ◌∷◌}
use Rattle.std.specs.BTreeMap.{is_at}
use Rattle.std.specs.List.{list_all}
use Rattle.base_types.specs.declared.account.Account.{Account}
use Rattle.base_types.specs.declared.account.Account.TheVariants as account
use Rattle.base_types.specs.declared.account.Module.TheVariants as holder
use Rattle.base_types.specs.Orders.{account_cmp, denom_cmp}
use Rattle.base_coins.specs.Coins.{Money}
use Rattle.base_roles.specs.declared.entities.Purse.{Purse}
use Rattle.base_roles.specs.declared.entities.Validator.{Validator}
use Rattle.base_roles.specs.Entries.{number_at, sum_where}
use Rattle.base_roles.specs.Holdings.{Balances}
use Rattle.base_roles.specs.Orders.{place_cmp}
use Rattle.base_roles.specs.Staked.{is_bonded, tokens_where}
use Rattle.rule_modules.specs.Owed.{entry_balances}
use Rattle.rule_modules.specs.Unbondings.{UnbondingLists}
use Rattle.store_records.specs.Plain.{PlainSeen}
use Rattle.store_soundness.specs.Tally.{summed, tallied}

-- ---- the staking accounts

-- a balance is of another account, or of this denomination
abbrev pub is_elsewhere_or : Account → List ℕ → Account × List ℕ → Bool
is_elsewhere_or who denom place =
    not (is_at (account_cmp who) place.0) || is_at (denom_cmp denom) place.1

-- an account holds so much of a denomination, at most 10^18, and nothing else
abbrev pub holds_just : Balances → Account → List ℕ → ℕ → Bool
holds_just balances who denom amount =
    nat_le amount (10 ^ 18)
    && (number_at place_cmp balances (who, denom) == amount)
    && list_all (λ e. is_elsewhere_or who denom e.0) balances

-- the tokens of a validator, where it is bonded, and where it is not
abbrev pub bonded_of : Validator → ℕ
bonded_of v = if is_bonded v.status then v.tokens else 0

abbrev pub others_of : Validator → ℕ
others_of v = if is_bonded v.status then 0 else v.tokens

-- a total with the balances of all entries, as they are added one after another
abbrev pub with_unbondings : UnbondingLists → ℕ → ℕ
with_unbondings [] total = total
with_unbondings (p ∷ ps) total = with_unbondings ps (summed (λ e. e.balance) p.1 total)

-- what the not-bonded account owes: the tokens of all validators that are not bonded, and the
-- balances of all entries
abbrev pub not_bonded_in : List (List ℕ × Validator) → UnbondingLists → ℕ
not_bonded_in validators unbondings =
    tokens_where (λ status. not (is_bonded status)) validators + entry_balances unbondings

-- the bonded account holds the tokens of bonded validators
abbrev pub holds_bonded : PlainSeen → Bool
holds_bonded r =
    holds_just r.lists.bank.balances (account.Module holder.Bonded) r.ctx.params.bond_denom
    (tokens_where is_bonded r.lists.staked.validators)

-- the not-bonded account holds what it owes
abbrev pub holds_not_bonded : PlainSeen → Bool
holds_not_bonded r =
    holds_just r.lists.bank.balances (account.Module holder.NotBonded) r.ctx.params.bond_denom
    (not_bonded_in r.lists.staked.validators r.lists.unbondings)

-- the staking accounts hold what they owe
abbrev pub holds_stake : PlainSeen → Bool
holds_stake r = holds_bonded r && holds_not_bonded r

-- ---- the distribution account

-- the units of a denomination
abbrev pub units_in : Money → List ℕ → ℕ
units_in coins denom = sum_where (λ name. is_at (denom_cmp denom) name) coins

-- the units of a denomination that are outstanding
abbrev pub outstanding_in : List (List ℕ × Purse) → List ℕ → ℕ
outstanding_in [] denom = 0
outstanding_in (e ∷ purses) denom = units_in e.1.outstanding denom + outstanding_in purses denom

-- the same, as they are added one after another
abbrev pub coin_totals : Money → Money → Money
coin_totals coins totals = tallied denom_cmp (λ c. c.0) (λ c. c.1) coins totals

abbrev pub outstanding_totals : List (List ℕ × Purse) → Money → Money
outstanding_totals [] totals = totals
outstanding_totals (e ∷ purses) totals =
    outstanding_totals purses (coin_totals e.1.outstanding totals)

-- what is outstanding of a denomination, and in the pool, in units of 10^-18
abbrev pub owed_in : List (List ℕ × Purse) → Money → List ℕ → ℕ
owed_in purses pool denom = units_in pool denom + outstanding_in purses denom

-- the distribution account holds just this number of units of a denomination, and at most 10^18
-- coins
abbrev pub is_held : Balances → List ℕ → ℕ → Bool
is_held balances denom owed =
    let held = number_at place_cmp balances (account.Module holder.Distribution, denom) in
    nat_le held (10 ^ 18) && (owed == held * 10 ^ 18)

-- the distribution account holds what is owed of each of these coins
abbrev pub are_held : Balances → (List ℕ → ℕ) → Money → Bool
are_held balances owed coins = list_all (λ c. is_held balances c.0 (owed c.0)) coins

-- a balance is of another account, or just what is owed
abbrev pub is_elsewhere_or_held : Balances → (List ℕ → ℕ) → Account × List ℕ → Bool
is_elsewhere_or_held balances owed place =
    not (is_at (account_cmp (account.Module holder.Distribution)) place.0)
    || is_held balances place.1 (owed place.1)

-- the distribution account holds just what is owed, of each denomination that it has and of each
-- that it owes
abbrev pub holds_owed : Balances → (List ℕ → ℕ) → List (List ℕ × Purse) → Money → Bool
holds_owed balances owed purses pool =
    list_all (λ e. is_elsewhere_or_held balances owed e.0) balances
    && list_all (λ e. are_held balances owed e.1.outstanding) purses
    && are_held balances owed pool

abbrev pub holds_rewards : PlainSeen → Bool
holds_rewards r =
    let purses = r.lists.shared.purses in
    holds_owed r.lists.bank.balances (owed_in purses r.pool) purses r.pool
