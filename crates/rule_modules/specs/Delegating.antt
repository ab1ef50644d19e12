-- Delegating (`x/staking/keeper`: `Delegate`, `msgServer.Delegate`).
use Rattle.std.specs.Prelude.{◌≡◌, ℕ, ◌+◌, ◌==◌, not, Bool, if◌then◌else◌, List, Option, Some, None, unwrap_or, Result, Ok}
use Rattle.std.specs.BTreeMap.{is_at}
use Rattle.base_decimals.specs.Decimals.{add_of}
use Rattle.base_types.specs.declared.account.Account.TheVariants as account
use Rattle.base_types.specs.declared.status.BondStatus.{BondStatus}
use Rattle.base_types.specs.Modules.{module_number}
use Rattle.base_types.specs.Orders.{denom_cmp}
use Rattle.base_coins.specs.declared.coin.Coin.{Coin}
use Rattle.base_shares.specs.Shares.{issued_shares}
use Rattle.base_roles.specs.declared.entities.Validator.{Validator}
use Rattle.base_roles.specs.declared.refusal.Refusal.{Refusal}
use Rattle.base_roles.specs.declared.refusal.Refusal.TheVariants.{InsufficientFunds, WrongDenom, NonPositive, NoValidator, TinyDelegation, Overflow}
use Rattle.base_roles.specs.Holdings.{is_short}
use Rattle.base_roles.specs.Staked.{Staked, validator_at, delegation, put_validator}
use Rattle.base_roles.specs.Flow.{◌>>=◌, ◌>>◌, stop_if, or_stop, stopping}
use Rattle.base_roles.specs.World.{View, Told, World, call, sent, over_view, over_mine}
use Rattle.base_roles.specs.declared.calls.Hook.{Hook}
use Rattle.base_roles.specs.declared.calls.Hook.TheVariants.{Starting as starting, Modifying as modifying, Modified as modified}
use Rattle.rule_modules.specs.Amounts.{bond_coins}
use Rattle.rule_modules.specs.Stakes.{put_delegation, pool_of, refusal_of_shares}

-- where the coins of a delegation come from: the delegator's wallet, or the account of a validator of this status
pub data Origin : Type 0 where
  wallet : Origin
  pool : BondStatus → Origin

-- the amount is of another denomination than what is delegated (`msgServer.Delegate`: `amount.Denom != bondDenom`)
abbrev pub is_wrong : Coin → View → Bool
is_wrong coin v = not (is_at (denom_cmp v.ctx.params.bond_denom) coin.denom)

-- An amount that gives no shares; such a delegation is refused (own).
abbrev pub IsTinyDelegation : Validator → ℕ → Type 0
IsTinyDelegation v amount = issued_shares v.tokens v.shares amount ≡ Ok 0

-- The shares that an amount gives (`Validator.AddTokensFromDel`). Refused where shares stand over no tokens, where the
-- new shares or their sum with the old are over, and where they are 0 (own).
abbrev pub shares_given : Validator → ℕ → Result ℕ Refusal
shares_given v amount = do
  issued ← stopping refusal_of_shares (issued_shares v.tokens v.shares amount)
  stopping Overflow (add_of v.shares issued)
  stop_if (issued == 0) TinyDelegation
  Ok issued

-- The coins of a delegation move to the account of the validator's status: from the delegator, who may be short, or from
-- the account of the origin's status where that is another (`Delegate`: `subtractAccount`).
abbrev pub paid_in : Origin → List ℕ → BondStatus → ℕ → View → Result View Refusal
paid_in wallet delegator status amount v = do
  stop_if (is_short v.bank (account.User delegator) (bond_coins v amount)) InsufficientFunds
  Ok (sent (account.User delegator) (account.Module (pool_of status)) (bond_coins v amount) v)
paid_in (pool from) delegator status amount v =
    if module_number (pool_of from) == module_number (pool_of status) then Ok v
    else Ok (sent (account.Module (pool_of from)) (account.Module (pool_of status)) (bond_coins v amount) v)

-- the hook before a delegation changes: it is new, or has shares
abbrev pub hook_before : Validator → List ℕ → Option ℕ → Hook
hook_before v delegator None = starting v delegator
hook_before v delegator (Some held) = modifying v delegator held

module _ {H : Type 0} (told : H → Hook → View → Told H) where
  -- Delegating to a validator, in this order: the hook before; the coins move; tokens and shares grow; the hook after
  -- (`Delegate`). Answers the issued shares.
  abbrev pub delegated : Validator → List ℕ → ℕ → Origin → World Staked H → Result (ℕ × World Staked H) Refusal
  delegated v delegator amount origin w = do
    issued ← shares_given v amount
    let held = delegation w.mine delegator v.operator
    let shares = unwrap_or held 0 + issued
    let grown = record v { tokens = v.tokens + amount; shares = v.shares + issued }
    w1 ← stopping Overflow (call told (hook_before v delegator held) w)
    view ← paid_in origin delegator v.status amount w1.view
    let w2 = over_view (λ u. view) (over_mine (λ s. put_delegation delegator v.operator shares (put_validator grown s)) w1)
    w3 ← stopping Overflow (call told (modified grown delegator shares) w2)
    Ok (issued, w3)

  -- The message, from the delegator's wallet (`msgServer.Delegate`).
  abbrev pub delegated_by : List ℕ → List ℕ → Coin → World Staked H → Result (ℕ × World Staked H) Refusal
  delegated_by delegator operator coin w = do
    stop_if (coin.amount == 0) NonPositive
    v ← or_stop (validator_at w.mine operator) NoValidator
    stop_if (is_wrong coin w.view) WrongDenom
    delegated v delegator coin.amount wallet w
