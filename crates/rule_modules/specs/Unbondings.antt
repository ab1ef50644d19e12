-- Unbonding entries: made by undelegating, paid when they are mature, and cancelled (`x/staking/keeper`:
-- `msgServer.Undelegate`, `CompleteUnbonding`, `msgServer.CancelUnbondingDelegation`).
use Rattle.std.specs.Prelude.{◌≤◌, ℕ, ◌+◌, ◌-◌, ◌==◌, ◌&&◌, not, Bool, nat_lt, nat_le, if◌then◌else◌, List, [], ◌∷◌, length, filter, unwrap_or, Result, Ok, find, ⊤}
use Rattle.base_types.specs.declared.account.Account.TheVariants as account
use Rattle.base_types.specs.declared.account.Module.TheVariants as holder
use Rattle.base_types.specs.declared.status.BondStatus.TheVariants.{Unbonded}
use Rattle.base_coins.specs.declared.coin.Coin.{Coin}
use Rattle.base_shares.specs.Shares.{has_invalid_rate}
use Rattle.base_roles.specs.declared.entities.UnbondingEntry.{UnbondingEntry}
use Rattle.base_roles.specs.declared.params.Ctx.{Ctx}
use Rattle.base_roles.specs.declared.refusal.Refusal.{Refusal}
use Rattle.base_roles.specs.declared.refusal.Refusal.TheVariants.{WrongDenom, NonPositive, NoValidator, RateInvalid, UnbondingsFull, Jailed, NoEntry, CancelTooMuch, Overflow}
use Rattle.base_roles.specs.Entries.{at, with, without}
use Rattle.base_roles.specs.Orders.{pair_cmp}
use Rattle.base_roles.specs.Staked.{Staked, validator_at, delegation, is_bonded}
use Rattle.base_roles.specs.Flow.{◌>>=◌, ◌>>◌, stop_if, or_stop, stopping}
use Rattle.base_roles.specs.World.{View, Told, World, sent, over_view}
use Rattle.base_roles.specs.declared.calls.Hook.{Hook}
use Rattle.rule_modules.specs.Amounts.{bond_coins, seconds}
use Rattle.rule_modules.specs.Delegating.{is_wrong, pool, delegated}
use Rattle.rule_modules.specs.Unbonding.{shares_to_unbond, unbonded_shares}

-- the entries of each delegator and operator, in the order of making; no key has none
abbrev pub UnbondingLists : Type 0
UnbondingLists = List ((List ℕ × List ℕ) × List UnbondingEntry)

-- the entries of a delegator and an operator
abbrev pub entries_of : UnbondingLists → List ℕ → List ℕ → List UnbondingEntry
entries_of u delegator operator = unwrap_or (at pair_cmp u (delegator, operator)) []

-- with these entries, and without the key where there are none (`RemoveUnbondingDelegation`)
abbrev pub with_entries : List ℕ → List ℕ → List UnbondingEntry → UnbondingLists → UnbondingLists
with_entries delegator operator [] u = without pair_cmp u (delegator, operator)
with_entries delegator operator (e ∷ es) u = with pair_cmp u (delegator, operator) (e ∷ es)

-- an entry is mature from its completion on (`UnbondingDelegationEntry.IsMature`)
abbrev pub IsMature : ℕ → UnbondingEntry → Type 0
IsMature now e = e.completes ≤ now

-- the same as a test
abbrev pub is_mature : ℕ → UnbondingEntry → Bool
is_mature now e = nat_le e.completes now

-- when an unbonding that begins now completes
abbrev pub completion : Ctx → ℕ
completion c = c.time + seconds c.params.unbonding_time

-- One more entry; or where one has the same height and completion, that one grows (own).
abbrev pub grown : ℕ → ℕ → ℕ → List UnbondingEntry → List UnbondingEntry
grown height completes amount [] = record { created = height; completes = completes; initial = amount; balance = amount } ∷ []
grown height completes amount (e ∷ es) =
    if (e.created == height) && (e.completes == completes) then record e { initial = e.initial + amount; balance = e.balance + amount } ∷ es
    else e ∷ grown height completes amount es

-- an entry of this creation height that is not mature can be cancelled (`CancelUnbondingDelegation`)
abbrev pub can_be_cancelled : ℕ → ℕ → UnbondingEntry → Bool
can_be_cancelled height now e = (e.created == height) && not (is_mature now e)

-- The first entry that can be cancelled loses the amount, and goes where nothing is left of its balance.
abbrev pub lowered : ℕ → ℕ → ℕ → List UnbondingEntry → List UnbondingEntry
lowered height now amount [] = []
lowered height now amount (e ∷ es) =
    if can_be_cancelled height now e
    then (if e.balance == amount then es else record e { initial = e.initial - amount; balance = e.balance - amount } ∷ es)
    else e ∷ lowered height now amount es

module _ {H : Type 0} (told : H → Hook → View → Told H) where
  -- Undelegating: shares are unbonded, the amount moves from the bonded account where the validator was bonded, and an
  -- entry is made, also of 0 (`msgServer.Undelegate`, `Undelegate`). Refused where the pair has the most entries, also
  -- where one would only grow. Answers when the entry completes, and leaves the entries and the world.
  abbrev pub undelegated : List ℕ → List ℕ → Coin → UnbondingLists → World Staked H → Result (ℕ × UnbondingLists × World Staked H) Refusal
  undelegated delegator operator coin u w = do
    stop_if (coin.amount == 0) NonPositive
    v ← or_stop (validator_at w.mine operator) NoValidator
    (held, part) ← shares_to_unbond (delegation w.mine delegator operator) v coin.amount
    stop_if (is_wrong coin w.view) WrongDenom
    let entries = entries_of u delegator operator
    stop_if (nat_le w.view.ctx.params.max_entries (length entries)) UnbondingsFull
    (out, w1) ← stopping Overflow (unbonded_shares told v delegator held part w)
    let coins = bond_coins w.view out
    let w2 = (if is_bonded v.status then over_view (sent (account.Module holder.Bonded) (account.Module holder.NotBonded) coins) w1 else w1)
    let completes = completion w.view.ctx
    Ok (completes, with_entries delegator operator (grown w.view.ctx.height completes out entries) u, w2)

  -- Cancelling: the amount is delegated back from the not-bonded account, and leaves the first entry of that height that
  -- is not mature (`msgServer.CancelUnbondingDelegation`).
  abbrev pub cancelled : List ℕ → List ℕ → Coin → ℕ → UnbondingLists → World Staked H → Result (⊤ × UnbondingLists × World Staked H) Refusal
  cancelled delegator operator coin height u w = do
    stop_if (coin.amount == 0) NonPositive
    stop_if (is_wrong coin w.view) WrongDenom
    v ← or_stop (validator_at w.mine operator) NoValidator
    stop_if (has_invalid_rate v.tokens v.shares) RateInvalid
    stop_if v.jailed Jailed
    let entries = entries_of u delegator operator
    e ← or_stop (find (can_be_cancelled height w.view.ctx.time) entries) NoEntry
    stop_if (nat_lt e.balance coin.amount) CancelTooMuch
    (issued, w1) ← delegated told v delegator coin.amount (pool Unbonded) w
    Ok (tt, with_entries delegator operator (lowered height w.view.ctx.time coin.amount entries) u, w1)

-- The balances of mature entries are paid from the not-bonded account, one after another (`CompleteUnbonding`).
abbrev pub paid_back : List ℕ → List UnbondingEntry → View → View
paid_back delegator [] v = v
paid_back delegator (e ∷ es) v =
    if is_mature v.ctx.time e
    then paid_back delegator es (sent (account.Module holder.NotBonded) (account.User delegator) (bond_coins v e.balance) v)
    else paid_back delegator es v

-- The entries of one key in front, where there are any.
abbrev pub key_then : {K E : Type 0} → K → List E → List (K × List E) → List (K × List E)
key_then key [] rest = rest
key_then key (e ∷ es) rest = (key, e ∷ es) ∷ rest

-- All mature entries are paid and go, by delegator, then validator (`BlockValidatorUpdates`: `CompleteUnbonding`; the order: own).
abbrev pub completed : UnbondingLists → View → UnbondingLists × View
completed [] v = ([], v)
completed (p ∷ ps) v =
    let rest = completed ps (paid_back p.0.0 p.1 v) in
    (key_then p.0 (filter (λ e. not (is_mature v.ctx.time e)) p.1) rest.0, rest.1)
