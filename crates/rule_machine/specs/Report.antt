-- What the report at the end tells of a state.
use Rattle.std.specs.Prelude.{ℕ, Bool, if◌then◌else◌, List, [], ◌∷◌, ◌++◌, map, Option, Some, None, Result, Ok, Err}
use Rattle.std.specs.BTreeMap.{is_at}
use Rattle.std.specs.Map.{values_of}
use Rattle.base_decimals.specs.declared.over.Over.{Over}
use Rattle.base_types.specs.declared.account.Account.{Account}
use Rattle.base_types.specs.Orders.{account_cmp}
use Rattle.base_coins.specs.Coins.{Money}
use Rattle.base_roles.specs.declared.entities.Purse.{Purse}
use Rattle.base_roles.specs.declared.entities.SigningInfo.{SigningInfo}
use Rattle.base_roles.specs.declared.entities.Validator.{Validator}
use Rattle.base_roles.specs.Holdings.{Balances}
use Rattle.base_roles.specs.Orders.{pair_cmp}
use Rattle.base_roles.specs.Staked.{validator_at}
use Rattle.base_messages.specs.declared.report.Pending.{Pending}
use Rattle.rule_modules.specs.Chain.{State, shared_in, window_in}
use Rattle.rule_modules.specs.Distribution.{pending}
use Rattle.rule_modules.specs.Purses.{purse_of}
use Rattle.rule_modules.specs.Redelegations.{RedelegationLists}
use Rattle.rule_modules.specs.Unbondings.{UnbondingLists}
use Rattle.rule_modules.specs.Window.{info_of}
use Rattle.rule_machine.specs.Orders.{in_order}

-- ---- delegations

-- a delegation in the report: who delegates to which operator, and the shares
abbrev pub Delegations : Type 0
Delegations = List ((List ℕ × List ℕ) × ℕ)

-- delegations by operator and delegator, put in the order of delegator and operator
abbrev pub by_delegator : Delegations → Delegations
by_delegator ds = in_order pair_cmp (map (λ d. ((d.0.1, d.0.0), d.1)) ds)

-- coins, unless the computation met the limit
abbrev pub unless_over : Result Money Over → Option Money
unless_over (Ok coins) = Some coins
unless_over (Err over) = None

-- what a withdrawal at the last height would be paid from; an operator without a validator gives nothing
abbrev pub pending_at : Option Validator → List ℕ → ℕ → State → Option Money
pending_at None delegator shares w = Some []
pending_at (Some v) delegator shares w = unless_over (pending v delegator shares (shared_in w) w.view)

-- Each delegation's pending reward, in the order of the delegations (`Querier.DelegationRewards`).
abbrev pub pending_of : State → List Pending
pending_of w =
    map (λ d. record { delegator = d.0.0; operator = d.0.1; coins = pending_at (validator_at w.mine.staked d.0.1) d.0.0 d.1 w })
    (by_delegator w.mine.staked.delegations)

-- ---- accounts

-- whether two accounts are one
abbrev pub is_same_account : Account → Account → Bool
is_same_account a b = is_at (account_cmp a) b

-- an account with coins, together with the first account where that is the same
abbrev pub joined : Account → Money → List (Account × Money) → List (Account × Money)
joined who coins [] = (who, coins) ∷ []
joined who coins (a ∷ more) =
    if is_same_account who a.0 then (who, coins ++ a.1) ∷ more
    else (who, coins) ∷ a ∷ more

-- every account of balances in order, users first, with its coins
abbrev pub accounts_in : Balances → List (Account × Money)
accounts_in [] = []
accounts_in (b ∷ balances) = joined b.0.0 ((b.0.1, b.1) ∷ []) (accounts_in balances)

-- ---- the report

-- The groups of the report, in its order: the supply; accounts with their coins; validators with their purses; delegations,
-- and their pending rewards; unbonding and redelegation entries; signing records; the community pool.
pub record Report : Type 0 where
  pub supply : Money
  pub accounts : List (Account × Money)
  pub validators : List (Validator × Purse)
  pub delegations : Delegations
  pub pending : List Pending
  pub unbondings : UnbondingLists
  pub redelegations : RedelegationLists
  pub signing : List (List ℕ × SigningInfo)
  pub pool : Money

-- the report of a state
abbrev pub report_of : State → Report
report_of w = record {
  supply = w.view.bank.supplies;
  accounts = accounts_in w.view.bank.balances;
  validators = map (λ v. (v, purse_of (shared_in w).purses v.operator)) (values_of w.mine.staked.validators);
  delegations = by_delegator w.mine.staked.delegations;
  pending = pending_of w;
  unbondings = w.mine.unbondings;
  redelegations = w.mine.redelegations;
  signing = map (λ e. (e.0, info_of w.view.ctx.params.signed_blocks_window e.1)) (window_in w);
  pool = (shared_in w).purses.pool;
}
