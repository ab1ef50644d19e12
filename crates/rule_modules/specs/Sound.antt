-- Sound records: what each module needs of its own, and what all of them together meet. What every value of a Rust type has,
-- as that a decimal is below 10^20, is not said again.
use Rattle.std.specs.Prelude.{◌≡◌, ℕ, ◌^◌, ◌<◌, ◌≤◌, false, List, [], ◌∷◌, ◌++◌, length, map, All, Contains, is_some, IsSome}
use Rattle.std.specs.List.Sorted.{IsStrictlySortedBy}
use Rattle.std.specs.Map.{keys_of, values_of}
use Rattle.base_types.specs.Orders.{addr_cmp, cons_cmp}
use Rattle.base_coins.specs.Coins.{Money, IsMoney, amount_of}
use Rattle.base_roles.specs.declared.entities.Purse.{Purse}
use Rattle.base_roles.specs.declared.entities.RedelegationEntry.{RedelegationEntry}
use Rattle.base_roles.specs.declared.entities.SlashEvent.{SlashEvent}
use Rattle.base_roles.specs.declared.entities.StartingInfo.{StartingInfo}
use Rattle.base_roles.specs.declared.entities.UnbondingEntry.{UnbondingEntry}
use Rattle.base_roles.specs.declared.entities.Validator.{Validator}
use Rattle.base_roles.specs.Entries.{sum_where}
use Rattle.base_roles.specs.Ground.{IsInOrder}
use Rattle.base_roles.specs.Owing.{Lists}
use Rattle.base_roles.specs.Orders.{pair_cmp, triple_cmp, same_addr}
use Rattle.base_roles.specs.Staked.{Staked, validator_at, lists_of, is_unbonded}
use Rattle.rule_modules.specs.Chain.{State, shared_in, window_in}
use Rattle.rule_modules.specs.Distribution.{Shared}
use Rattle.rule_modules.specs.Owed.{HoldsWhatIsOwed}
use Rattle.rule_modules.specs.Periods.{Periods, Rewards, ratio_at, start_of, starts_of, references_of}
use Rattle.rule_modules.specs.Purses.{Purses}
use Rattle.rule_modules.specs.Redelegations.{RedelegationLists}
use Rattle.rule_modules.specs.Unbondings.{UnbondingLists}
use Rattle.rule_modules.specs.Window.{Signing, Window, signing_of}
use Rattle.base_roles.specs.Entries.{at}

-- ---- validators and delegations

-- the shares of all delegations to an operator
abbrev pub delegated_shares : Staked → List ℕ → ℕ
delegated_shares s operator = sum_where (λ key. same_addr key.0 operator) s.delegations

-- a validator: rates within its highest, no more tokens than there can be, and none without shares
pub record ValidatorIsSound (height : ℕ) (v : Validator) : Type 0 where
  pub max_rate : v.commission.max_rate ≤ 10 ^ 18
  pub rate : v.commission.rate ≤ v.commission.max_rate
  pub max_change : v.commission.max_change ≤ v.commission.max_rate
  pub tokens : v.tokens ≤ 10 ^ 18
  pub empty : v.shares ≡ 0 → v.tokens ≡ 0
  pub unbonding_height : v.unbonding_height ≤ height

-- Keys ascend; a validator stands under its operator, with a consensus address of its own, and its shares are those of its
-- delegations; each delegation has shares, at a validator that stands.
pub record StakedIsSound (height : ℕ) (s : Staked) : Type 0 where
  pub validators_ascend : IsStrictlySortedBy addr_cmp (keys_of s.validators)
  pub delegations_ascend : IsStrictlySortedBy pair_cmp (keys_of s.delegations)
  pub operators : All (λ e. e.1.operator ≡ e.0) s.validators
  pub validators : All (λ e. ValidatorIsSound height e.1) s.validators
  pub cons : (u v : Validator) → Contains (values_of s.validators) u → Contains (values_of s.validators) v → u.cons ≡ v.cons → u ≡ v
  pub shares : All (λ e. e.1.shares ≡ delegated_shares s e.0) s.validators
  pub positive : All (λ e. 0 < e.1) s.delegations
  pub existing : All (λ e. IsSome (validator_at s e.0.0)) s.delegations

-- ---- entries

-- an unbonding entry: a balance within its initial amount, made at a height that was
pub record UnbondingIsSound (height : ℕ) (e : UnbondingEntry) : Type 0 where
  pub initial : e.initial ≤ 10 ^ 18
  pub balance : e.balance ≤ e.initial
  pub created : e.created ≤ height

-- each pair has 1 to 100 entries
pub record UnbondingsAreSound (height : ℕ) (u : UnbondingLists) : Type 0 where
  pub ascend : IsStrictlySortedBy pair_cmp (keys_of u)
  pub some : All (λ p. 0 < length p.1) u
  pub most : All (λ p. length p.1 ≤ 100) u
  pub entries : All (λ p. All (UnbondingIsSound height) p.1) u

-- a redelegation entry, made at a height that was
pub record RedelegationIsSound (height : ℕ) (e : RedelegationEntry) : Type 0 where
  pub initial : e.initial ≤ 10 ^ 18
  pub created : e.created ≤ height

-- the same of redelegations
pub record RedelegationsAreSound (height : ℕ) (r : RedelegationLists) : Type 0 where
  pub ascend : IsStrictlySortedBy triple_cmp (keys_of r)
  pub some : All (λ p. 0 < length p.1) r
  pub most : All (λ p. length p.1 ≤ 100) r
  pub entries : All (λ p. All (RedelegationIsSound height) p.1) r

-- ---- distribution

-- purses and pool are lists of coins
pub record PurseIsSound (p : Purse) : Type 0 where
  pub outstanding : IsMoney p.outstanding
  pub commission : IsMoney p.commission
  pub current : IsMoney p.current

-- the purses of all operators, and the pool
pub record PursesAreSound (p : Purses) : Type 0 where
  pub ascend : IsStrictlySortedBy addr_cmp (keys_of p.purses)
  pub purses : All (λ e. PurseIsSound e.1) p.purses
  pub pool : IsMoney p.pool

-- slash events: periods grow, and heights don't fall
abbrev pub GrowWithHeight : List SlashEvent → Type 0
GrowWithHeight [] = Unit {0}
GrowWithHeight (e ∷ []) = Unit {0}
GrowWithHeight (e ∷ f ∷ es) = (e.period < f.period) × (e.height ≤ f.height) × GrowWithHeight (f ∷ es)

-- a slash event: before the current period, at a height that was, of at most all
pub record EventIsSound (current last : ℕ) (e : SlashEvent) : Type 0 where
  pub period : e.period < current
  pub height : e.height ≤ last
  pub fraction : e.fraction ≤ 10 ^ 18

-- a start: before the current period, at a height that was
pub record StartIsSound (current last : ℕ) (s : StartingInfo) : Type 0 where
  pub period : s.period < current
  pub height : s.height ≤ last

-- periods of ended ratios, the latest first: each is below the one before it
abbrev pub AreFalling : ℕ → List (ℕ × Money) → Type 0
AreFalling limit [] = Unit {0}
AreFalling limit (r ∷ rs) = (r.0 < limit) × AreFalling r.0 rs

-- A validator's periods: the current one is from 1 to 10^18; the ratio of the last ended one stands, as does that of each
-- period to which something refers; ratios don't fall as periods grow.
pub record PeriodsAreSound (height : ℕ) (starts : List StartingInfo) (p : Periods) : Type 0 where
  pub first : 1 ≤ p.current
  pub most : p.current ≤ 10 ^ 18
  pub falling : AreFalling p.current p.ratios
  pub lists : All (λ r. IsMoney r.1) p.ratios
  pub standing : (period : ℕ) → 0 < references_of p starts period → Contains (map (λ r. r.0) p.ratios) period
  pub growing : (d : List ℕ) (a b : ℕ) → a ≤ b → amount_of (ratio_at p.ratios a) d ≤ amount_of (ratio_at p.ratios b) d
  pub begun : All (StartIsSound p.current height) starts
  pub events : All (EventIsSound p.current height) p.events
  pub order : GrowWithHeight p.events

-- the periods and starts of all operators
pub record RewardsAreSound (height : ℕ) (r : Rewards) : Type 0 where
  pub periods_ascend : IsStrictlySortedBy addr_cmp (keys_of r.periods)
  pub starts_ascend : IsStrictlySortedBy pair_cmp (keys_of r.starts)
  pub periods : All (λ e. PeriodsAreSound height (starts_of r e.0) e.1) r.periods

-- Distribution stands for these operators and started pairs: purses and periods are those of the operators, and starts those
-- of the pairs.
pub record StandsFor (d : Shared) (l : Lists) : Type 0 where
  pub purses : (operator : List ℕ) → is_some (at addr_cmp d.purses.purses operator) ≡ l.operators operator
  pub periods : (operator : List ℕ) → is_some (at addr_cmp d.rewards.periods operator) ≡ l.operators operator
  pub starts : (delegator operator : List ℕ) → is_some (start_of d.rewards delegator operator) ≡ l.started delegator operator

-- ---- signing records

-- a signing record: fewer votes than heights
pub record SigningIsSound (height : ℕ) (s : Signing) : Type 0 where
  pub counted : length s.votes ≤ height
  pub start : s.start < 2 ^ 63

-- the records of all consensus addresses
pub record WindowIsSound (height : ℕ) (i : Window) : Type 0 where
  pub ascend : IsStrictlySortedBy cons_cmp (keys_of i)
  pub records : All (λ e. SigningIsSound height e.1) i

-- each validator that is bonded or unbonding has a record
abbrev pub AreRecorded : Staked → Window → Type 0
AreRecorded s i = (v : Validator) → Contains (values_of s.validators) v → is_unbonded v.status ≡ false → IsSome (signing_of i v.cons)

-- ---- all together

-- the names of a list of coins
abbrev pub names_in : Money → List (List ℕ)
names_in c = map (λ e. e.0) c

-- the names in purses
abbrev pub names_of_purses : List Purse → List (List ℕ)
names_of_purses [] = []
names_of_purses (p ∷ ps) = names_in p.outstanding ++ names_in p.commission ++ names_in p.current ++ names_of_purses ps

-- the names in ratios
abbrev pub names_of_ratios : List (ℕ × Money) → List (List ℕ)
names_of_ratios [] = []
names_of_ratios (r ∷ rs) = names_in r.1 ++ names_of_ratios rs

-- the names in the periods of all operators
abbrev pub names_of_periods : List Periods → List (List ℕ)
names_of_periods [] = []
names_of_periods (p ∷ ps) = names_of_ratios p.ratios ++ names_of_periods ps

-- all denominations that something holds
abbrev pub denominations_of : State → List (List ℕ)
denominations_of w =
    map (λ e. e.0.1) w.view.bank.balances
    ++ names_in (shared_in w).purses.pool
    ++ names_of_purses (values_of (shared_in w).purses.purses)
    ++ names_of_periods (values_of (shared_in w).rewards.periods)

-- at most so many different names (own)
pub record AreAtMost (most : ℕ) (names : List (List ℕ)) : Type 0 where
  pub some : List (List ℕ)
  pub few : length some ≤ most
  pub all : All (Contains some) names

-- A sound state. The ground is in order: parameters, time and height in their ranges, and each supply the sum of its
-- balances. The accounts hold what they owe. Every atomic step keeps all of this.
pub record IsSound (w : State) : Type 0 where
  pub ground : IsInOrder w.view
  pub few : AreAtMost 1_000_000 (denominations_of w)
  pub staked : StakedIsSound w.view.ctx.height w.mine.staked
  pub accounts : HoldsWhatIsOwed w
  pub stands : StandsFor (shared_in w) (lists_of w.mine.staked)
  pub purses : PursesAreSound (shared_in w).purses
  pub rewards : RewardsAreSound w.view.ctx.height (shared_in w).rewards
  pub payees : IsStrictlySortedBy addr_cmp (keys_of (shared_in w).withdraw)
  pub window : WindowIsSound w.view.ctx.height (window_in w)
  pub recorded : AreRecorded w.mine.staked (window_in w)
  pub unbondings : UnbondingsAreSound w.view.ctx.height w.mine.unbondings
  pub redelegations : RedelegationsAreSound w.view.ctx.height w.mine.redelegations
