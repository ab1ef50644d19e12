-- What is said of the ranges of an item's values can be told by tests: so where it is not refuted, it holds.
use Rattle.std.proofs.Common.{◌≡◌, ◌∙◌, ℕ, ◌^◌, ◌<◌, Bool, true, false, true≢false, nat_lt, List, [], ◌∷◌, length, Option, Some, None, refl, sym, inl, inr, All, lt-ltb, ltb-true, Ordering, Less, Equal, Greater}
use Rattle.std.specs.{List.{AllByRecursion, Sorted.IsStrictlySortedBy}, Map.keys_of}
use Rattle.std.proofs.lemmas.{Bool.Decides.eqb_tells, List.Elements.{All-from_recursion, recursion_from_All}}
use Rattle.base_types.specs.{declared.account.Account.Account, Address.IsAddress, Denom.is_denom, Modules.module_of}
use Rattle.base_types.specs.Orders.{denom_cmp}
use Rattle.base_types.specs.declared.account.Account.TheVariants as account
use Rattle.base_coins.specs.Coins.{IsMoney, Money}
use Rattle.base_roles.specs.declared.entities.{Commission.Commission, RedelegationEntry.RedelegationEntry}
use Rattle.base_roles.specs.declared.entities.{SigningInfo.SigningInfo, UnbondingEntry.UnbondingEntry}
use Rattle.base_roles.specs.declared.{entities.Validator.Validator, items.Item.Item, params.Params.Params}
use Rattle.base_roles.specs.declared.items.Item.TheVariants as item
use Rattle.store_rows.specs.Spelled.{AreCoins, AreParams, HasRow, IsAccount, IsCommission, IsInRange, IsInfo, IsName, IsRedelegation, IsUnbonding, IsUser, IsValidator, IsWritable}

-- what is not refuted holds
abbrev pub Stable : Type 0 → Type 0
Stable P = ((P → ⊥) → ⊥) → P

below : (a b : ℕ) → Stable (a < b)
below a b h = by (nat_lt a b) refl
  where
    by : (t : Bool) → nat_lt a b ≡ t → a < b
    by true e = ltb-true a b e
    by false e = absurd (h (λ lt. true≢false (sym (lt-ltb a b lt) ∙ e)))

same : (a b : ℕ) → Stable (a ≡ b)
same a b h = elim (eqb_tells a b) [
  | inl t ↦ t.1
  | inr f ↦ absurd (h f.1)
]

is_true : (b : Bool) → Stable (b ≡ true)
is_true true h = refl
is_true false h = absurd (h (λ e. true≢false (sym e)))

is_none : {A : Type 0} (o : Option A) → Stable (o ≡ None)
is_none None h = refl
is_none {A = A} (Some x) h = absurd (h (λ (e : Some x ≡ None). cc))

is_less : (o : Ordering) → Stable (o ≡ Less)
is_less Less h = refl
is_less Equal h = absurd (h (λ e. cc))
is_less Greater h = absurd (h (λ e. cc))

unit : Stable (Unit {0})
unit h = tt

and : {P Q : Type 0} → Stable P → Stable Q → Stable (P × Q)
and p q h = (p (λ no. h (λ both. no both.0)), q (λ no. h (λ both. no both.1)))

and3 : {P Q R : Type 0} → Stable P → Stable Q → Stable R → Stable (P × Q × R)
and3 p q r h = (p (λ no. h (λ all. no all.0)), q (λ no. h (λ all. no all.1)), r (λ no. h (λ all. no all.2)))

and4 : {P Q R S : Type 0} → Stable P → Stable Q → Stable R → Stable S → Stable (P × Q × R × S)
and4 p q r s h = (p (λ no. h (λ all. no all.0)), q (λ no. h (λ all. no all.1)), r (λ no. h (λ all. no all.2)), s (λ no. h (λ all. no all.3)))

each : {A : Type 0} (P : A → Type 0) → ((x : A) → Stable (P x)) → (xs : List A) → Stable (AllByRecursion P xs)
each P p [] h = tt
each P p (x ∷ xs) h = (p x (λ no. h (λ all. no all.0)), each P p xs (λ no. h (λ all. no all.1)))

each_at : {A : Type 0} (P : A → Type 0) → ((x : A) → Stable (P x)) → (xs : List A) → Stable (All P xs)
each_at P p xs h = All-from_recursion P xs (each P p xs (λ no. h (λ all. no (recursion_from_All P xs all))))

sorted : (ks : List (List ℕ)) → Stable (IsStrictlySortedBy denom_cmp ks)
unfolding IsStrictlySortedBy
sorted [] h = tt
sorted (k ∷ ks) h = (each (λ x. denom_cmp k x ≡ Less) (λ x. is_less (denom_cmp k x)) ks (λ no. h (λ all. no all.0)), sorted ks (λ no. h (λ all. no all.1)))

-- ---- the values of an item

bytes : (xs : List ℕ) → Stable (IsAddress xs)
bytes xs = and (same (length xs) 20) (λ h i. below _ 256 (λ no. h (λ f. no (f i))))

user : (xs : List ℕ) → Stable (IsUser xs)
user xs = and (bytes xs) (is_none (module_of xs))

any_account : (a : Account) → Stable (IsAccount a)
any_account (account.User xs) = user xs
any_account (account.Module m) = unit

money : (c : Money) → Stable (IsMoney c)
money c h = record {
  sorted = sorted (keys_of c) (λ no. h (λ m. no m.sorted));
  positive = each_at (λ d. 0 < d.1) (λ d. below 0 d.1) c (λ no. h (λ m. no m.positive));
  below = each_at (λ d. d.1 < 10 ^ 38) (λ d. below d.1 (10 ^ 38)) c (λ no. h (λ m. no m.below));
}

coins : (c : Money) → Stable (AreCoins c)
coins c = and (money c) (each (λ coin. IsName coin.0) (λ coin. is_true (is_denom coin.0)) c)

params : (p : Params) → Stable (AreParams p)
params p h = record {
  bond_denom = is_true _ (λ no. h (λ a. no a.bond_denom));
  power_reduction = below _ _ (λ no. h (λ a. no a.power_reduction));
  unbonding_time = below _ _ (λ no. h (λ a. no a.unbonding_time));
  max_validators = below _ _ (λ no. h (λ a. no a.max_validators));
  max_entries = below _ _ (λ no. h (λ a. no a.max_entries));
  min_commission_rate = below _ _ (λ no. h (λ a. no a.min_commission_rate));
  community_tax = below _ _ (λ no. h (λ a. no a.community_tax));
  signed_blocks_window = below _ _ (λ no. h (λ a. no a.signed_blocks_window));
  min_signed_per_window = below _ _ (λ no. h (λ a. no a.min_signed_per_window));
  downtime_jail_duration = below _ _ (λ no. h (λ a. no a.downtime_jail_duration));
  slash_fraction_double_sign = below _ _ (λ no. h (λ a. no a.slash_fraction_double_sign));
  slash_fraction_downtime = below _ _ (λ no. h (λ a. no a.slash_fraction_downtime));
  max_age_duration = below _ _ (λ no. h (λ a. no a.max_age_duration));
  max_age_num_blocks = below _ _ (λ no. h (λ a. no a.max_age_num_blocks));
  authority = user _ (λ no. h (λ a. no a.authority));
}

commission : (c : Commission) → Stable (IsCommission c)
commission c h = record {
  rate = below _ _ (λ no. h (λ a. no a.rate));
  max_rate = below _ _ (λ no. h (λ a. no a.max_rate));
  max_change = below _ _ (λ no. h (λ a. no a.max_change));
  updated = below _ _ (λ no. h (λ a. no a.updated));
}

validator : (v : Validator) → Stable (IsValidator v)
validator v h = record {
  operator = user _ (λ no. h (λ a. no a.operator));
  cons = bytes _ (λ no. h (λ a. no a.cons));
  tokens = below _ _ (λ no. h (λ a. no a.tokens));
  shares = below _ _ (λ no. h (λ a. no a.shares));
  commission = commission _ (λ no. h (λ a. no a.commission));
  min_self = below _ _ (λ no. h (λ a. no a.min_self));
  unbonding_height = below _ _ (λ no. h (λ a. no a.unbonding_height));
  unbonding_time = below _ _ (λ no. h (λ a. no a.unbonding_time));
}

unbonding : (e : UnbondingEntry) → Stable (IsUnbonding e)
unbonding e = and4 (below _ _) (below _ _) (below _ _) (below _ _)

redelegation : (e : RedelegationEntry) → Stable (IsRedelegation e)
redelegation e = and4 (below _ _) (below _ _) (below _ _) (below _ _)

info : (i : SigningInfo) → Stable (IsInfo i)
info i = and4 (below _ _) (below _ _) (below _ _) (below _ _)

in_range : (i : Item) → Stable (IsInRange i)
in_range (item.Head height time) = and (below _ _) (below _ _)
in_range (item.Parameters p) = params p
in_range (item.Balance account denom amount) = and3 (any_account account) (is_true _) (below _ _)
in_range (item.Supply denom amount) = and (is_true _) (below _ _)
in_range (item.Validator v) = validator v
in_range (item.Delegation operator delegator shares) = and3 (user operator) (user delegator) (below _ _)
in_range (item.Unbonding delegator operator entries) = and3 (user delegator) (user operator) (each IsUnbonding unbonding entries)
in_range (item.Redelegation delegator source target entries) = and4 (user delegator) (user source) (user target) (each IsRedelegation redelegation entries)
in_range (item.Signing cons i ring) = and (bytes cons) (info i)
in_range (item.Purse operator purse) = and (user operator) (and3 (coins _) (coins _) (coins _))
in_range (item.Pool c) = coins c
in_range (item.Withdraw delegator to) = and (user delegator) (user to)
in_range (item.CurrentPeriod operator period) = and (user operator) (below _ _)
in_range (item.Historical operator period history) = and3 (user operator) (below _ _) (and (coins _) (below _ _))
in_range (item.Start operator delegator info) = and3 (user operator) (user delegator) (and3 (below _ _) (below _ _) (below _ _))
in_range (item.Event operator event) = and (user operator) (and3 (below _ _) (below _ _) (below _ _))

-- an item that can be written has a row, where that is not refuted
pub has_row : (i : Item) → IsWritable i → ((HasRow i → ⊥) → ⊥) → HasRow i
has_row i writable h = (writable, in_range i (λ no. h (λ has. no has.1)))
