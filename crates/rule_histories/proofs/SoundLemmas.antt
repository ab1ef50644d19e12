-- The state that a small genesis starts is sound.
use Rattle.std.proofs.Common.{◌≡◌, ◌∙◌, ℕ, zero, suc, ◌+◌, ◌*◌, ◌^◌, ◌≤◌, ◌<◌, Bool, true, false, cond, nat_lt, List, [], ◌∷◌, Some, None, refl, sym, ap, subst, arith, ◌==◌, nat_le, is_some, All, Contains, IsSome}
use Rattle.std.{specs.{BTreeMap.is_at, List.Sorted.IsStrictlySortedBy}, proofs.lemmas.Bool.Decides.nat_tests}
use Rattle.std.proofs.lemmas.List.Elements.{All-nil, All-cons}
use Rattle.base_types.specs.declared.account.Account.TheVariants as account
use Rattle.base_types.specs.declared.account.Module.TheVariants as holder
use Rattle.base_types.specs.{declared.status.BondStatus.TheVariants.Bonded, Orders.addr_cmp}
use Rattle.base_coins.specs.Coins.{Money, IsMoney, amount_of}
use Rattle.base_roles.specs.declared.{entities.{StartingInfo.StartingInfo, Validator.Validator}, facts.Fact.Fact}
use Rattle.base_roles.specs.{Ground.{IsInOrder, end_of_blocks}, Holdings.IsBacked, Items.no_purse, Orders.pair_cmp}
use Rattle.base_roles.{specs.{Staked.{Staked, validator_at, lists_of}, World.View}, proofs.HoldingLemmas.backed-moved}
use Rattle.base_roles.specs.declared.facts.Fact.TheVariants as fact
use Rattle.base_roles.specs.Log as log
use Rattle.rule_modules.specs.{Chain.State, Distribution.Shared}
use Rattle.rule_modules.specs.{Fixtures.{addr, cons, user, uatom, coins, params, time_of}, Owed.HoldsWhatIsOwed}
use Rattle.rule_modules.specs.Periods.{Periods, starts_of, ratio_at}
use Rattle.rule_modules.specs.Sound.{delegated_shares, ValidatorIsSound, StakedIsSound, UnbondingsAreSound, RedelegationsAreSound, PurseIsSound, PursesAreSound, StartIsSound, PeriodsAreSound, RewardsAreSound, StandsFor, SigningIsSound, WindowIsSound, AreRecorded, AreAtMost, denominations_of, IsSound}
use Rattle.rule_modules.specs.Window.{Signing, signing_of}
use Rattle.rule_machine.{specs.{Genesis.held_at_start, GenesisConditions.accounts_at_start}, proofs.Kept.held_backed}
use Rattle.rule_machine.proofs.Ranges.{in_range}
use Rattle.rule_histories.specs.SoundRows.{one_validator, SoundnessIsMet}

-- ---- the state

abbrev pub operator : Validator
operator = record {
  operator = addr 1;
  cons = cons 1;
  status = Bonded;
  jailed = false;
  tokens = 3000000;
  shares = 3000000 * 10 ^ 18;
  commission = record { rate = 0; max_rate = 10 ^ 18; max_change = 10 ^ 18; updated = time_of 0 };
  min_self = 1;
  unbonding_height = 0;
  unbonding_time = 0;
}

abbrev pub first_stake : (List ℕ × List ℕ) × ℕ
first_stake = ((addr 1, addr 1), 1000000 * 10 ^ 18)

abbrev pub second_stake : (List ℕ × List ℕ) × ℕ
second_stake = ((addr 1, addr 2), 2000000 * 10 ^ 18)

abbrev pub stakes : Staked
stakes = record {
  validators = (addr 1, operator) ∷ [];
  delegations = first_stake ∷ second_stake ∷ [];
}

-- where the two delegations start
abbrev pub start_of_first : StartingInfo
start_of_first = record { period = 1; stake = 1000000 * 10 ^ 18; height = 0 }

abbrev pub start_of_second : StartingInfo
start_of_second = record { period = 2; stake = 2000000 * 10 ^ 18; height = 0 }

abbrev pub some_periods : Periods
some_periods = record { current = 3; ratios = (2, []) ∷ (1, []) ∷ (0, []) ∷ []; events = [] }

abbrev pub shared : Shared
shared = record {
  rewards = record {
    periods = (addr 1, some_periods) ∷ [];
    starts = ((addr 1, addr 1), start_of_first) ∷ ((addr 1, addr 2), start_of_second) ∷ [];
  };
  purses = record { purses = (addr 1, no_purse) ∷ []; pool = [] };
  withdraw = [];
}

abbrev pub signing : Signing
signing = record { start = 0; votes = []; jailed_until = 0; tombstoned = false }

abbrev pub ground_then : View
ground_then = record {
  bank = record { balances = ((user 3, uatom), 1000) ∷ ((account.Module holder.Bonded, uatom), 3000000) ∷ []; supplies = coins 3001000 };
  ctx = record { height = 0; time = time_of 0; params = params };
  facts = [];
}

abbrev pub small : State
small = record {
  mine = record { staked = stakes; unbondings = []; redelegations = [] };
  hooks = (shared, (cons 1, signing) ∷ []);
  view = ground_then;
  log =
      (addr 1, log.made)
      ∷ (addr 1, log.ended 1 [] 0)
      ∷ (addr 1, log.started (addr 1) (1000000 * 10 ^ 18) 1000000 (1000000 * 10 ^ 18) (1000000 * 10 ^ 18))
      ∷ (addr 1, log.ended 2 [] 1000000)
      ∷ (addr 1, log.started (addr 2) (2000000 * 10 ^ 18) 3000000 (3000000 * 10 ^ 18) (2000000 * 10 ^ 18))
      ∷ [];
}

-- what the genesis tells
abbrev pub told_then : List Fact
told_then =
    fact.Period (addr 1) 1 []
    ∷ fact.Started (addr 1) (addr 1) 1 (1000000 * 10 ^ 18)
    ∷ fact.Period (addr 1) 2 []
    ∷ fact.Started (addr 2) (addr 1) 2 (2000000 * 10 ^ 18)
    ∷ fact.Changed (addr 1) Bonded
    ∷ fact.Transfer (account.Module holder.NotBonded) (account.Module holder.Bonded) (coins 3000000)
    ∷ []

-- ---- small lemmas

at_most : (n most : ℕ) → nat_le n most ≡ true → n ≤ most
at_most n most e = grind (arith, nat_tests)

below : (n most : ℕ) → nat_lt n most ≡ true → n < most
below n most e = grind (arith, nat_tests)

-- of each element of lists of one and of two
one_of : {X : Type 0} (P : X → Type 0) (x : X) → P x → All P (x ∷ [])
one_of P x p = All-cons P x [] p (All-nil P)

two_of : {X : Type 0} (P : X → Type 0) (x y : X) → P x → P y → All P (x ∷ y ∷ [])
two_of P x y p q = All-cons P x (y ∷ []) p (one_of P y q)

-- a list of one has one element
only : {X : Type 0} (x u : X) → Contains (x ∷ []) u → x ≡ u
only x u (zero, lt, e) = e
only x u (suc k, lt, e) = absurd (omega (arith, lt))

no_coins : IsMoney []
unfolding IsStrictlySortedBy
no_coins = record { sorted = tt; positive = All-nil _; below = All-nil _ }

some_coins : IsMoney (coins 3000000)
unfolding IsStrictlySortedBy
some_coins = record {
  sorted = (tt, tt);
  positive = one_of (λ d. 0 < d.1) (uatom, 3000000) (below 0 3000000 refl);
  below = one_of (λ d. d.1 < 10 ^ 38) (uatom, 3000000) (below 3000000 (10 ^ 38) refl);
}

-- ---- the ground

small_backed : IsBacked ground_then.bank
small_backed =
    backed-moved (coins 3000000) (held_at_start (accounts_at_start one_validator)) (account.Module holder.NotBonded) (account.Module holder.Bonded)
    (held_backed (accounts_at_start one_validator) refl) some_coins refl

small_ground : IsInOrder ground_then
small_ground = record { params = in_range params refl; time = below (time_of 0) end_of_blocks refl; height = below 0 (2 ^ 63) refl; bank = small_backed }

small_few : AreAtMost 1_000_000 (denominations_of small)
small_few = record {
  some = uatom ∷ [];
  few = at_most 1 1_000_000 refl;
  all = two_of (Contains (uatom ∷ [])) uatom uatom here here;
}
  where
    here : Contains (uatom ∷ []) uatom
    here = (0, below 0 1 refl, refl)

-- ---- staking

operator_sound : ValidatorIsSound 0 operator
operator_sound = record {
  max_rate = at_most (10 ^ 18) (10 ^ 18) refl;
  rate = at_most 0 (10 ^ 18) refl;
  max_change = at_most (10 ^ 18) (10 ^ 18) refl;
  tokens = at_most 3000000 (10 ^ 18) refl;
  empty = λ h. absurd (omega (arith, h));
  unbonding_height = at_most 0 0 refl;
}

stakes_sound : StakedIsSound 0 stakes
unfolding IsStrictlySortedBy
stakes_sound = record {
  validators_ascend = (tt, tt);
  delegations_ascend = ((refl, tt), (tt, tt));
  operators = one_of (λ e. e.1.operator ≡ e.0) (addr 1, operator) refl;
  validators = one_of (λ e. ValidatorIsSound 0 e.1) (addr 1, operator) operator_sound;
  cons = λ u v a b same. sym (only operator u a) ∙ only operator v b;
  shares = one_of (λ e. e.1.shares ≡ delegated_shares stakes e.0) (addr 1, operator) refl;
  positive = two_of (λ e. 0 < e.1) first_stake second_stake (below 0 (1000000 * 10 ^ 18) refl) (below 0 (2000000 * 10 ^ 18) refl);
  existing = two_of (λ e. IsSome (validator_at stakes e.0.0)) first_stake second_stake refl refl;
}

small_owed : HoldsWhatIsOwed small
small_owed = record { bonded = refl; not_bonded = refl; distribution = λ d. refl }

small_recorded : AreRecorded stakes ((cons 1, signing) ∷ [])
small_recorded v a e = subst (λ (u : Validator). IsSome (signing_of ((cons 1, signing) ∷ []) u.cons)) (only operator v a) refl

-- ---- distribution

-- lists of the same keys have entries at the same keys
one_key : {X Y : Type 0} (x : X) (y : Y) (b : Bool) → is_some (cond b (Some x) None) ≡ is_some (cond b (Some y) None)
one_key x y true = refl
one_key x y false = refl

two_keys : {X Y : Type 0} (x u : X) (y v : Y) (a b : Bool) → is_some (cond a (Some x) (cond b (Some u) None)) ≡ is_some (cond a (Some y) (cond b (Some v) None))
two_keys x u y v true b = refl
two_keys x u y v false true = refl
two_keys x u y v false false = refl

small_stands : StandsFor shared (lists_of stakes)
small_stands = record {
  purses = λ o. one_key no_purse operator (is_at (addr_cmp o) (addr 1));
  periods = λ o. one_key some_periods operator (is_at (addr_cmp o) (addr 1));
  starts = λ who o. two_keys start_of_first start_of_second (1000000 * 10 ^ 18) (2000000 * 10 ^ 18) (is_at (pair_cmp (o, who)) (addr 1, addr 1)) (is_at (pair_cmp (o, who)) (addr 1, addr 2));
}

purses_sound : PursesAreSound shared.purses
unfolding IsStrictlySortedBy
purses_sound = record {
  ascend = (tt, tt);
  purses = one_of (λ e. PurseIsSound e.1) (addr 1, no_purse) (record { outstanding = no_coins; commission = no_coins; current = no_coins });
  pool = no_coins;
}

-- to which periods something refers
standing_by : (period : ℕ) (a b c : Bool) → (3 == period + 1) ≡ a → (1 == period) ≡ b → (2 == period) ≡ c → 0 < cond a 1 0 + ((cond b 1 0 + (cond c 1 0 + 0)) + 0) → Contains (2 ∷ 1 ∷ 0 ∷ []) period
standing_by period true b c ea eb ec h = let two : 2 ≡ period = grind (arith, nat_tests) in subst (Contains (2 ∷ 1 ∷ 0 ∷ [])) two (0, below 0 3 refl, refl)
standing_by period false true c ea eb ec h = let one : 1 ≡ period = grind (arith, nat_tests) in subst (Contains (2 ∷ 1 ∷ 0 ∷ [])) one (1, below 1 3 refl, refl)
standing_by period false false true ea eb ec h = let two : 2 ≡ period = grind (arith, nat_tests) in subst (Contains (2 ∷ 1 ∷ 0 ∷ [])) two (0, below 0 3 refl, refl)
standing_by period false false false ea eb ec h = absurd (omega (arith, h))

abbrev pub nothing : Money
nothing = []

-- all ratios are empty
no_ratio : (period : ℕ) → ratio_at some_periods.ratios period ≡ []
no_ratio period = by (nat_le 2 period) (nat_le 1 period) (nat_le 0 period)
  where
    by : (a b c : Bool) → cond a nothing (cond b nothing (cond c nothing nothing)) ≡ nothing
    by true b c = refl
    by false true c = refl
    by false false true = refl
    by false false false = refl

periods_sound : PeriodsAreSound 0 (start_of_first ∷ start_of_second ∷ []) some_periods
periods_sound = record {
  first = at_most 1 3 refl;
  most = at_most 3 (10 ^ 18) refl;
  falling = (below 2 3 refl, (below 1 2 refl, (below 0 1 refl, tt)));
  lists = All-cons (λ r. IsMoney r.1) (2, []) ((1, []) ∷ (0, []) ∷ []) no_coins (two_of (λ r. IsMoney r.1) (1, []) (0, []) no_coins no_coins);
  standing = λ period h. standing_by period (3 == period + 1) (1 == period) (2 == period) refl refl refl h;
  growing = λ d a b le.
      let ea : amount_of (ratio_at some_periods.ratios a) d ≡ 0 = ap (λ m. amount_of m d) (no_ratio a) in
      let eb : amount_of (ratio_at some_periods.ratios b) d ≡ 0 = ap (λ m. amount_of m d) (no_ratio b) in
      omega (arith, ea, eb);
  begun = two_of (StartIsSound 3 0) start_of_first start_of_second (record { period = below 1 3 refl; height = at_most 0 0 refl }) (record { period = below 2 3 refl; height = at_most 0 0 refl });
  events = All-nil _;
  order = tt;
}

rewards_sound : RewardsAreSound 0 shared.rewards
unfolding IsStrictlySortedBy
rewards_sound = record {
  periods_ascend = (tt, tt);
  starts_ascend = ((refl, tt), (tt, tt));
  periods = one_of (λ e. PeriodsAreSound 0 (starts_of shared.rewards e.0) e.1) (addr 1, some_periods) periods_sound;
}

-- ---- all together

nothing_unbonds : UnbondingsAreSound 0 []
unfolding IsStrictlySortedBy
nothing_unbonds = record { ascend = tt; some = All-nil _; most = All-nil _; entries = All-nil _ }

nothing_moves : RedelegationsAreSound 0 []
unfolding IsStrictlySortedBy
nothing_moves = record { ascend = tt; some = All-nil _; most = All-nil _; entries = All-nil _ }

window_sound : WindowIsSound 0 ((cons 1, signing) ∷ [])
unfolding IsStrictlySortedBy
window_sound = record {
  ascend = (tt, tt);
  records = one_of (λ e. SigningIsSound 0 e.1) (cons 1, signing) (record { counted = at_most 0 0 refl; start = below 0 (2 ^ 63) refl });
}

small_sound : IsSound small
unfolding IsStrictlySortedBy
small_sound = record {
  ground = small_ground;
  few = small_few;
  staked = stakes_sound;
  accounts = small_owed;
  stands = small_stands;
  purses = purses_sound;
  rewards = rewards_sound;
  payees = tt;
  window = window_sound;
  recorded = small_recorded;
  unbondings = nothing_unbonds;
  redelegations = nothing_moves;
}

pub soundness_is_met : SoundnessIsMet
soundness_is_met = small_sound
