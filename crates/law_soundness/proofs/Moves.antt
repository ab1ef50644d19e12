-- Fees, sends and payees keep a state sound; and what a rule of distribution leaves of all else.
use Rattle.std.proofs.Common.{◌≡◌, ◌∙◌, ℕ, ◌+◌, ◌*◌, ◌^◌, false, cond, List, [], Some, Result, refl, sym, ap, subst, ◌++◌, Contains, IfOk, not}
use Rattle.std.specs.{BTreeMap.is_at, List.AllByRecursion}
use Rattle.base_types.specs.{declared.account.Account.Account, Orders.{addr_cmp, account_cmp, denom_cmp}}
use Rattle.base_types.specs.declared.account.Account.TheVariants as account
use Rattle.base_types.specs.declared.account.Module.TheVariants as holder
use Rattle.base_coins.specs.Coins.{Money, IsMoney}
use Rattle.base_roles.specs.declared.params.Ctx.{Ctx}
use Rattle.base_roles.specs.declared.refusal.Refusal.TheVariants.{InsufficientFunds, NonPositive, WithdrawFixed, FeeUnpaid}
use Rattle.base_roles.specs.{Holdings.{balance_of, is_short, supply_of}, Owing.{Lists, HoldsOwed}, Log.Log}
use Rattle.base_roles.specs.{Staked.{Staked, bonded_tokens, other_tokens, lists_of}, StakeChanges.of_bond}
use Rattle.base_roles.specs.{World.{View, World, sent, over_view}, declared.facts.Fact.Fact, Entries.with}
use Rattle.base_roles.proofs.HoldingLemmas.{backed-moved, balance-moved_elsewhere}
use Rattle.rule_modules.specs.{Amounts.{is_empty, over_facts}, Chain.{Hooks, State, with_shared, staked_in}}
use Rattle.rule_modules.specs.{Distribution.Shared, Effects.{coins_sent, send, set_withdraw_address, fee_paid}}
use Rattle.rule_modules.specs.{StepLaws.{KeptByStep, SupplyFallsByBurns}, Owed.owed_from_distribution}
use Rattle.rule_modules.specs.{Withdrawals.payee_set, Sound.{WindowIsSound, RedelegationsAreSound, UnbondingsAreSound}}
use Rattle.rule_modules.proofs.{EntryLemmas.ascend-put, OrderLemmas.addr_total, SoundLemmas.IsSoundAt}
use Rattle.rule_modules.proofs.GoingLemmas.{on_stop}
use Rattle.law_soundness.specs.StepLaws.{IsSoundAfter, FeesKeepSoundness, SendsKeepSoundness, PayeesKeepSoundness}
use Rattle.law_soundness.proofs.{Bank.{held_moved, known_enough}, Burns.{SayNoMore, total_in, total_sent}}
use Rattle.law_soundness.proofs.Points.{SharedFits, GroundFits, StakeFits, StateFits, to_fits, from_fits, StateLeft, WholeEntries}
use Rattle.law_soundness.proofs.Steps.{on_then, if_ok, from_if}

-- what keeps all that fits, whatever property denominations have, keeps soundness
pub keeps : {E : Type 0} (f : State → Result State E) → ((P : List ℕ → Type 0) (T : List ℕ → ℕ) (w : State) → StateFits P T w → IfOk (f w) (StateLeft P T w)) → KeptByStep IsSoundAfter f
keeps f h w s =
    let P : List ℕ → Type 0 = Contains s.few.some in
    let T : List ℕ → ℕ = total_in w.view in
    if_ok (IsSoundAfter w) (f w) (λ new e. from_fits new s.few.some T s.few.few (from_if (StateLeft P T w) (f w) new e (h P T w (to_fits w s))).fits)

-- the same, where nothing is said of entries of this height
pub keeps_fits : {E : Type 0} (f : State → Result State E) → ((P : List ℕ → Type 0) (T : List ℕ → ℕ) (w : State) → StateFits P T w → IfOk (f w) (StateFits P T)) → KeptByStep IsSoundAfter f
keeps_fits f h w s =
    let P : List ℕ → Type 0 = Contains s.few.some in
    let T : List ℕ → ℕ = total_in w.view in
    if_ok (IsSoundAfter w) (f w) (λ new e. from_fits new s.few.some T s.few.few (from_if (StateFits P T) (f w) new e (h P T w (to_fits w s))))

-- it lowers each supply by what its facts say was burned
pub keeps_supplies : {E : Type 0} (f : State → Result State E) → ((P : List ℕ → Type 0) (T : List ℕ → ℕ) (w : State) → StateFits P T w → IfOk (f w) (StateLeft P T w)) → KeptByStep SupplyFallsByBurns f
keeps_supplies f h w s =
    let P : List ℕ → Type 0 = Contains s.few.some in
    let T : List ℕ → ℕ = total_in w.view in
    if_ok (SupplyFallsByBurns w) (f w) (λ new e. (from_if (StateLeft P T w) (f w) new e (h P T w (to_fits w s))).fits.stake.ground.total)

-- an account is none of those that owe something
pub record IsOther (who : Account) : Type 0 where
  pub bonded : is_at (account_cmp (account.Module holder.Bonded)) who ≡ false
  pub not_bonded : is_at (account_cmp (account.Module holder.NotBonded)) who ≡ false
  pub distribution : is_at (account_cmp (account.Module holder.Distribution)) who ≡ false

pub user_is_other : (who : List ℕ) → IsOther (account.User who)
user_is_other who = record { bonded = refl; not_bonded = refl; distribution = refl }

pub fees_are_other : IsOther (account.Module holder.FeeCollector)
fees_are_other = record { bonded = refl; not_bonded = refl; distribution = refl }

module _ (P : List ℕ → Type 0) (T : List ℕ → ℕ) where
  -- ---- coins that move

  pub ground_sent : (from to : Account) (coins : Money) (v : View) → GroundFits P T v → IsMoney coins → is_short v.bank from coins ≡ false → GroundFits P T (sent from to coins v)
  ground_sent from to coins v g m e = record {
    order = record { params = g.order.params; time = g.order.time; height = g.order.height; bank = backed-moved coins v.bank from to g.order.bank m e };
    held = held_moved P coins v.bank from to (known_enough P coins v.bank from m e g.held).named g.held;
    total = λ d. total_sent from to coins v d ∙ g.total d;
  }

  -- facts are told, no burns among them
  pub ground_told : (f : List Fact → List Fact) (v : View) → SayNoMore v.facts (f v.facts) → GroundFits P T v → GroundFits P T (over_facts f v)
  ground_told f v q g = record {
    order = record { params = g.order.params; time = g.order.time; height = g.order.height; bank = g.order.bank };
    held = g.held;
    total = λ d. ap (λ n. supply_of v.bank d + n) (q d) ∙ g.total d;
  }

  pub stake_sent : (b n : ℕ) (l : Lists) (w : World Staked Hooks) (from to : Account) (coins : Money) → StakeFits P T b n l w → IsOther from → IsOther to → IsMoney coins → is_short w.view.bank from coins ≡ false
      → StakeFits P T b n l (over_view (sent from to coins) w)
  stake_sent b n l w from to coins s f t m e =
      let sorted = s.ground.order.bank.balances_ascend in
      record {
        ground = ground_sent from to coins w.view s.ground m e;
        staked = s.staked;
        bonded = λ d. balance-moved_elsewhere coins w.view.bank from to (account.Module holder.Bonded) d sorted f.bonded t.bonded ∙ s.bonded d;
        not_bonded = λ d. balance-moved_elsewhere coins w.view.bank from to (account.Module holder.NotBonded) d sorted f.not_bonded t.not_bonded ∙ s.not_bonded d;
        owed = λ d. ap (λ x. 10 ^ 18 * x) (balance-moved_elsewhere coins w.view.bank from to (account.Module holder.Distribution) d sorted f.distribution t.distribution) ∙ s.owed d;
        shared = s.shared;
        window = s.window;
        recorded = s.recorded;
      }

  pub fee_fits : (payer : List ℕ) (fee : Money) → IsMoney fee → (w : State) → StateFits P T w → IfOk (fee_paid payer fee w) (StateLeft P T w)
  fee_fits payer fee m w h = on_stop (is_short w.view.bank (account.User payer) fee) FeeUnpaid _ _ (λ e. record {
    fits = record {
      stake = stake_sent 0 _ _ _ (account.User payer) (account.Module holder.FeeCollector) fee h.stake (user_is_other payer) fees_are_other m e;
      unbondings = h.unbondings;
      redelegations = h.redelegations;
    };
    whole = λ j. j;
    ctx = refl;
  })

  coins_fit : (from : List ℕ) (to : Account) (coins : Money) → IsMoney coins → (w : State) → StateFits P T w → IfOk (coins_sent from to coins w.view) (λ v. StateLeft P T w (over_view (λ u. v) w))
  coins_fit from (account.Module m) coins money w h = on_stop (is_empty coins) NonPositive _ _ (λ a. tt)
  coins_fit from (account.User to) coins money w h =
      on_stop (is_empty coins) NonPositive _ _ (λ a. on_stop (is_short w.view.bank (account.User from) coins) InsufficientFunds _ _ (λ e. record {
        fits = record {
          stake = stake_sent 0 _ _ _ (account.User from) (account.User to) coins h.stake (user_is_other from) (user_is_other to) money e;
          unbondings = h.unbondings;
          redelegations = h.redelegations;
        };
        whole = λ k. k;
        ctx = refl;
      }))

  pub send_fits : (from : List ℕ) (to : Account) (coins : Money) → IsMoney coins → (w : State) → StateFits P T w → IfOk (send from to coins w) (StateLeft P T w)
  send_fits from to coins money w h = on_then (coins_sent from to coins w.view) _ (λ v. StateLeft P T w (over_view (λ u. v) w)) _ (coins_fit from to coins money w h) (λ v k. k)

  -- ---- what a rule of distribution leaves

  -- the ground in its context, the staking accounts, and what is owed; distribution stands for these lists
  pub record Leaves (v : View) (l : Lists) (d : Shared) (u : View) : Type 0 where
    pub ctx : u.ctx ≡ v.ctx
    pub ground : GroundFits P T u
    pub bonded : (e : List ℕ) → balance_of u.bank (account.Module holder.Bonded) e ≡ balance_of v.bank (account.Module holder.Bonded) e
    pub not_bonded : (e : List ℕ) → balance_of u.bank (account.Module holder.NotBonded) e ≡ balance_of v.bank (account.Module holder.NotBonded) e
    pub owed : HoldsOwed (Some (owed_from_distribution d)) u
    pub shared : SharedFits P v.ctx.height l d

  -- what rules of distribution need of it and of the ground
  pub record HooksFit (v : View) (l : Lists) (d : Shared) : Type 0 where
    pub ground : GroundFits P T v
    pub owed : HoldsOwed (Some (owed_from_distribution d)) v
    pub shared : SharedFits P v.ctx.height l d

  pub fit_after : (v u : View) (l : Lists) (d : Shared) → Leaves v l d u → HooksFit u l d
  fit_after v u l d k = record { ground = k.ground; owed = k.owed; shared = subst (λ (c : Ctx). SharedFits P c.height l d) (sym k.ctx) k.shared }

  -- one rule after another
  pub leaves_then : (v u x : View) (k l : Lists) (c d : Shared) → Leaves v k c u → Leaves u l d x → Leaves v l d x
  leaves_then v u x k l c d f g = record {
    ctx = g.ctx ∙ f.ctx;
    ground = g.ground;
    bonded = λ e. g.bonded e ∙ f.bonded e;
    not_bonded = λ e. g.not_bonded e ∙ f.not_bonded e;
    owed = g.owed;
    shared = subst (λ (y : Ctx). SharedFits P y.height l d) f.ctx g.shared;
  }

  pub same_bond : (u v : View) (d : List ℕ) (n : ℕ) → u.ctx ≡ v.ctx → of_bond v d n ≡ of_bond u d n
  same_bond u v d n e = ap (λ (c : Ctx). cond (is_at (denom_cmp c.params.bond_denom) d) n 0) (sym e)

  pub stake_left : (b n : ℕ) (l l2 : Lists) (w : World Staked Hooks) (d : Shared) (u : View) (log : Log) → StakeFits P T b n l w → Leaves w.view l2 d u
      → StakeFits P T b n l2 (record { mine = w.mine; hooks = (d, w.hooks.1); view = u; log = log })
  stake_left b n l l2 w d u log s k = record {
    ground = k.ground;
    staked = subst (λ (c : Ctx). IsSoundAt c.height w.mine) (sym k.ctx) s.staked;
    bonded = λ e. k.bonded e ∙ s.bonded e ∙ same_bond u w.view e (bonded_tokens w.mine + b) k.ctx;
    not_bonded = λ e. k.not_bonded e ∙ s.not_bonded e ∙ same_bond u w.view e (other_tokens w.mine + n) k.ctx;
    owed = k.owed;
    shared = subst (λ (c : Ctx). SharedFits P c.height l2 d) (sym k.ctx) k.shared;
    window = subst (λ (c : Ctx). WindowIsSound c.height w.hooks.1) (sym k.ctx) s.window;
    recorded = s.recorded;
  }

  -- the same of a whole state
  pub state_left : (w : State) (d : Shared) (u : View) (log : Log) → StateFits P T w → Leaves w.view (lists_of w.mine.staked) d u → StateLeft P T w (with_shared d u log w)
  state_left w d u log h k = record {
    fits = record {
      stake = stake_left 0 _ _ _ (staked_in w) d u (w.log ++ log) h.stake k;
      unbondings = subst (λ (c : Ctx). UnbondingsAreSound c.height w.mine.unbondings) (sym k.ctx) h.unbondings;
      redelegations = subst (λ (c : Ctx). RedelegationsAreSound c.height w.mine.redelegations) (sym k.ctx) h.redelegations;
    };
    whole = λ j. subst (λ (c : Ctx). AllByRecursion (λ p. WholeEntries c.height p.1) w.mine.unbondings) (sym k.ctx) j;
    ctx = k.ctx;
  }

  -- ---- payees

  pub payees_leave : (v : View) (l : Lists) (d : Shared) (who to : List ℕ) → SharedFits P v.ctx.height l d → GroundFits P T v → HoldsOwed (Some (owed_from_distribution d)) v
      → Leaves v l (record d { withdraw = with addr_cmp d.withdraw who to }) v
  payees_leave v l d who to s g owed = record {
    ctx = refl;
    ground = g;
    bonded = λ e. refl;
    not_bonded = λ e. refl;
    owed = owed;
    shared = record {
      stands = record { purses = s.stands.purses; periods = s.stands.periods; starts = s.stands.starts };
      purses_ascend = s.purses_ascend;
      purses = s.purses;
      pool = s.pool;
      periods_ascend = s.periods_ascend;
      periods = s.periods;
      starts_ascend = s.starts_ascend;
      starts = s.starts;
      payees = ascend-put addr_cmp addr_total d.withdraw who to s.payees;
    };
  }

  pub payee_fits : (who : List ℕ) (to : Account) (w : State) → StateFits P T w → IfOk (set_withdraw_address who to w) (StateLeft P T w)
  payee_fits who (account.Module m) w h = tt
  payee_fits who (account.User to) w h =
      on_then (payee_set who (account.User to) w.view.ctx.params w.hooks.0) _ (λ d. StateLeft P T w (with_shared d w.view [] w)) _
      (on_stop (not w.view.ctx.params.withdraw_addr_enabled) WithdrawFixed _ _ (λ e.
      state_left w (record w.hooks.0 { withdraw = with addr_cmp w.hooks.0.withdraw who to }) w.view [] h
      (payees_leave w.view (lists_of w.mine.staked) w.hooks.0 who to h.stake.shared h.stake.ground h.stake.owed)))
      (λ d k. k)

pub fees_keep_soundness : FeesKeepSoundness
fees_keep_soundness payer fee m = keeps (fee_paid payer fee) (λ P T w h. fee_fits P T payer fee m w h)

pub sends_keep_soundness : SendsKeepSoundness
sends_keep_soundness from to coins m = keeps (send from to coins) (λ P T w h. send_fits P T from to coins m w h)

pub payees_keep_soundness : PayeesKeepSoundness
payees_keep_soundness who to = keeps (set_withdraw_address who to) (λ P T w h. payee_fits P T who to w h)
