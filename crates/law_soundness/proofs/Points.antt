-- Sound states, said of each record, with the denominations that they name apart.
use Rattle.std.proofs.Common.{◌≡◌, ◌∙◌, ℕ, zero, suc, ◌+◌, ◌^◌, ◌<◌, ◌≤◌, ◌==◌, Bool, true, false, cond, List, [], ◌∷◌, ◌++◌, length, map, Some, refl, sym, ap, subst, arith, inl, inr, ◌-◌, ◌⊎◌, All, Contains, filter, IsSome}
use Rattle.std.specs.{List.{AllByRecursion, Sorted.IsStrictlySortedBy}, Map.{keys_of, values_of}}
use Rattle.std.proofs.lemmas.Bool.Decides.{nat_tests}
use Rattle.std.proofs.lemmas.List.Elements.{All-append, All-from_recursion, recursion_from_All, All-contains, All-contains_itself}
use Rattle.base_types.specs.{declared.account.Account.Account, Orders.addr_cmp}
use Rattle.base_types.specs.declared.account.Account.TheVariants as account
use Rattle.base_types.specs.declared.account.Module.TheVariants as holder
use Rattle.base_coins.specs.Coins.{Money, IsMoney, amount_of}
use Rattle.base_roles.specs.declared.entities.{Purse.Purse, SlashEvent.SlashEvent, StartingInfo.StartingInfo}
use Rattle.base_roles.specs.{declared.entities.UnbondingEntry.UnbondingEntry, Entries.at}
use Rattle.base_roles.specs.{Ground.{IsInOrder, SameMoment}, Holdings.{balance_of, coins_of, IsBacked}}
use Rattle.base_roles.specs.{Owing.{Lists, HoldsOwed}, Orders.{pair_cmp, same_addr}}
use Rattle.base_roles.specs.{Staked.{Staked, lists_of, bonded_tokens, other_tokens, is_unbonded}, StakeChanges.of_bond}
use Rattle.base_roles.specs.{World.{View, World}, declared.entities.Validator.Validator}
use Rattle.base_roles.proofs.{MomentLemmas.same_moment, HoldingLemmas.balance-most}
use Rattle.rule_modules.specs.{Amounts.{bond_coins, count_where}, Chain.{Hooks, State, staked_in}, Distribution.Shared}
use Rattle.rule_modules.specs.Owed.{owed_from_distribution, entry_balances}
use Rattle.rule_modules.specs.Periods.{Periods, Rewards, ratio_at, starts_of}
use Rattle.rule_modules.specs.Sound.{IsSound, StandsFor, PurseIsSound, PeriodsAreSound, RewardsAreSound, StartIsSound, EventIsSound, AreFalling, GrowWithHeight, WindowIsSound, UnbondingsAreSound, RedelegationsAreSound, names_in, names_of_purses, names_of_ratios, names_of_periods}
use Rattle.rule_modules.{specs.Window.{Window, signing_of}, proofs.EntryLemmas.{from_all, to_all}}
use Rattle.rule_modules.proofs.OrderLemmas.{addr_total, same_is, same_itself, same_back}
use Rattle.rule_modules.proofs.SoundLemmas.{IsSoundAt, to_points, from_points, exact_addr}
use Rattle.rule_modules.proofs.OperatorLemmas.{filtered_all}
use Rattle.rule_machine.proofs.PurseLemmas.{coins-amount, coins-one, one-amount}
use Rattle.law_soundness.proofs.{Bank.AreHeld, Burns.total_in}
use Rattle.law_soundness.proofs.Lists.{all_left, all_right, weaker, mapped_all, from_mapped, from_filtered, found_by, counts_itself}
use Rattle.law_soundness.proofs.Names.{AreNamed, IsKnown}

-- a validator that is bonded or unbonding has a signing record
abbrev pub IsRecorded : Window → List ℕ × Validator → Type 0
IsRecorded i e = is_unbonded e.1.status ≡ false → IsSome (signing_of i e.1.cons)

-- the ratio of a period stands
abbrev pub Stands : Periods → ℕ → Type 0
Stands p n = Contains (map (λ r. r.0) p.ratios) n

-- a start lies before the current period, at a height that was, and its ratio stands
pub record StartFits (now : ℕ) (p : Periods) (s : StartingInfo) : Type 0 where
  pub period : s.period < p.current
  pub height : s.height ≤ now
  pub stands : Stands p s.period

-- so does an event, of at most all
pub record EventFits (now : ℕ) (p : Periods) (e : SlashEvent) : Type 0 where
  pub period : e.period < p.current
  pub height : e.height ≤ now
  pub fraction : e.fraction ≤ 10 ^ 18
  pub stands : Stands p e.period

module _ (P : List ℕ → Type 0) where
  -- purses are lists of coins
  pub record PurseFits (p : Purse) : Type 0 where
    pub outstanding : IsKnown P p.outstanding
    pub commission : IsKnown P p.commission
    pub current : IsKnown P p.current

  -- periods, apart from starts
  pub record PeriodsFit (height : ℕ) (p : Periods) : Type 0 where
    pub first : 1 ≤ p.current
    pub most : p.current ≤ 10 ^ 18
    pub falling : AreFalling p.current p.ratios
    pub lists : AllByRecursion (λ r. IsKnown P r.1) p.ratios
    pub last : Stands p (p.current - 1)
    pub growing : (d : List ℕ) (a b : ℕ) → a ≤ b → amount_of (ratio_at p.ratios a) d ≤ amount_of (ratio_at p.ratios b) d
    pub events : AllByRecursion (EventFits height p) p.events
    pub order : GrowWithHeight p.events

  -- distribution's records, which stand for these operators and pairs
  pub record SharedFits (height : ℕ) (l : Lists) (d : Shared) : Type 0 where
    pub stands : StandsFor d l
    pub purses_ascend : IsStrictlySortedBy addr_cmp (keys_of d.purses.purses)
    pub purses : AllByRecursion (λ e. PurseFits e.1) d.purses.purses
    pub pool : IsKnown P d.purses.pool
    pub periods_ascend : IsStrictlySortedBy addr_cmp (keys_of d.rewards.periods)
    pub periods : AllByRecursion (λ e. PeriodsFit height e.1) d.rewards.periods
    pub starts_ascend : IsStrictlySortedBy pair_cmp (keys_of d.rewards.starts)
    pub starts : AllByRecursion (λ e. (p : Periods) → at addr_cmp d.rewards.periods e.0.0 ≡ Some p → StartFits height p e.1) d.rewards.starts
    pub payees : IsStrictlySortedBy addr_cmp (keys_of d.withdraw)

  -- ---- names

  named_in : (c : Money) → All P (names_in c) → AreNamed P c
  named_in c h = from_mapped P (λ (e : List ℕ × ℕ). e.0) c (recursion_from_All P (names_in c) h)

  in_names : (c : Money) → AreNamed P c → All P (names_in c)
  in_names c h = All-from_recursion P (names_in c) (mapped_all P (λ (e : List ℕ × ℕ). e.0) c h)

  pub purses_named : (es : List (List ℕ × Purse)) → AllByRecursion (λ e. PurseIsSound e.1) es → All P (names_of_purses (values_of es)) → AllByRecursion (λ e. PurseFits e.1) es
  purses_named [] h n = tt
  purses_named (e ∷ es) h n =
      let p : Purse = e.1 in
      let s : PurseIsSound p = h.0 in
      let behind : List (List ℕ) = names_of_purses (values_of es) in
      let three = all_left P (names_in p.outstanding ++ names_in p.commission ++ names_in p.current) behind n in
      let two = all_left P (names_in p.outstanding ++ names_in p.commission) (names_in p.current) three in (
        record {
          outstanding = record { money = s.outstanding; named = named_in p.outstanding (all_left P (names_in p.outstanding) (names_in p.commission) two) };
          commission = record { money = s.commission; named = named_in p.commission (all_right P (names_in p.outstanding) (names_in p.commission) two) };
          current = record { money = s.current; named = named_in p.current (all_right P (names_in p.outstanding ++ names_in p.commission) (names_in p.current) three) };
        },
        purses_named es h.1 (all_right P (names_in p.outstanding ++ names_in p.commission ++ names_in p.current) behind n),
      )

  names_purses : (es : List (List ℕ × Purse)) → AllByRecursion (λ e. PurseFits e.1) es → All P (names_of_purses (values_of es))
  names_purses [] h = All-from_recursion P [] tt
  names_purses (e ∷ es) h =
      let s : PurseFits e.1 = h.0 in
      let two = All-append P (names_in e.1.outstanding) (names_in e.1.commission) (in_names e.1.outstanding s.outstanding.named) (in_names e.1.commission s.commission.named) in
      let three = All-append P (names_in e.1.outstanding ++ names_in e.1.commission) (names_in e.1.current) two (in_names e.1.current s.current.named) in
      All-append P (names_in e.1.outstanding ++ names_in e.1.commission ++ names_in e.1.current) (names_of_purses (values_of es)) three (names_purses es h.1)

  ratios_named : (rs : List (ℕ × Money)) → AllByRecursion (λ r. IsMoney r.1) rs → All P (names_of_ratios rs) → AllByRecursion (λ r. IsKnown P r.1) rs
  ratios_named [] h n = tt
  ratios_named (r ∷ rs) h n = (
    record { money = h.0; named = named_in r.1 (all_left P (names_in r.1) (names_of_ratios rs) n) },
    ratios_named rs h.1 (all_right P (names_in r.1) (names_of_ratios rs) n),
  )

  names_ratios : (rs : List (ℕ × Money)) → AllByRecursion (λ r. IsKnown P r.1) rs → All P (names_of_ratios rs)
  names_ratios [] h = All-from_recursion P [] tt
  names_ratios (r ∷ rs) h =
      let s : IsKnown P r.1 = h.0 in
      All-append P (names_in r.1) (names_of_ratios rs) (in_names r.1 s.named) (names_ratios rs h.1)

  names_periods : (height : ℕ) (es : List (List ℕ × Periods)) → AllByRecursion (λ e. PeriodsFit height e.1) es → All P (names_of_periods (values_of es))
  names_periods height [] h = All-from_recursion P [] tt
  names_periods height (e ∷ es) h =
      let s : PeriodsFit height e.1 = h.0 in
      All-append P (names_of_ratios e.1.ratios) (names_of_periods (values_of es)) (names_ratios e.1.ratios s.lists) (names_periods height es h.1)

  -- ---- periods and starts

  first_counted : (b : Bool) (n : ℕ) → b ≡ true → 0 < cond b 1 0 + n
  first_counted true n e = omega arith
  first_counted false n e = absurd cc

  period_fits : (height : ℕ) (starts : List StartingInfo) (p : Periods) → PeriodsAreSound height starts p → All P (names_of_ratios p.ratios) → PeriodsFit height p
  period_fits height starts p h n = record {
    first = h.first;
    most = h.most;
    falling = h.falling;
    lists = ratios_named p.ratios (recursion_from_All (λ r. IsMoney r.1) p.ratios h.lists) n;
    last = h.standing (p.current - 1) (first_counted (p.current == p.current - 1 + 1) _ (back p.current h.first));
    growing = h.growing;
    events = each_event p.events (recursion_from_All (EventIsSound p.current height) p.events h.events) (counts_itself (λ (e : SlashEvent). e.period) p.events);
    order = h.order;
  }
    where
      back : (c : ℕ) → 1 ≤ c → (c == c - 1 + 1) ≡ true
      back c f = grind (arith, nat_tests)

      each_event : (es : List SlashEvent) → AllByRecursion (EventIsSound p.current height) es → AllByRecursion (λ e. 0 < count_where (λ y. y.period == e.period) p.events) es → AllByRecursion (EventFits height p) es
      each_event [] s c = tt
      each_event (e ∷ es) s c =
          let one : EventIsSound p.current height e = s.0 in
          let counted : 0 < count_where (λ y. y.period == e.period) p.events = c.0 in
          (record { period = one.period; height = one.height; fraction = one.fraction; stands = h.standing e.period (omega (arith, counted)) }, each_event es s.1 c.1)

  pub all_periods : (height : ℕ) (r : Rewards) (es : List (List ℕ × Periods)) → AllByRecursion (λ e. PeriodsAreSound height (starts_of r e.0) e.1) es → All P (names_of_periods (values_of es)) → AllByRecursion (λ e. PeriodsFit height e.1) es
  all_periods height r [] h n = tt
  all_periods height r (e ∷ es) h n = (
    period_fits height (starts_of r e.0) e.1 h.0 (all_left P (names_of_ratios e.1.ratios) (names_of_periods (values_of es)) n),
    all_periods height r es h.1 (all_right P (names_of_ratios e.1.ratios) (names_of_periods (values_of es)) n),
  )

  -- what holds of the starts of an operator holds of each that is among all starts
  own_starts : (r : Rewards) (Q : StartingInfo → Type 0) (e : (List ℕ × List ℕ) × StartingInfo) → AllByRecursion Q (starts_of r e.0.0) → Contains r.starts e → Q e.1
  own_starts r Q e h c =
      let own = from_filtered (λ (x : (List ℕ × List ℕ) × StartingInfo). same_addr x.0.0 e.0.0) (λ x. Q x.1) r.starts
      (from_mapped Q (λ (x : (List ℕ × List ℕ) × StartingInfo). x.1) (filter (λ (x : (List ℕ × List ℕ) × StartingInfo). same_addr x.0.0 e.0.0) r.starts) h) in
      All-contains (λ (x : (List ℕ × List ℕ) × StartingInfo). same_addr x.0.0 e.0.0 ≡ true → Q x.1) r.starts e
      (All-from_recursion (λ (x : (List ℕ × List ℕ) × StartingInfo). same_addr x.0.0 e.0.0 ≡ true → Q x.1) r.starts own) c (same_itself e.0.0)

  pub start_fits : (height : ℕ) (r : Rewards) → RewardsAreSound height r → (e : (List ℕ × List ℕ) × StartingInfo) → Contains r.starts e → (p : Periods) → at addr_cmp r.periods e.0.0 ≡ Some p → StartFits height p e.1
  start_fits height r h e c p f =
      let own : PeriodsAreSound height (starts_of r e.0.0) p = from_all addr_cmp addr_total (λ x. PeriodsAreSound height (starts_of r x.0) x.1) r.periods exact_addr h.periods e.0.0 p f in
      let begun : StartIsSound p.current height e.1 = own_starts r (StartIsSound p.current height) e (recursion_from_All (StartIsSound p.current height) (starts_of r e.0.0) own.begun) c in
      let counted : 0 < count_where (λ y. y.period == e.1.period) (starts_of r e.0.0) =
      own_starts r (λ s. 0 < count_where (λ y. y.period == s.period) (starts_of r e.0.0)) e (counts_itself (λ (s : StartingInfo). s.period) (starts_of r e.0.0)) c in
      record { period = begun.period; height = begun.height; stands = own.standing e.1.period (omega (arith, counted)) }

  either_some : (a b : ℕ) → 0 < a + b → (0 < a) ⊎ (0 < b)
  either_some zero b h = inr (omega (arith, h))
  either_some (suc a) b h = inl (omega arith)

  pub period_sound : (height : ℕ) (r : Rewards) (o : List ℕ) (p : Periods) → at addr_cmp r.periods o ≡ Some p → PeriodsFit height p
      → AllByRecursion (λ e. (p : Periods) → at addr_cmp r.periods e.0.0 ≡ Some p → StartFits height p e.1) r.starts → PeriodsAreSound height (starts_of r o) p
  period_sound height r o p f h starts = record {
    first = h.first;
    most = h.most;
    falling = h.falling;
    lists = All-from_recursion (λ r. IsMoney r.1) p.ratios (weaker (λ r. IsKnown P r.1) (λ r. IsMoney r.1) (λ r k. k.money) p.ratios h.lists);
    standing = λ period some. by period (p.current == period + 1) refl some;
    growing = h.growing;
    begun = All-from_recursion (StartIsSound p.current height) (starts_of r o) (weaker (StartFits height p) (StartIsSound p.current height) (λ s k. record { period = k.period; height = k.height }) (starts_of r o) own);
    events = All-from_recursion (EventIsSound p.current height) p.events (weaker (EventFits height p) (EventIsSound p.current height) (λ e k. record { period = k.period; height = k.height; fraction = k.fraction }) p.events h.events);
    order = h.order;
  }
    where
      own : AllByRecursion (StartFits height p) (starts_of r o)
      own =
          mapped_all (StartFits height p) (λ (x : (List ℕ × List ℕ) × StartingInfo). x.1) (filter (λ (x : (List ℕ × List ℕ) × StartingInfo). same_addr x.0.0 o) r.starts)
          (filtered_all (λ (x : (List ℕ × List ℕ) × StartingInfo). same_addr x.0.0 o) (λ x. StartFits height p x.1) r.starts
          (weaker (λ e. (p : Periods) → at addr_cmp r.periods e.0.0 ≡ Some p → StartFits height p e.1) (λ e. same_addr e.0.0 o ≡ true → StartFits height p e.1)
          (λ e k t. k p (ap (at addr_cmp r.periods) (same_is e.0.0 o t) ∙ f)) r.starts starts))

      same : (a b : ℕ) → (a == b) ≡ true → a ≡ b
      same a b e = grind (arith, nat_tests)

      before : (c n : ℕ) → (c == n + 1) ≡ true → c - 1 ≡ n
      before c n e = let is : c ≡ n + 1 = same c (n + 1) e in omega (arith, is)

      one_of : (period : ℕ) → (0 < count_where (λ s. s.period == period) (starts_of r o)) ⊎ (0 < count_where (λ e. e.period == period) p.events) → Stands p period
      one_of period (inl n) =
          found_by (Stands p period) (λ (s : StartingInfo). s.period == period) (starts_of r o) n
          (weaker (StartFits height p) (λ s. (s.period == period) ≡ true → Stands p period) (λ s k t. subst (Stands p) (same s.period period t) k.stands) (starts_of r o) own)
      one_of period (inr n) =
          found_by (Stands p period) (λ (e : SlashEvent). e.period == period) p.events n
          (weaker (EventFits height p) (λ e. (e.period == period) ≡ true → Stands p period) (λ e k t. subst (Stands p) (same e.period period t) k.stands) p.events h.events)

      by : (period : ℕ) (b : Bool) → (p.current == period + 1) ≡ b → 0 < cond b 1 0 + (count_where (λ s. s.period == period) (starts_of r o) + count_where (λ e. e.period == period) p.events) → Stands p period
      by period true e some = subst (Stands p) (before p.current period e) h.last
      by period false e some = one_of period (either_some (count_where (λ s. s.period == period) (starts_of r o)) (count_where (λ e. e.period == period) p.events) (omega (arith, some)))

-- ---- grounds and states

module _ (P : List ℕ → Type 0) (T : List ℕ → ℕ) where
  -- the ground is in order; of each denomination what is there and what was burned come to this much
  pub record GroundFits (v : View) : Type 0 where
    pub order : IsInOrder v
    pub held : AreHeld P v.bank.balances
    pub total : (d : List ℕ) → total_in v d ≡ T d

  -- Validators, delegations, hooks and ground; the bonded and the not-bonded account hold so much besides the tokens, and
  -- distribution stands for these lists.
  pub record StakeFits (b n : ℕ) (l : Lists) (w : World Staked Hooks) : Type 0 where
    pub ground : GroundFits w.view
    pub staked : IsSoundAt w.view.ctx.height w.mine
    pub bonded : (d : List ℕ) → balance_of w.view.bank (account.Module holder.Bonded) d ≡ of_bond w.view d (bonded_tokens w.mine + b)
    pub not_bonded : (d : List ℕ) → balance_of w.view.bank (account.Module holder.NotBonded) d ≡ of_bond w.view d (other_tokens w.mine + n)
    pub owed : HoldsOwed (Some (owed_from_distribution w.hooks.0)) w.view
    pub shared : SharedFits P w.view.ctx.height l w.hooks.0
    pub window : WindowIsSound w.view.ctx.height w.hooks.1
    pub recorded : AllByRecursion (IsRecorded w.hooks.1) w.mine.validators

  -- a state
  pub record StateFits (w : State) : Type 0 where
    pub stake : StakeFits 0 (entry_balances w.mine.unbondings) (lists_of w.mine.staked) (staked_in w)
    pub unbondings : UnbondingsAreSound w.view.ctx.height w.mine.unbondings
    pub redelegations : RedelegationsAreSound w.view.ctx.height w.mine.redelegations

-- ---- accounts

-- an account that holds exactly this coin
pub holds_coin : (v : View) (who : Account) (n : ℕ) → coins_of v.bank who ≡ bond_coins v n → (d : List ℕ) → balance_of v.bank who d ≡ of_bond v d n
holds_coin v who n e d =
    let bond = v.ctx.params.bond_denom in
    sym (coins-amount v.bank who d) ∙ ap (λ c. amount_of c d) e ∙ one-amount bond d n ∙ ap (λ b. cond b n 0) (same_back d bond)

pub coin_held : (v : View) (who : Account) (n : ℕ) → IsBacked v.bank → ((d : List ℕ) → balance_of v.bank who d ≡ of_bond v d n) → coins_of v.bank who ≡ bond_coins v n
coin_held v who n b e =
    let bond = v.ctx.params.bond_denom in
    let all : balance_of v.bank who bond ≡ n = e bond ∙ ap (λ t. cond t n 0) (same_itself bond) in
    let most = balance-most v.bank who bond b in
    coins-one v.bank who bond n b (omega (arith, all, most)) (λ d. e d ∙ ap (λ t. cond t n 0) (same_back bond d))

more_nothing : (n : ℕ) → n + 0 ≡ n
more_nothing n = omega arith

-- ---- after a step

-- entries that were made at this height lost nothing
abbrev pub WholeEntries : ℕ → List UnbondingEntry → Type 0
WholeEntries height es = AllByRecursion (λ e. e.created ≡ height → e.balance ≡ e.initial) es

-- no entry of this block lost anything
abbrev pub AreAllWhole : State → Type 0
AreAllWhole w = AllByRecursion (λ p. WholeEntries w.view.ctx.height p.1) w.mine.unbondings

-- a state that fits, and where no entry of the block has lost anything if none had
pub record StateLeft (P : List ℕ → Type 0) (T : List ℕ → ℕ) (w x : State) : Type 0 where
  pub fits : StateFits P T x
  pub whole : AreAllWhole w → AreAllWhole x
  pub ctx : x.view.ctx ≡ w.view.ctx

-- The same of a message, of which one may replace the parameters: the moment stays, and what never changes of them.
pub record MessageLeft (P : List ℕ → Type 0) (T : List ℕ → ℕ) (w x : State) : Type 0 where
  pub fits : StateFits P T x
  pub whole : AreAllWhole w → AreAllWhole x
  pub moment : SameMoment w.view.ctx x.view.ctx

-- where the parameters stay
pub at_moment : (P : List ℕ → Type 0) (T : List ℕ → ℕ) (w x : State) → StateLeft P T w x → MessageLeft P T w x
at_moment P T w x k = record { fits = k.fits; whole = k.whole; moment = same_moment w.view.ctx x.view.ctx k.ctx }

-- ---- both ways

pub to_fits : (w : State) (s : IsSound w) → StateFits (Contains s.few.some) (total_in w.view) w
to_fits w s =
    let P : List ℕ → Type 0 = Contains s.few.some in
    let d : Shared = w.hooks.0 in
    let places = map (λ (e : (Account × List ℕ) × ℕ). e.0.1) w.view.bank.balances in
    let purses = names_of_purses (values_of d.purses.purses) in
    let periods = names_of_periods (values_of d.rewards.periods) in
    let three = all_left P (places ++ names_in d.purses.pool ++ purses) periods s.few.all in
    let two = all_left P (places ++ names_in d.purses.pool) purses three in
    record {
      stake = record {
        ground = record { order = s.ground; held = from_mapped P (λ (e : (Account × List ℕ) × ℕ). e.0.1) w.view.bank.balances (recursion_from_All P places (all_left P places (names_in d.purses.pool) two)); total = λ e. refl };
        staked = to_points w.view.ctx.height w.mine.staked s.staked;
        bonded = λ e. holds_coin w.view (account.Module holder.Bonded) (bonded_tokens w.mine.staked) s.accounts.bonded e ∙ ap (of_bond w.view e) (sym (more_nothing (bonded_tokens w.mine.staked)));
        not_bonded = holds_coin w.view (account.Module holder.NotBonded) (other_tokens w.mine.staked + entry_balances w.mine.unbondings) s.accounts.not_bonded;
        owed = s.accounts.distribution;
        shared = record {
          stands = s.stands;
          purses_ascend = s.purses.ascend;
          purses = purses_named P d.purses.purses (recursion_from_All (λ e. PurseIsSound e.1) d.purses.purses s.purses.purses) (all_right P (places ++ names_in d.purses.pool) purses three);
          pool = record { money = s.purses.pool; named = named_in P d.purses.pool (all_right P places (names_in d.purses.pool) two) };
          periods_ascend = s.rewards.periods_ascend;
          periods = all_periods P w.view.ctx.height d.rewards d.rewards.periods (recursion_from_All (λ e. PeriodsAreSound w.view.ctx.height (starts_of d.rewards e.0) e.1) d.rewards.periods s.rewards.periods) (all_right P (places ++ names_in d.purses.pool ++ purses) periods s.few.all);
          starts_ascend = s.rewards.starts_ascend;
          starts = weaker (Contains d.rewards.starts) (λ e. (p : Periods) → at addr_cmp d.rewards.periods e.0.0 ≡ Some p → StartFits w.view.ctx.height p e.1) (λ e c p f. start_fits P w.view.ctx.height d.rewards s.rewards e c p f) d.rewards.starts
              (recursion_from_All (Contains d.rewards.starts) d.rewards.starts (All-contains_itself d.rewards.starts));
          payees = s.payees;
        };
        window = s.window;
        recorded = from_mapped (λ (v : Validator). is_unbonded v.status ≡ false → IsSome (signing_of w.hooks.1 v.cons)) (λ (e : List ℕ × Validator). e.1) w.mine.staked.validators
            (weaker (Contains (values_of w.mine.staked.validators)) (λ v. is_unbonded v.status ≡ false → IsSome (signing_of w.hooks.1 v.cons)) s.recorded (values_of w.mine.staked.validators)
            (recursion_from_All (Contains (values_of w.mine.staked.validators)) (values_of w.mine.staked.validators) (All-contains_itself (values_of w.mine.staked.validators))));
      };
      unbondings = s.unbondings;
      redelegations = s.redelegations;
    }

pub from_fits : (w : State) (some : List (List ℕ)) (T : List ℕ → ℕ) → length some ≤ 1_000_000 → StateFits (Contains some) T w → IsSound w
from_fits w some T few h =
    let P : List ℕ → Type 0 = Contains some in
    let d : Shared = w.hooks.0 in
    let s = h.stake in
    let height = w.view.ctx.height in
    let places = map (λ (e : (Account × List ℕ) × ℕ). e.0.1) w.view.bank.balances in
    let purses = names_of_purses (values_of d.purses.purses) in
    let periods = names_of_periods (values_of d.rewards.periods) in
    record {
      ground = s.ground.order;
      few = record {
        some = some;
        few = few;
        all = All-append P (places ++ names_in d.purses.pool ++ purses) periods
            (All-append P (places ++ names_in d.purses.pool) purses
            (All-append P places (names_in d.purses.pool) (All-from_recursion P places (mapped_all P (λ (e : (Account × List ℕ) × ℕ). e.0.1) w.view.bank.balances s.ground.held)) (in_names P d.purses.pool s.shared.pool.named))
            (names_purses P d.purses.purses s.shared.purses))
            (names_periods P height d.rewards.periods s.shared.periods);
      };
      staked = from_points height w.mine.staked s.staked;
      accounts = record {
        bonded = coin_held w.view (account.Module holder.Bonded) (bonded_tokens w.mine.staked) s.ground.order.bank (λ e. s.bonded e ∙ ap (of_bond w.view e) (more_nothing (bonded_tokens w.mine.staked)));
        not_bonded = coin_held w.view (account.Module holder.NotBonded) (other_tokens w.mine.staked + entry_balances w.mine.unbondings) s.ground.order.bank s.not_bonded;
        distribution = s.owed;
      };
      stands = s.shared.stands;
      purses = record {
        ascend = s.shared.purses_ascend;
        purses = All-from_recursion (λ e. PurseIsSound e.1) d.purses.purses
            (weaker (λ e. PurseFits P e.1) (λ e. PurseIsSound e.1) (λ e k. record { outstanding = k.outstanding.money; commission = k.commission.money; current = k.current.money }) d.purses.purses s.shared.purses);
        pool = s.shared.pool.money;
      };
      rewards = record {
        periods_ascend = s.shared.periods_ascend;
        starts_ascend = s.shared.starts_ascend;
        periods = to_all addr_cmp addr_total (λ e. PeriodsAreSound height (starts_of d.rewards e.0) e.1) d.rewards.periods s.shared.periods_ascend
            (λ o p f. period_sound P height d.rewards o p f (from_all addr_cmp addr_total (λ e. PeriodsFit P height e.1) d.rewards.periods exact_addr (All-from_recursion (λ e. PeriodsFit P height e.1) d.rewards.periods s.shared.periods) o p f) s.shared.starts);
      };
      payees = s.shared.payees;
      window = s.window;
      recorded = λ v c. All-contains (λ (u : Validator). is_unbonded u.status ≡ false → IsSome (signing_of w.hooks.1 u.cons)) (values_of w.mine.staked.validators) v
          (All-from_recursion (λ (u : Validator). is_unbonded u.status ≡ false → IsSome (signing_of w.hooks.1 u.cons)) (values_of w.mine.staked.validators)
          (mapped_all (λ (u : Validator). is_unbonded u.status ≡ false → IsSome (signing_of w.hooks.1 u.cons)) (λ (e : List ℕ × Validator). e.1) w.mine.staked.validators s.recorded)) c;
      unbondings = h.unbondings;
      redelegations = h.redelegations;
    }
