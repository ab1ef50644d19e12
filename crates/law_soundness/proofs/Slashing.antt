-- Slashes keep what fits: what burns leaves the accounts as it leaves validators and entries.
use Rattle.std.proofs.Common.{◌≡◌, ◌∙◌, ℕ, ◌+◌, ◌*◌, ◌^◌, ◌<◌, ◌≤◌, ◌==◌, Bool, true, false, cond, List, [], ◌∷◌, ◌++◌, length, map, Option, Some, None, refl, sym, ap, subst, arith, ◌-◌, min, filter, sum, unwrap_or, if◌then◌else◌, IfOk}
use Rattle.std.specs.{BTreeMap.is_at, List.{AllByRecursion, Sorted.IsStrictlySortedBy}, Map.keys_of}
use Rattle.std.proofs.lemmas.{Bool.Decides.nat_tests, List.Sums.sum_by-cons}
use Rattle.base_types.specs.{declared.account.Account.Account, Orders.denom_cmp}
use Rattle.base_types.specs.declared.account.Account.TheVariants as account
use Rattle.base_types.specs.declared.account.Module.TheVariants as holder
use Rattle.base_roles.specs.declared.entities.{SlashEvent.SlashEvent, UnbondingEntry.UnbondingEntry}
use Rattle.base_roles.specs.{declared.{entities.Validator.Validator, params.Ctx.Ctx}, Owing.Lists}
use Rattle.base_roles.specs.{World.{View, World, burnt, over_view}, Entries.at}
use Rattle.base_roles.specs.Holdings.{Holdings, IsBacked, balance_of, burned, coin_burned}
use Rattle.base_roles.specs.{Orders.{pair_cmp, same_addr}, Staked.{Staked, bonded_tokens, other_tokens}}
use Rattle.base_roles.{specs.StakeChanges.of_bond, proofs.{BurnLemmas.burns_by_amounts, HoldingLemmas.backed-burned}}
use Rattle.rule_modules.specs.EntrySlashes.{is_hit, part_of, burned_of, entry_slashed, entries_slashed, entries_followed, followed}
use Rattle.rule_modules.specs.{Chain.Hooks, Distribution.{Shared, slash_recorded, ended}}
use Rattle.rule_modules.specs.Owed.{balances_of, entry_balances}
use Rattle.rule_modules.specs.Periods.{Periods, event_recorded, initial_records, last_ended, periods_of, with_periods}
use Rattle.rule_modules.specs.Sound.{GrowWithHeight, UnbondingIsSound}
use Rattle.rule_modules.{specs.Unbondings.{UnbondingLists, entries_of, with_entries}, proofs.TotalLemmas.total_more}
use Rattle.rule_modules.proofs.{EntryLemmas.without_none, OrderLemmas.{pair_total, same_back, same_itself}}
use Rattle.law_soundness.proofs.{Burns.total_burnt, Bank.{AreHeld, held_with, name_held}, Ending.under}
use Rattle.law_soundness.proofs.Entries.{Entries, PairFits, PairsFit, put_balances, put_entries, sum_more}
use Rattle.law_soundness.proofs.{Lists.{joined_all, looked_up, weaker}, Moves.{HooksFit, Leaves}}
use Rattle.law_soundness.proofs.Periods.{ended_with, periods_put}
use Rattle.law_soundness.proofs.Points.{EventFits, PeriodsFit, SharedFits, StakeFits}
use Rattle.law_soundness.proofs.{Rewards.{EndFits, end_fits, own_periods}, Steps.on_then}

-- ---- slash events

-- events grow on as a later one is behind them
grow_behind : (es : List SlashEvent) (e : SlashEvent) → GrowWithHeight es → AllByRecursion (λ x. (x.period < e.period) × (x.height ≤ e.height)) es → GrowWithHeight (es ++ e ∷ [])
grow_behind [] e g a = tt
grow_behind (x ∷ []) e g a = (a.0.0, a.0.1, tt)
grow_behind (x ∷ y ∷ es) e g a = (g.0, g.1, grow_behind (y ∷ es) e g.2 a.1)

module _ (P : List ℕ → Type 0) (T : List ℕ → ℕ) where
  -- a slash is recorded at the period that it ends
  pub slash_leaves : (val : Validator) (fraction : ℕ) (v : View) (l : Lists) (d : Shared) → HooksFit P T v l d → l.operators val.operator ≡ true → fraction ≤ 10 ^ 18 → IfOk (slash_recorded val fraction d v) (λ z. Leaves P T v l z.0 z.1)
  slash_leaves val fraction v l d h there most =
      on_then (ended val d v) _ (EndFits P T val v l d) _ (end_fits P T val v l d h there) (λ z k.
      let s = k.leaves.shared in
      let op = val.operator in
      let old = k.old in
      let q : Periods = ended_with k.ratio old in
      let is : periods_of z.1.rewards op ≡ q = ap (λ r. unwrap_or r initial_records) k.now in
      let height : z.2.ctx.height ≡ v.ctx.height = ap (λ (c : Ctx). c.height) k.leaves.ctx in
      let own : PeriodsFit P v.ctx.height q = own_periods P T v.ctx.height z.1.rewards.periods op q k.now s.periods in
      let e : SlashEvent = record { height = z.2.ctx.height; period = last_ended q; fraction = fraction } in
      let p : Periods = record q { events = q.events ++ e ∷ [] } in
      let back : last_ended q ≡ old.current = minus_one old.current in
      let fits : PeriodsFit P v.ctx.height p = record {
        first = own.first;
        most = own.most;
        falling = own.falling;
        lists = own.lists;
        last = own.last;
        growing = own.growing;
        events = joined_all (EventFits v.ctx.height p) q.events (e ∷ [])
            (weaker (EventFits v.ctx.height q) (EventFits v.ctx.height p) (λ x j. record { period = j.period; height = j.height; fraction = j.fraction; stands = j.stands }) q.events own.events)
            (record { period = before q.current own.first; height = at_height z.2.ctx.height v.ctx.height height; fraction = most; stands = own.last }, tt);
        order = grow_behind q.events e own.order
            (weaker (EventFits v.ctx.height old) (λ x. (x.period < e.period) × (x.height ≤ e.height)) (λ x j. (earlier x.period old.current (last_ended q) j.period back, within x.height v.ctx.height z.2.ctx.height j.height height)) old.events k.fits.events);
      } in
      let put = periods_put P v.ctx.height l z.1 op q p s k.now fits (λ i f. record { period = f.period; height = f.height; stands = f.stands }) in
      record {
        ctx = k.leaves.ctx;
        ground = k.leaves.ground;
        bonded = k.leaves.bonded;
        not_bonded = k.leaves.not_bonded;
        owed = k.leaves.owed;
        shared = subst (λ (x : Periods). SharedFits P v.ctx.height l (record z.1 { rewards = with_periods op (event_recorded z.2.ctx.height fraction x) z.1.rewards })) (sym is) put;
      })
    where
      minus_one : (n : ℕ) → n + 1 - 1 ≡ n
      minus_one n = omega arith

      before : (c : ℕ) → 1 ≤ c → c - 1 < c
      before c l = omega (arith, l)

      at_height : (a b : ℕ) → a ≡ b → a ≤ b
      at_height a b e = omega (arith, e)

      earlier : (x c n : ℕ) → x < c → n ≡ c → x < n
      earlier x c n l e = omega (arith, l, e)

      within : (x a b : ℕ) → x ≤ a → b ≡ a → x ≤ b
      within x a b l e = omega (arith, l, e)

  -- ---- burns

  held_burnt : (h : Holdings) (from : Account) (d : List ℕ) (n : ℕ) → n ≤ balance_of h from d → AreHeld P h.balances → AreHeld P (burned from d n h).balances
  held_burnt h from d n l k = by (n == 0) refl
    where
      some : (m : ℕ) → (m == 0) ≡ false → 0 < m
      some m e = grind (arith, nat_tests)

      more : (a m : ℕ) → 0 < m → m ≤ a → 0 < a
      more a m p q = omega (arith, p, q)

      by : (z : Bool) → (n == 0) ≡ z → AreHeld P (if z then h else coin_burned from d n h).balances
      by true e = k
      by false e = held_with P h from d (balance_of h from d - n) (name_held P h from d (more (balance_of h from d) n (some n e) l) k) k

  -- an amount that an account of staking holds besides what is owed burns
  pub stake_burnt : (s : Bool) (b n : ℕ) (l : Lists) (w : World Staked Hooks) (amount : ℕ) → StakeFits P T (b + cond s amount 0) (n + cond s 0 amount) l w
      → StakeFits P T b n l (over_view (burnt (if s then holder.Bonded else holder.NotBonded) w.view.ctx.params.bond_denom amount) w)
  stake_burnt s b n l w amount h = by s h
    where
      bond : List ℕ
      bond = w.view.ctx.params.bond_denom

      backed : IsBacked w.view.bank
      backed = h.ground.order.bank

      -- an account that holds so much besides something else
      enough : (who : Account) (t b : ℕ) → ((d : List ℕ) → balance_of w.view.bank who d ≡ of_bond w.view d (t + (b + amount))) → amount ≤ balance_of w.view.bank who bond
      enough who t b e =
          let all : balance_of w.view.bank who bond ≡ t + (b + amount) = e bond ∙ ap (λ c. cond c (t + (b + amount)) 0) (same_itself bond) in
          omega (arith, all)

      falls_by : (c e : Bool) (v : View) (d : List ℕ) (x y t b : ℕ) → e ≡ c → y + cond e amount 0 ≡ x → x ≡ cond c (t + (b + amount)) 0 → y ≡ cond c (t + b) 0
      falls_by true true v d x y t b i p q = omega (arith, p, q)
      falls_by false false v d x y t b i p q = omega (arith, p, q)
      falls_by true false v d x y t b i p q = absurd cc
      falls_by false true v d x y t b i p q = absurd cc

      stays : (x y t b : ℕ) (v : View) (d : List ℕ) → y + 0 ≡ x → x ≡ of_bond v d (t + (b + 0)) → y ≡ of_bond v d (t + b)
      stays x y t b v d p q = let same : of_bond v d (t + (b + 0)) ≡ of_bond v d (t + b) = ap (of_bond v d) (omega arith) in omega (arith, p, q, same)

      keeps_all : (x y : ℕ) → y + 0 ≡ x → y ≡ x
      keeps_all x y e = omega (arith, e)

      by : (s : Bool) → StakeFits P T (b + cond s amount 0) (n + cond s 0 amount) l w → StakeFits P T b n l (over_view (burnt (if s then holder.Bonded else holder.NotBonded) bond amount) w)
      by true g =
          let from = account.Module holder.Bonded in
          let le = enough from (bonded_tokens w.mine) b g.bonded in
          record {
            ground = record { order = record { params = g.ground.order.params; time = g.ground.order.time; height = g.ground.order.height; bank = backed-burned w.view.bank from bond amount backed le }; held = held_burnt w.view.bank from bond amount le g.ground.held; total = λ d. total_burnt holder.Bonded bond amount w.view backed le d ∙ g.ground.total d };
            staked = g.staked;
            bonded = λ d. falls_by (is_at (denom_cmp bond) d) (is_at (denom_cmp d) bond) w.view d (balance_of w.view.bank from d) _ (bonded_tokens w.mine) b (same_back d bond) (burns_by_amounts w.view.bank from bond amount backed le from d) (g.bonded d);
            not_bonded = λ d. stays (balance_of w.view.bank (account.Module holder.NotBonded) d) _ (other_tokens w.mine) n w.view d (burns_by_amounts w.view.bank from bond amount backed le (account.Module holder.NotBonded) d) (g.not_bonded d);
            owed = λ d. ap (λ x. 10 ^ 18 * x) (keeps_all _ _ (burns_by_amounts w.view.bank from bond amount backed le (account.Module holder.Distribution) d)) ∙ g.owed d;
            shared = g.shared;
            window = g.window;
            recorded = g.recorded;
          }
      by false g =
          let from = account.Module holder.NotBonded in
          let le = enough from (other_tokens w.mine) n g.not_bonded in
          record {
            ground = record { order = record { params = g.ground.order.params; time = g.ground.order.time; height = g.ground.order.height; bank = backed-burned w.view.bank from bond amount backed le }; held = held_burnt w.view.bank from bond amount le g.ground.held; total = λ d. total_burnt holder.NotBonded bond amount w.view backed le d ∙ g.ground.total d };
            staked = g.staked;
            bonded = λ d. stays (balance_of w.view.bank (account.Module holder.Bonded) d) _ (bonded_tokens w.mine) b w.view d (burns_by_amounts w.view.bank from bond amount backed le (account.Module holder.Bonded) d) (g.bonded d);
            not_bonded = λ d. falls_by (is_at (denom_cmp bond) d) (is_at (denom_cmp d) bond) w.view d (balance_of w.view.bank from d) _ (other_tokens w.mine) n (same_back d bond) (burns_by_amounts w.view.bank from bond amount backed le from d) (g.not_bonded d);
            owed = λ d. ap (λ x. 10 ^ 18 * x) (keeps_all _ _ (burns_by_amounts w.view.bank from bond amount backed le (account.Module holder.Distribution) d)) ∙ g.owed d;
            shared = g.shared;
            window = g.window;
            recorded = g.recorded;
          }

  -- ---- entries

  slashed_balances : (infraction factor now : ℕ) (es : Entries) → balances_of (map (entry_slashed infraction factor now) es) + burned_of infraction factor now es ≡ balances_of es
  slashed_balances infraction factor now [] = refl
  slashed_balances infraction factor now (e ∷ es) = by (is_hit infraction now e.created e.completes) (slashed_balances infraction factor now es)
    where
      rest : List UnbondingEntry
      rest = filter (λ x. is_hit infraction now x.created x.completes) es

      burn : UnbondingEntry → ℕ
      burn x = min (part_of factor x.initial) x.balance

      by : (b : Bool) → balances_of (map (entry_slashed infraction factor now) es) + sum (map (λ x. min (part_of factor x.initial) x.balance) rest) ≡ balances_of es
          → balances_of ((if b then record e { balance = e.balance - part_of factor e.initial } else e) ∷ map (entry_slashed infraction factor now) es)
          + sum (map (λ x. min (part_of factor x.initial) x.balance) (cond b (e ∷ rest) rest)) ≡ balances_of (e ∷ es)
      by true ih = omega (arith, ih, sum_more e es, sum_more (record e { balance = e.balance - part_of factor e.initial }) (map (entry_slashed infraction factor now) es), sum_by-cons (λ n. n) (min (part_of factor e.initial) e.balance) (map (λ x. min (part_of factor x.initial) x.balance) rest))
      by false ih = omega (arith, ih, sum_more e es, sum_more e (map (entry_slashed infraction factor now) es))

  slashed_sound : (infraction factor now height : ℕ) (es : Entries) → AllByRecursion (UnbondingIsSound height) es → AllByRecursion (UnbondingIsSound height) (map (entry_slashed infraction factor now) es)
  slashed_sound infraction factor now height [] h = tt
  slashed_sound infraction factor now height (e ∷ es) h = (by (is_hit infraction now e.created e.completes), slashed_sound infraction factor now height es h.1)
    where
      own : UnbondingIsSound height e
      own = h.0

      by : (b : Bool) → UnbondingIsSound height (if b then record e { balance = e.balance - part_of factor e.initial } else e)
      by true = record { initial = own.initial; balance = omega (arith, own.balance); created = own.created }
      by false = own

  mapped_length : (f : UnbondingEntry → UnbondingEntry) (es : Entries) → length (map f es) ≡ length es
  mapped_length f [] = refl
  mapped_length f (e ∷ es) = omega (arith, mapped_length f es)

  slashed_pair : (infraction factor now height : ℕ) (es : Entries) → PairFits height es → PairFits height (map (entry_slashed infraction factor now) es)
  slashed_pair infraction factor now height es h =
      let same = mapped_length (entry_slashed infraction factor now) es in
      let some = h.some in
      let most = h.most in
      record { some = omega (arith, same, some); most = omega (arith, same, most); entries = slashed_sound infraction factor now height es h.entries }

  entries_keys : (operator : List ℕ) (infraction factor : ℕ) (u : UnbondingLists) (v : View) → keys_of (entries_slashed operator infraction factor u v).0 ≡ keys_of u
  entries_keys operator infraction factor [] v = refl
  entries_keys operator infraction factor (p ∷ ps) v = by (same_addr p.0.1 operator) (λ u. entries_keys operator infraction factor ps u)
    where
      v1 : View
      v1 = burnt holder.NotBonded v.ctx.params.bond_denom (burned_of infraction factor v.ctx.time p.1) v

      yes : UnbondingLists × View
      yes = ((p.0, map (entry_slashed infraction factor v.ctx.time) p.1) ∷ (entries_slashed operator infraction factor ps v1).0, (entries_slashed operator infraction factor ps v1).1)

      no : UnbondingLists × View
      no = (p ∷ (entries_slashed operator infraction factor ps v).0, (entries_slashed operator infraction factor ps v).1)

      by : (b : Bool) → ((u : View) → keys_of (entries_slashed operator infraction factor ps u).0 ≡ keys_of ps)
          → keys_of (cond b yes no).0 ≡ p.0 ∷ keys_of ps
      by true ih = ap (λ ks. p.0 ∷ ks) (ih v1)
      by false ih = ap (λ ks. p.0 ∷ ks) (ih v)

  entries_pairs : (operator : List ℕ) (infraction factor height : ℕ) (u : UnbondingLists) (v : View) → AllByRecursion (λ p. PairFits height p.1) u → AllByRecursion (λ p. PairFits height p.1) (entries_slashed operator infraction factor u v).0
  entries_pairs operator infraction factor height [] v h = tt
  entries_pairs operator infraction factor height (p ∷ ps) v h = by (same_addr p.0.1 operator) (λ u. entries_pairs operator infraction factor height ps u h.1)
    where
      v1 : View
      v1 = burnt holder.NotBonded v.ctx.params.bond_denom (burned_of infraction factor v.ctx.time p.1) v

      yes : UnbondingLists × View
      yes = ((p.0, map (entry_slashed infraction factor v.ctx.time) p.1) ∷ (entries_slashed operator infraction factor ps v1).0, (entries_slashed operator infraction factor ps v1).1)

      no : UnbondingLists × View
      no = (p ∷ (entries_slashed operator infraction factor ps v).0, (entries_slashed operator infraction factor ps v).1)

      by : (b : Bool) → ((u : View) → AllByRecursion (λ p. PairFits height p.1) (entries_slashed operator infraction factor ps u).0)
          → AllByRecursion (λ p. PairFits height p.1) (cond b yes no).0
      by true ih = (slashed_pair infraction factor v.ctx.time height p.1 h.0, ih v1)
      by false ih = (h.0, ih v)

  pub entries_fit : (operator : List ℕ) (infraction factor : ℕ) (u : UnbondingLists) (n : ℕ) (l : Lists) (w : World Staked Hooks) → StakeFits P T 0 (n + entry_balances u) l w
      → StakeFits P T 0 (n + entry_balances (entries_slashed operator infraction factor u w.view).0) l (under P T (entries_slashed operator infraction factor u w.view).1 w) × ((entries_slashed operator infraction factor u w.view).1.ctx ≡ w.view.ctx)
  entries_fit operator infraction factor [] n l w h = (h, refl)
  entries_fit operator infraction factor (p ∷ ps) n l w h = by (same_addr p.0.1 operator) (λ x m k. entries_fit operator infraction factor ps m l x k)
    where
      amount : ℕ
      amount = burned_of infraction factor w.view.ctx.time p.1

      es : Entries
      es = map (entry_slashed infraction factor w.view.ctx.time) p.1

      v1 : View
      v1 = burnt holder.NotBonded w.view.ctx.params.bond_denom amount w.view

      yes : UnbondingLists × View
      yes = ((p.0, es) ∷ (entries_slashed operator infraction factor ps v1).0, (entries_slashed operator infraction factor ps v1).1)

      no : UnbondingLists × View
      no = (p ∷ (entries_slashed operator infraction factor ps w.view).0, (entries_slashed operator infraction factor ps w.view).1)

      all : entry_balances (p ∷ ps) ≡ balances_of p.1 + entry_balances ps
      all = total_more pair_cmp pair_total balances_of p ps

      hit : (n a b x y : ℕ) → a ≡ x + b → y + amount ≡ x → n + a ≡ n + y + b + amount
      hit n a b x y f g = omega (arith, f, g)

      passed : (n a b x : ℕ) → a ≡ x + b → n + a ≡ n + x + b
      passed n a b x f = omega (arith, f)

      joined : (n x b a : ℕ) → a ≡ x + b → n + x + b ≡ n + a
      joined n x b a f = omega (arith, f)

      by : (b : Bool) → ((x : World Staked Hooks) (m : ℕ) → StakeFits P T 0 (m + entry_balances ps) l x
          → StakeFits P T 0 (m + entry_balances (entries_slashed operator infraction factor ps x.view).0) l (under P T (entries_slashed operator infraction factor ps x.view).1 x) × ((entries_slashed operator infraction factor ps x.view).1.ctx ≡ x.view.ctx))
          → StakeFits P T 0 (n + entry_balances (cond b yes no).0) l
          (under P T (cond b yes no).1 w)
          × ((cond b yes no).1.ctx ≡ w.view.ctx)
      by true ih =
          let before = subst (λ m. StakeFits P T 0 m l w) (hit n (entry_balances (p ∷ ps)) (entry_balances ps) (balances_of p.1) (balances_of es) all (slashed_balances infraction factor w.view.ctx.time p.1)) h in
          let burnt_now = stake_burnt false 0 (n + balances_of es + entry_balances ps) l w amount before in
          let rest = ih (under P T v1 w) (n + balances_of es) burnt_now in
          let lists = (entries_slashed operator infraction factor ps v1).0 in
          (subst (λ m. StakeFits P T 0 m l (under P T (entries_slashed operator infraction factor ps v1).1 w)) (joined n (balances_of es) (entry_balances lists) (entry_balances ((p.0, es) ∷ lists)) (total_more pair_cmp pair_total balances_of (p.0, es) lists)) rest.0, rest.1)
      by false ih =
          let rest = ih w (n + balances_of p.1) (subst (λ m. StakeFits P T 0 m l w) (passed n (entry_balances (p ∷ ps)) (entry_balances ps) (balances_of p.1) all) h) in
          let lists = (entries_slashed operator infraction factor ps w.view).0 in
          (subst (λ m. StakeFits P T 0 m l (under P T (entries_slashed operator infraction factor ps w.view).1 w)) (joined n (balances_of p.1) (entry_balances lists) (entry_balances (p ∷ lists)) (total_more pair_cmp pair_total balances_of p lists)) rest.0, rest.1)

  pub entries_fit_pairs : (operator : List ℕ) (infraction factor height : ℕ) (u : UnbondingLists) (v : View) → PairsFit height u → PairsFit height (entries_slashed operator infraction factor u v).0
  entries_fit_pairs operator infraction factor height u v h = record {
    ascend = subst (IsStrictlySortedBy pair_cmp) (sym (entries_keys operator infraction factor u v)) h.ascend;
    pairs = entries_pairs operator infraction factor height u v h.pairs;
  }

  -- ---- entries that follow

  followed_balances : (from now left : ℕ) (es : Entries) → balances_of (entries_followed from now left es).1 + (entries_followed from now left es).0 ≡ balances_of es
  followed_balances from now left [] = refl
  followed_balances from now left (e ∷ es) = by (if is_hit from now e.created e.completes then min left e.balance else 0) (at_most (is_hit from now e.created e.completes)) (λ n. followed_balances from now n es)
    where
      at_most : (c : Bool) → (if c then min left e.balance else 0) ≤ e.balance
      at_most true = omega arith
      at_most false = omega arith

      by : (lost : ℕ) → lost ≤ e.balance → ((n : ℕ) → balances_of (entries_followed from now n es).1 + (entries_followed from now n es).0 ≡ balances_of es)
          → balances_of (record e { balance = e.balance - lost } ∷ (entries_followed from now (left - lost) es).1) + (lost + (entries_followed from now (left - lost) es).0) ≡ balances_of (e ∷ es)
      by lost le rest = omega (arith, le, rest (left - lost), sum_more e es, sum_more (record e { balance = e.balance - lost }) (entries_followed from now (left - lost) es).1)

  followed_length : (from now left : ℕ) (es : Entries) → length (entries_followed from now left es).1 ≡ length es
  followed_length from now left [] = refl
  followed_length from now left (e ∷ es) = omega (arith, followed_length from now (left - (if is_hit from now e.created e.completes then min left e.balance else 0)) es)

  followed_sound : (from now left height : ℕ) (es : Entries) → AllByRecursion (UnbondingIsSound height) es → AllByRecursion (UnbondingIsSound height) (entries_followed from now left es).1
  followed_sound from now left height [] h = tt
  followed_sound from now left height (e ∷ es) h =
      let own : UnbondingIsSound height e = h.0 in
      let lost : ℕ = if is_hit from now e.created e.completes then min left e.balance else 0 in (
        record { initial = own.initial; balance = omega (arith, own.balance); created = own.created },
        followed_sound from now (left - lost) height es h.1,
      )

  followed_pair : (from now left height : ℕ) (es : Entries) → PairFits height es → PairFits height (entries_followed from now left es).1
  followed_pair from now left height es h =
      let same = followed_length from now left es in
      let some = h.some in
      let most = h.most in
      record { some = omega (arith, same, some); most = omega (arith, same, most); entries = followed_sound from now left height es h.entries }

  -- what follows a redelegation is taken from the entries of a pair
  record Followed (height : ℕ) (u : UnbondingLists) (lost : ℕ) (v : UnbondingLists) : Type 0 where
    fits : PairsFit height v
    balances : entry_balances v + lost ≡ entry_balances u

  followed_fits : (height from now left : ℕ) (who op : List ℕ) (u : UnbondingLists) → PairsFit height u
      → Followed height u (entries_followed from now left (entries_of u who op)).0 (with_entries who op (entries_followed from now left (entries_of u who op)).1 u)
  followed_fits height from now left who op u h = by (at pair_cmp u (who, op)) refl
    where
      put : (old es : Entries) (lost : ℕ) → at pair_cmp u (who, op) ≡ Some old → balances_of es + lost ≡ balances_of old → PairFits height es → Followed height u lost (with_entries who op es u)
      put old [] lost is f k = let none : 0 < 0 = k.some in absurd (omega (arith, none))
      put old (e ∷ es) lost is f k =
          let all : entry_balances (with_entries who op (e ∷ es) u) + balances_of old ≡ entry_balances u + balances_of (e ∷ es) =
          ap (λ r. entry_balances (with_entries who op (e ∷ es) u) + balances_of (unwrap_or r [])) (sym is) ∙ put_balances height who op e es u h in
          record { fits = put_entries height who op e es u h k; balances = omega (arith, all, f) }

      same : (n : ℕ) → n + 0 ≡ n
      same n = omega arith

      by : (r : Option Entries) → at pair_cmp u (who, op) ≡ r
          → Followed height u (entries_followed from now left (unwrap_or r [])).0 (with_entries who op (entries_followed from now left (unwrap_or r [])).1 u)
      by None is = subst (Followed height u 0) (sym (without_none pair_cmp (who, op) u is)) (record { fits = h; balances = same (entry_balances u) })
      by (Some es) is =
          put es (entries_followed from now left es).1 (entries_followed from now left es).0 is (followed_balances from now left es)
          (followed_pair from now left height es (looked_up (λ (p : (List ℕ × List ℕ) × Entries). PairFits height p.1) (is_at (pair_cmp (who, op))) (PairFits height) (λ k x t g. g) u es is h.pairs))

  pub followed_pairs : (height from tokens : ℕ) (who op : List ℕ) (u : UnbondingLists) (v : View) → PairsFit height u → PairsFit height (followed who op from tokens u v).1
  followed_pairs height from tokens who op u v h = (followed_fits height from v.ctx.time tokens who op u h).fits

  -- the not-bonded account holds less by what followed
  pub followed_fit : (height from tokens : ℕ) (who op : List ℕ) (u : UnbondingLists) (l : Lists) (w : World Staked Hooks) → PairsFit height u → StakeFits P T 0 (entry_balances u) l w
      → StakeFits P T 0 (entry_balances (followed who op from tokens u w.view).1) l (under P T (followed who op from tokens u w.view).2 w)
  followed_fit height from tokens who op u l w pairs h =
      let k = followed_fits height from w.view.ctx.time tokens who op u pairs in
      let lost = followed who op from tokens u w.view in
      stake_burnt false 0 (entry_balances lost.1) l w lost.0 (subst (λ m. StakeFits P T 0 m l w) (sym k.balances) h)
