-- Ending a validator's period: its purse, its periods and the ground stay in order, and what is owed stays the same.
use Rattle.std.proofs.Common.{◌≡◌, ◌∙◌, ℕ, ◌+◌, ◌*◌, ◌^◌, ◌≤◌, ◌==◌, Bool, true, false, cond, List, [], ◌∷◌, map, Some, None, Option, Ok, refl, sym, ap, subst, arith, ◌-◌, Contains, IfOk, is_some, nat_le, min, unwrap_or}
use Rattle.std.specs.{BTreeMap.is_at, List.{AllByRecursion, Sorted.IsStrictlySortedBy}, Map.keys_of}
use Rattle.std.proofs.lemmas.Bool.Decides.{nat_tests}
use Rattle.std.proofs.lemmas.List.Elements.{All-contains_itself, All-head, Contains-append_right}
use Rattle.base_types.specs.Orders.{addr_cmp}
use Rattle.base_roles.specs.declared.entities.{Purse.Purse, SlashEvent.SlashEvent, StartingInfo.StartingInfo}
use Rattle.base_roles.specs.{declared.entities.Validator.Validator, Entries.{at, with}, Owing.Lists, Flow.{◌>>=◌}}
use Rattle.base_roles.specs.Items.{no_purse}
use Rattle.base_coins.proofs.{Amounts.{amount-added, amount-all}, Order.rises_from_money}
use Rattle.base_coins.specs.Coins.{Money, amount_of, coins_added, coins_quo_cut, coins_taken}
use Rattle.base_decimals.specs.Decimals.{period_over}
use Rattle.law_soundness.proofs.Lists.{all_put, weaker}
use Rattle.law_soundness.proofs.Names.{IsKnown, known_added, known_none, known_quo_cut, known_smaller, known_taken}
use Rattle.law_soundness.proofs.Points.{EventFits, PeriodsFit, PurseFits, SharedFits, Stands, StartFits}
use Rattle.law_soundness.proofs.Purses.{HasJoined, PursesFit, has_joined, owed_of, own_purse, purse_put, there_still}
use Rattle.law_soundness.proofs.Steps.{on_then}
use Rattle.rule_modules.proofs.{GoingLemmas.{on_bind, on_stop}, TotalLemmas.{total, total_put}}
use Rattle.rule_modules.proofs.{EntryLemmas.{ascend-put, at-put}, OrderLemmas.{addr_total, same_is}}
use Rattle.rule_modules.{proofs.SoundLemmas.exact_addr, specs.Distribution.{Shared, current_taken}}
use Rattle.rule_modules.specs.Periods.{Periods, period_ended, ratio_at, with_periods}
use Rattle.rule_modules.specs.Purses.{Purses, current_emptied, current_lost, current_pooled, pool_joined, purse_of, with_purse}

-- what is there is what it is unwrapped to
pub some_unwrap : {X : Type 0} (r : Option X) (d : X) → is_some r ≡ true → r ≡ Some (unwrap_or r d)
some_unwrap (Some x) d h = refl
some_unwrap None d h = absurd cc

pub same_some : {X : Type 0} (x y : X) (r : Option X) → r ≡ Some x → r ≡ Some y → x ≡ y
same_some x y r p q = let both : Some x ≡ Some y = sym p ∙ q in cc

-- an operator's new ratio stands, and those that stood
pub stands_first : (n : ℕ) (ns : List ℕ) → Contains (n ∷ ns) n
stands_first n ns = All-head (Contains (n ∷ ns)) n ns (All-contains_itself (n ∷ ns))

stands_behind : (n k : ℕ) (ns : List ℕ) → Contains ns k → Contains (n ∷ ns) k
stands_behind n k ns c = Contains-append_right (n ∷ []) ns k c

-- the periods after an end
abbrev pub ended_with : Money → Periods → Periods
ended_with ratio p = record { current = p.current + 1; ratios = (p.current, ratio) ∷ p.ratios; events = p.events }

-- what fitted before the end fits after it
pub start_after : (height : ℕ) (ratio : Money) (p : Periods) (s : StartingInfo) → StartFits height p s → StartFits height (ended_with ratio p) s
start_after height ratio p s h = record { period = omega (arith, h.period); height = h.height; stands = stands_behind p.current s.period (map (λ r. r.0) p.ratios) h.stands }

event_after : (height : ℕ) (ratio : Money) (p : Periods) (e : SlashEvent) → EventFits height p e → EventFits height (ended_with ratio p) e
event_after height ratio p e h = record { period = omega (arith, h.period); height = h.height; fraction = h.fraction; stands = stands_behind p.current e.period (map (λ r. r.0) p.ratios) h.stands }

module _ (P : List ℕ → Type 0) where
  -- ---- ratios

  by_bool : (b : Bool) (x y : Money) → IsKnown P x → IsKnown P y → IsKnown P (cond b x y)
  by_bool true x y f g = f
  by_bool false x y f g = g

  pub ratio_known : (rs : List (ℕ × Money)) (period : ℕ) → AllByRecursion (λ r. IsKnown P r.1) rs → IsKnown P (ratio_at rs period)
  ratio_known [] period h = known_none P
  ratio_known (r ∷ rs) period h = by_bool (nat_le r.0 period) r.1 (ratio_at rs period) h.0 (ratio_known rs period h.1)

  -- ratios don't fall with the new one on top
  grows : (ratio : Money) (p : Periods) (d : List ℕ) → ((a b : ℕ) → a ≤ b → amount_of (ratio_at p.ratios a) d ≤ amount_of (ratio_at p.ratios b) d) → amount_of (ratio_at p.ratios (p.current - 1)) d ≤ amount_of ratio d
      → (a b : ℕ) → a ≤ b → amount_of (ratio_at ((p.current, ratio) ∷ p.ratios) a) d ≤ amount_of (ratio_at ((p.current, ratio) ∷ p.ratios) b) d
  grows ratio p d g top a b l = by (nat_le p.current a) (nat_le p.current b) refl refl
    where
      later : (c m n : ℕ) → m ≤ n → nat_le c m ≡ true → nat_le c n ≡ false → ⊥
      later c m n k e f = grind (arith, nat_tests)

      before : (c m : ℕ) → nat_le c m ≡ false → m ≤ c - 1
      before c m e = grind (arith, nat_tests)

      by : (s t : Bool) → nat_le p.current a ≡ s → nat_le p.current b ≡ t → amount_of (cond s ratio (ratio_at p.ratios a)) d ≤ amount_of (cond t ratio (ratio_at p.ratios b)) d
      by true true e f = omega arith
      by true false e f = absurd (later p.current a b l e f)
      by false true e f = let low = g a (p.current - 1) (before p.current a e) in omega (arith, low, top)
      by false false e f = g a b l

  -- ---- the end of a period

  -- what the end of a period makes of periods: one more ratio, of denominations that are known
  pub record HasEnded (height : ℕ) (p : Periods) (z : Money × Periods) : Type 0 where
    pub is : z.1 ≡ ended_with z.0 p
    pub fits : PeriodsFit P height z.1

  pub has_ended : (height : ℕ) (increment : Money) (p : Periods) → PeriodsFit P height p → IsKnown P increment → IfOk (period_ended increment p) (HasEnded height p)
  has_ended height increment p h k =
      on_bind (coins_added (ratio_at p.ratios (p.current - 1)) increment) _ _ (λ ratio e. on_stop (p.current == 10 ^ 18) period_over _ _ (λ not_last.
      let last = ratio_known p.ratios (p.current - 1) h.lists in
      record {
        is = refl;
        fits = record {
          first = omega arith;
          most = next p.current h.most not_last;
          falling = (omega arith, h.falling);
          lists = (known_added P (ratio_at p.ratios (p.current - 1)) increment ratio e last k, h.lists);
          last = subst (Stands (ended_with ratio p)) (sym (back p.current)) (stands_first p.current (map (λ r. r.0) p.ratios));
          growing = λ d a b l. grows ratio p d (h.growing d)
              (higher (amount_of (ratio_at p.ratios (p.current - 1)) d) (amount_of increment d) (amount_of ratio d)
              (amount-added (ratio_at p.ratios (p.current - 1)) increment ratio d (rises_from_money (ratio_at p.ratios (p.current - 1)) last.money) (rises_from_money increment k.money) e)) a b l;
          events = weaker (EventFits height p) (EventFits height (ended_with ratio p)) (event_after height ratio p) p.events h.events;
          order = h.order;
        };
      }))
    where
      next : (c : ℕ) → c ≤ 10 ^ 18 → (c == 10 ^ 18) ≡ false → c + 1 ≤ 10 ^ 18
      next c l e = grind (arith, nat_tests)

      back : (c : ℕ) → c + 1 - 1 ≡ c
      back c = omega arith

      higher : (a i r : ℕ) → r ≡ a + i → a ≤ r
      higher a i r e = omega (arith, e)

  -- ---- the current rewards

  -- what the current rewards are taken for, and the purses then, from which as much is owed
  pub record HasTaken (p : Purses) (z : Money × Money × Purses) : Type 0 where
    pub increment : IsKnown P z.0
    pub purses : PursesFit P p z.2
    pub owed : (d : List ℕ) → owed_of z.2 d ≡ owed_of p d

  -- purses that fit, over another pool
  pub pool_after : (p q r : Purses) → PursesFit P p q → r.purses ≡ q.purses → IsKnown P r.pool → PursesFit P p r
  pool_after p q r f e k = record {
    ascend = subst (λ (es : List (List ℕ × Purse)). IsStrictlySortedBy addr_cmp (keys_of es)) (sym e) f.ascend;
    purses = subst (λ (es : List (List ℕ × Purse)). AllByRecursion (λ x. PurseFits P x.1) es) (sym e) f.purses;
    pool = k;
    there = λ o. ap (λ (es : List (List ℕ × Purse)). is_some (at addr_cmp es o)) e ∙ f.there o;
  }

  -- purses in order
  abbrev pub Ordered : Purses → Type 0
  Ordered p = IsStrictlySortedBy addr_cmp (keys_of p.purses) × AllByRecursion (λ e. PurseFits P e.1) p.purses × IsKnown P p.pool

  pooled : (operator : List ℕ) (p : Purses) → Ordered p → is_some (at addr_cmp p.purses operator) ≡ true → IfOk (current_pooled operator p) (λ z. HasTaken p ([], z.0, z.1))
  pooled operator p o there =
      let purse = purse_of p operator in
      let found : at addr_cmp p.purses operator ≡ Some purse = some_unwrap (at addr_cmp p.purses operator) no_purse there in
      let f : PurseFits P purse = own_purse P p.purses operator purse found o.1 in
      let lost = current_lost purse in
      let less : Purse = record purse { outstanding = coins_taken purse.outstanding lost; current = [] } in
      let known : IsKnown P lost = known_smaller P purse.current purse.outstanding f.current in
      let put = purse_put P p operator purse less found o.0 o.1 o.2 (record { outstanding = known_taken P purse.outstanding lost f.outstanding; commission = f.commission; current = known_none P }) in
      on_then (pool_joined lost (with_purse operator less p)) _ (HasJoined P lost (with_purse operator less p)) _ (has_joined P lost (with_purse operator less p) o.2 known) (λ q k. record {
        increment = known_none P;
        purses = pool_after p (with_purse operator less p) q put k.purses k.known;
        owed = λ d. kept _ _ _ _ _ _ _ _ _
            (ap (λ es. total addr_cmp addr_total (λ x. amount_of x.outstanding d) es) k.purses)
            (total_put addr_cmp addr_total (λ x. amount_of x.outstanding d) operator purse less p.purses o.0 found)
            (amount-all (λ e n. n - amount_of lost e) (λ e. omega arith) purse.outstanding d (rises_from_money purse.outstanding f.outstanding.money))
            (amount-all (λ e n. min n (amount_of purse.outstanding e)) (λ e. omega arith) purse.current d (rises_from_money purse.current f.current.money))
            (k.amount d);
      })
    where
      kept : (tq t t0 out less lost cur pq p0 : ℕ) → tq ≡ t → t + out ≡ t0 + less → less ≡ out - lost → lost ≡ min cur out → pq ≡ p0 + lost → tq + pq ≡ t0 + p0
      kept tq t t0 out less lost cur pq p0 e f g h i = omega (arith, e, f, g, h, i)

  emptied : (operator : List ℕ) (p : Purses) (increment : Money) → Ordered p → is_some (at addr_cmp p.purses operator) ≡ true → IsKnown P increment → HasTaken p (increment, [], current_emptied operator p)
  emptied operator p increment o there k =
      let purse = purse_of p operator in
      let found : at addr_cmp p.purses operator ≡ Some purse = some_unwrap (at addr_cmp p.purses operator) no_purse there in
      let f : PurseFits P purse = own_purse P p.purses operator purse found o.1 in
      let less : Purse = record purse { current = [] } in
      record {
        increment = k;
        purses = purse_put P p operator purse less found o.0 o.1 o.2 (record { outstanding = f.outstanding; commission = f.commission; current = known_none P });
        owed = λ d. kept _ _ _ _ (total_put addr_cmp addr_total (λ x. amount_of x.outstanding d) operator purse less p.purses o.0 found);
      }
    where
      kept : (t t0 out p0 : ℕ) → t + out ≡ t0 + out → t + p0 ≡ t0 + p0
      kept t t0 out p0 e = omega (arith, e)

  pub has_taken : (val : Validator) (p : Purses) → Ordered p → is_some (at addr_cmp p.purses val.operator) ≡ true → IfOk (current_taken val p) (HasTaken p)
  has_taken val p o there = by (val.tokens == 0)
    where
      purse : PurseFits P (purse_of p val.operator)
      purse = own_purse P p.purses val.operator (purse_of p val.operator) (some_unwrap (at addr_cmp p.purses val.operator) no_purse there) o.1

      by : (b : Bool) → IfOk (cond b (current_pooled val.operator p >>= λ z. Ok ([], z.0, z.1)) (coins_quo_cut (purse_of p val.operator).current (val.tokens * 10 ^ 18) >>= λ increment. Ok (increment, [], current_emptied val.operator p))) (HasTaken p)
      by true = on_then (current_pooled val.operator p) _ (λ z. HasTaken p ([], z.0, z.1)) _ (pooled val.operator p o there) (λ z k. k)
      by false = on_bind (coins_quo_cut (purse_of p val.operator).current (val.tokens * 10 ^ 18)) _ _ (λ increment e.
          emptied val.operator p increment o there (known_quo_cut P (purse_of p val.operator).current increment (val.tokens * 10 ^ 18) e purse.current))

  -- ---- records with other periods

  -- the periods of an operator are put in the place of others of which what starts say holds too
  pub periods_put : (height : ℕ) (l : Lists) (d : Shared) (operator : List ℕ) (old new : Periods) → SharedFits P height l d → at addr_cmp d.rewards.periods operator ≡ Some old → PeriodsFit P height new
      → ((s : StartingInfo) → StartFits height old s → StartFits height new s) → SharedFits P height l (record d { rewards = with_periods operator new d.rewards })
  periods_put height l d operator old new s found f mono = record {
    stands = record { purses = s.stands.purses; periods = λ o. there_still d.rewards.periods operator o old new found ∙ s.stands.periods o; starts = s.stands.starts };
    purses_ascend = s.purses_ascend;
    purses = s.purses;
    pool = s.pool;
    periods_ascend = ascend-put addr_cmp addr_total d.rewards.periods operator new s.periods_ascend;
    periods = all_put (λ (e : List ℕ × Periods). PeriodsFit P height e.1) addr_cmp exact_addr operator new d.rewards.periods f s.periods;
    starts_ascend = s.starts_ascend;
    starts = weaker (λ e. (p : Periods) → at addr_cmp d.rewards.periods e.0.0 ≡ Some p → StartFits height p e.1)
        (λ e. (p : Periods) → at addr_cmp (with addr_cmp d.rewards.periods operator new) e.0.0 ≡ Some p → StartFits height p e.1)
        (λ e k p g. by e.0.0 e.1 p (is_at (addr_cmp e.0.0) operator) refl (sym (at-put addr_cmp addr_total d.rewards.periods operator e.0.0 new) ∙ g) k) d.rewards.starts s.starts;
    payees = s.payees;
  }
    where
      by : (o : List ℕ) (i : StartingInfo) (p : Periods) (b : Bool) → is_at (addr_cmp o) operator ≡ b → cond b (Some new) (at addr_cmp d.rewards.periods o) ≡ Some p
          → ((p : Periods) → at addr_cmp d.rewards.periods o ≡ Some p → StartFits height p i) → StartFits height p i
      by o i p true e g k = let same : new ≡ p = cc in subst (λ x. StartFits height x i) same (mono i (k old (ap (at addr_cmp d.rewards.periods) (same_is o operator e) ∙ found)))
      by o i p false e g k = k p g
