-- Purses, the pool and the distribution account, as coins join the pool, purses change and coins are paid.
use Rattle.std.proofs.Common.{◌≡◌, ◌∙◌, ℕ, ◌+◌, ◌*◌, ◌^◌, ◌≤◌, Bool, true, false, cond, List, [], ◌∷◌, Some, None, Option, refl, sym, ap, subst, arith, ◌||◌, IfOk, is_some, nat_lt, unwrap_or}
use Rattle.std.specs.{BTreeMap.is_at, List.{AllByRecursion, Sorted.IsStrictlySortedBy}, Map.{keys_of, lookup}}
use Rattle.std.proofs.lemmas.Bool.Decides.{nat_tests}
use Rattle.base_types.specs.{declared.account.Account.Account, Orders.{addr_cmp, account_cmp, denom_cmp}}
use Rattle.base_types.specs.declared.account.Account.TheVariants as account
use Rattle.base_types.specs.declared.account.Module.TheVariants as holder
use Rattle.base_coins.specs.Coins.{Money, IsMoney, amount_of, coins_added}
use Rattle.base_coins.proofs.Amounts.{amount-added, itself, is_equal}
use Rattle.base_coins.proofs.Order.{Above, Rises, same_name, rises_from_money, amount-above, amount-first}
use Rattle.base_roles.specs.{declared.entities.Purse.Purse, Entries.{at, with}}
use Rattle.base_roles.specs.{Holdings.{Holdings, balance_of, is_short}, Owing.{Lists, HoldsOwed}, World.{View, sent}}
use Rattle.base_roles.proofs.{AmountLemmas.moves_by_amounts, HoldingLemmas.balance-moved_elsewhere}
use Rattle.rule_modules.proofs.{PartLemmas.rest_within, EntryLemmas.{at-put, ascend-put}}
use Rattle.rule_modules.proofs.{OrderLemmas.{addr_total, equal}, SoundLemmas.exact_addr, GoingLemmas.on_bind}
use Rattle.rule_modules.{proofs.TotalLemmas.total, specs.Distribution.Shared}
use Rattle.rule_modules.specs.Purses.{Purses, with_purse, pool_joined}
use Rattle.law_soundness.proofs.{Lists.{all_put, looked_up}, Moves.{IsOther, ground_sent}, Names.{IsKnown, known_added}}
use Rattle.law_soundness.proofs.Points.{PurseFits, SharedFits, GroundFits}

-- ---- look-ups

some_put : {X : Type 0} (b : Bool) (x : X) (r : Option X) → (b ≡ true → is_some r ≡ true) → is_some (cond b (Some x) r) ≡ is_some r
some_put true x r h = sym (h refl)
some_put false x r h = refl

-- a value that takes the place of another changes no keys
pub there_still : {X : Type 0} (es : List (List ℕ × X)) (k q : List ℕ) (x y : X) → at addr_cmp es k ≡ Some x → is_some (at addr_cmp (with addr_cmp es k y) q) ≡ is_some (at addr_cmp es q)
there_still es k q x y h =
    ap is_some (at-put addr_cmp addr_total es k q y)
    ∙ some_put (is_at (addr_cmp q) k) y (at addr_cmp es q) (λ e. ap (λ o. is_some (at addr_cmp es o)) (exact_addr q k (equal (addr_cmp q k) e)) ∙ ap is_some h)

-- ---- what is owed from purses and the pool

abbrev pub owed_of : Purses → List ℕ → ℕ
owed_of p d = total addr_cmp addr_total (λ q. amount_of q.outstanding d) p.purses + amount_of p.pool d

-- an account has enough of coins whose amounts are within its balances
pub enough_held : (coins : Money) (h : Holdings) (who : Account) → Rises coins → ((d : List ℕ) → amount_of coins d ≤ balance_of h who d) → is_short h who coins ≡ false
enough_held [] h who r le = refl
enough_held (c ∷ cs) h who r le =
    first (nat_lt (balance_of h who c.0) c.1) (is_short h who cs) (not_less (balance_of h who c.0) c.1 (own (le c.0) (amount-first c.0 c cs (itself c.0))))
    (enough_held cs h who r.3 (λ d. through (amount_of cs d) (amount_of (c ∷ cs) d) (balance_of h who d) (rest_within c cs d r.0) (le d)))
  where
    own : amount_of (c ∷ cs) c.0 ≤ balance_of h who c.0 → amount_of (c ∷ cs) c.0 ≡ c.1 → c.1 ≤ balance_of h who c.0
    own l e = omega (arith, l, e)

    through : (a b n : ℕ) → a ≤ b → b ≤ n → a ≤ n
    through a b n p q = omega (arith, p, q)

    not_less : (a n : ℕ) → n ≤ a → nat_lt a n ≡ false
    not_less a n l = grind (arith, nat_tests)

    first : (a b : Bool) → a ≡ false → b ≡ false → (a || b) ≡ false
    first true b p q = absurd cc
    first false b p q = q

-- where each coin is within an amount, each amount is
pub amounts_within : (coins : Money) (f : List ℕ → ℕ) → AllByRecursion (λ c. c.1 ≤ f c.0) coins → (d : List ℕ) → amount_of coins d ≤ f d
amounts_within coins f h d = by (lookup (is_at (denom_cmp d)) coins) refl
  where
    by : (r : Option ℕ) → lookup (is_at (denom_cmp d)) coins ≡ r → unwrap_or r 0 ≤ f d
    by None e = omega arith
    by (Some n) e = looked_up (λ (c : List ℕ × ℕ). c.1 ≤ f c.0) (is_at (denom_cmp d)) (λ m. m ≤ f d) (λ k m t g. subst (λ x. m ≤ f x) (sym (same_name d k (is_equal d k t))) g) coins n e h

module _ (P : List ℕ → Type 0) where
  -- ---- the pool

  -- coins joined the pool
  pub record HasJoined (coins : Money) (p q : Purses) : Type 0 where
    pub purses : q.purses ≡ p.purses
    pub known : IsKnown P q.pool
    pub amount : (d : List ℕ) → amount_of q.pool d ≡ amount_of p.pool d + amount_of coins d

  pub has_joined : (coins : Money) (p : Purses) → IsKnown P p.pool → IsKnown P coins → IfOk (pool_joined coins p) (HasJoined coins p)
  has_joined coins p k c = on_bind (coins_added p.pool coins) _ _ (λ pool e. record {
    purses = refl;
    known = known_added P p.pool coins pool e k c;
    amount = λ d. amount-added p.pool coins pool d (rises_from_money p.pool k.money) (rises_from_money coins c.money) e;
  })

  -- ---- records of distribution with other purses

  -- purses that fit, of the same operators
  pub record PursesFit (p q : Purses) : Type 0 where
    pub ascend : IsStrictlySortedBy addr_cmp (keys_of q.purses)
    pub purses : AllByRecursion (λ e. PurseFits P e.1) q.purses
    pub pool : IsKnown P q.pool
    pub there : (o : List ℕ) → is_some (at addr_cmp q.purses o) ≡ is_some (at addr_cmp p.purses o)

  pub shared_purses : (height : ℕ) (l : Lists) (d : Shared) (q : Purses) → SharedFits P height l d → PursesFit d.purses q → SharedFits P height l (record d { purses = q })
  shared_purses height l d q s f = record {
    stands = record { purses = λ o. f.there o ∙ s.stands.purses o; periods = s.stands.periods; starts = s.stands.starts };
    purses_ascend = f.ascend;
    purses = f.purses;
    pool = f.pool;
    periods_ascend = s.periods_ascend;
    periods = s.periods;
    starts_ascend = s.starts_ascend;
    starts = s.starts;
    payees = s.payees;
  }

  -- the pool alone is another
  pub pool_fits : (height : ℕ) (l : Lists) (d : Shared) (q : Purses) → SharedFits P height l d → q.purses ≡ d.purses.purses → IsKnown P q.pool → PursesFit d.purses q
  pool_fits height l d q s e k = record {
    ascend = subst (λ (es : List (List ℕ × Purse)). IsStrictlySortedBy addr_cmp (keys_of es)) (sym e) s.purses_ascend;
    purses = subst (λ (es : List (List ℕ × Purse)). AllByRecursion (λ x. PurseFits P x.1) es) (sym e) s.purses;
    pool = k;
    there = λ o. ap (λ (es : List (List ℕ × Purse)). is_some (at addr_cmp es o)) e;
  }

  -- the purse of an operator that stands
  pub own_purse : (es : List (List ℕ × Purse)) (o : List ℕ) (p : Purse) → at addr_cmp es o ≡ Some p → AllByRecursion (λ e. PurseFits P e.1) es → PurseFits P p
  own_purse es o p e h = looked_up (λ (x : List ℕ × Purse). PurseFits P x.1) (is_at (addr_cmp o)) (PurseFits P) (λ k y t g. g) es p e h

  pub purse_put : (p : Purses) (o : List ℕ) (old new : Purse) → at addr_cmp p.purses o ≡ Some old → IsStrictlySortedBy addr_cmp (keys_of p.purses) → AllByRecursion (λ e. PurseFits P e.1) p.purses → IsKnown P p.pool → PurseFits P new
      → PursesFit p (with_purse o new p)
  purse_put p o old new e s h k f = record {
    ascend = ascend-put addr_cmp addr_total p.purses o new s;
    purses = all_put (λ (x : List ℕ × Purse). PurseFits P x.1) addr_cmp exact_addr o new p.purses f h;
    pool = k;
    there = λ q. there_still p.purses o q old new e;
  }

-- ---- payments from the distribution account

module _ (P : List ℕ → Type 0) (T : List ℕ → ℕ) where
  -- coins were paid from the distribution account, which then holds what is owed then
  pub record IsPaid (v u : View) (then : List ℕ → ℕ) : Type 0 where
    pub ctx : u.ctx ≡ v.ctx
    pub ground : GroundFits P T u
    pub bonded : (e : List ℕ) → balance_of u.bank (account.Module holder.Bonded) e ≡ balance_of v.bank (account.Module holder.Bonded) e
    pub not_bonded : (e : List ℕ) → balance_of u.bank (account.Module holder.NotBonded) e ≡ balance_of v.bank (account.Module holder.NotBonded) e
    pub holds : HoldsOwed (Some then) u

  pub are_paid : (v : View) (to : Account) (coins : Money) (owed then : List ℕ → ℕ) → GroundFits P T v → IsMoney coins → IsOther to → HoldsOwed (Some owed) v
      → ((d : List ℕ) → then d + 10 ^ 18 * amount_of coins d ≡ owed d) → IsPaid v (sent (account.Module holder.Distribution) to coins v) then
  are_paid v to coins owed then g m t h e =
      let from = account.Module holder.Distribution in
      let short : is_short v.bank from coins ≡ false = enough_held coins v.bank from (rises_from_money coins m) (λ d. within (then d) (amount_of coins d) (owed d) (balance_of v.bank from d) (e d) (h d)) in
      let sorted = g.order.bank.balances_ascend in
      record {
        ctx = refl;
        ground = ground_sent P T from to coins v g m short;
        bonded = λ d. balance-moved_elsewhere coins v.bank from to (account.Module holder.Bonded) d sorted refl t.bonded;
        not_bonded = λ d. balance-moved_elsewhere coins v.bank from to (account.Module holder.NotBonded) d sorted refl t.not_bonded;
        holds = λ d. holds (balance_of v.bank from d) _ (amount_of coins d) (owed d) (then d) (is_at (account_cmp from) to) t.distribution (moves_by_amounts v.bank from to coins g.order.bank m short from d) (h d) (e d);
      }
    where
      within : (t a o x : ℕ) → t + 10 ^ 18 * a ≡ o → 10 ^ 18 * x ≡ o → a ≤ x
      within t a o x p q = omega (arith, p, q)

      holds : (x y a o t : ℕ) (b : Bool) → b ≡ false → y + a ≡ x + cond b a 0 → 10 ^ 18 * x ≡ o → t + 10 ^ 18 * a ≡ o → 10 ^ 18 * y ≡ t
      holds x y a o t true f p q r = absurd cc
      holds x y a o t false f p q r = omega (arith, p, q, r)
