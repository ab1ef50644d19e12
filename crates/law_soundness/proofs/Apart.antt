-- What is unbonded at one validator leaves all that a hook before a delegation to another reads.
use Rattle.std.proofs.Common.{◌≡◌, ◌∙◌, ℕ, ◌*◌, ◌^◌, ◌==◌, Bool, true, false, cond, List, [], ◌∷◌, Option, Some, Ok, refl, sym, ap, ◌-◌, ◌&&◌, if◌then◌else◌, IfOk, unwrap_or}
use Rattle.std.specs.{BTreeMap.is_at, Map.{lookup, remove_entry}}
use Rattle.base_types.specs.Orders.{addr_cmp}
use Rattle.base_decimals.specs.declared.over.Over.{Over}
use Rattle.base_coins.specs.Coins.{Money, coins_added, coins_quo_cut, coins_taken, fractions, smaller_of}
use Rattle.base_shares.specs.Shares.{value_cut_of, value_even_of}
use Rattle.base_roles.specs.declared.entities.{Purse.Purse, StartingInfo.StartingInfo, Validator.Validator}
use Rattle.base_roles.specs.{Entries.{at, with, without}, Items.no_purse, Orders.{pair_cmp, same_addr}}
use Rattle.base_roles.specs.{Staked.{Staked, delegation, is_unbonded}, Flow.{◌>>=◌}}
use Rattle.base_roles.specs.World.{View, World, call, noted, over_mine, over_view}
use Rattle.base_roles.specs.declared.calls.Hook.TheVariants.{Modified as modified, Modifying as modifying}
use Rattle.base_roles.specs.declared.facts.Fact.TheVariants as fact
use Rattle.base_roles.specs.declared.calls.Hook.TheVariants as hook
use Rattle.law_soundness.proofs.{Hooking.{called_if, hook_gave, left_if, on_call, unlogged_if}, Steps.on_then}
use Rattle.law_soundness.proofs.Unbonding.{less_of, lessened, may_jail, now_of}
use Rattle.rule_modules.proofs.{GoingLemmas.on_bind, EntryLemmas.at-put}
use Rattle.rule_modules.proofs.OrderLemmas.{addr_total, pair_found, pair_total, same_back, same_is}
use Rattle.rule_modules.specs.Chain.{Hooks, chain_told}
use Rattle.rule_modules.specs.Distribution.{Shared, current_taken, ended, records_removed, reward_due, reward_withdrawn, started}
use Rattle.rule_modules.specs.Periods.{initial_records, last_ended, period_ended, periods_of, reward_at, start_of}
use Rattle.rule_modules.specs.Purses.{Purses, closed, current_emptied, current_lost, current_pooled, due_at_last, paid_out, pool_joined, purse_of, with_purse}
use Rattle.rule_modules.specs.Stakes.{put_delegation, without_shares, without_validator}
use Rattle.rule_modules.specs.Unbonding.{falls_below_minimum, left_standing, put_in_jail, removed_if_empty, unbonded_shares, validator_removed}

-- ---- entries under other keys

-- what stands under another key stays where an entry is taken
lookup_apart : {K X : Type 0} (p q : K → Bool) → ((k : K) → p k ≡ true → q k ≡ false) → (es : List (K × X)) → lookup q (remove_entry p es) ≡ lookup q es
lookup_apart p q h [] = refl
lookup_apart {K} {X} p q h (e ∷ es) = by (p e.0) refl (lookup_apart p q h es)
  where
    by : (b : Bool) → p e.0 ≡ b → lookup q (remove_entry p es) ≡ lookup q es → lookup q (cond b es (e ∷ remove_entry p es)) ≡ cond (q e.0) (Some e.1) (lookup q es)
    by true t rest = ap (λ c. cond c (Some e.1) (lookup q es)) (sym (h e.0 t))
    by false t rest = ap (λ r. cond (q e.0) (Some e.1) r) rest

key_put : {X : Type 0} (es : List (List ℕ × X)) (s t : List ℕ) (x : X) → same_addr s t ≡ false → at addr_cmp (with addr_cmp es s x) t ≡ at addr_cmp es t
key_put es s t x e = at-put addr_cmp addr_total es s t x ∙ ap (λ b. cond b (Some x) (at addr_cmp es t)) (same_back t s ∙ e)

key_gone : {X : Type 0} (es : List (List ℕ × X)) (s t : List ℕ) → same_addr s t ≡ false → at addr_cmp (without addr_cmp es s) t ≡ at addr_cmp es t
key_gone es s t e = lookup_apart (is_at (addr_cmp s)) (is_at (addr_cmp t)) (λ x h. ap (λ o. same_addr t o) (sym (same_is s x h)) ∙ same_back t s ∙ e) es

pair_put : {X : Type 0} (es : List ((List ℕ × List ℕ) × X)) (s y t who : List ℕ) (x : X) → same_addr s t ≡ false → at pair_cmp (with pair_cmp es (s, y) x) (t, who) ≡ at pair_cmp es (t, who)
pair_put es s y t who x e =
    at-put pair_cmp pair_total es (s, y) (t, who) x
    ∙ ap (λ b. cond b (Some x) (at pair_cmp es (t, who))) (pair_found t s who y ∙ ap (λ b. b && same_addr who y) (same_back t s ∙ e))

pair_gone : {X : Type 0} (es : List ((List ℕ × List ℕ) × X)) (s y t who : List ℕ) → same_addr s t ≡ false → at pair_cmp (without pair_cmp es (s, y)) (t, who) ≡ at pair_cmp es (t, who)
pair_gone es s y t who e = lookup_apart (is_at (pair_cmp (s, y))) (is_at (pair_cmp (t, who))) other es
  where
    first : (a b : Bool) → (a && b) ≡ true → a ≡ true
    first true b h = refl
    first false b h = absurd cc

    other : (k : List ℕ × List ℕ) → is_at (pair_cmp (s, y)) k ≡ true → is_at (pair_cmp (t, who)) k ≡ false
    other k h =
        let same : same_addr s k.0 ≡ true = first (same_addr s k.0) (same_addr y k.1) (sym (pair_found s k.0 y k.1) ∙ h) in
        pair_found t k.0 who k.1 ∙ ap (λ b. b && same_addr who k.1) (ap (λ o. same_addr t o) (sym (same_is s k.0 same)) ∙ same_back t s ∙ e)

-- ---- what a hook reads

-- the purse and the periods of a validator, and the start of a delegation to it, are the same
pub record ReadsSame (who t : List ℕ) (d e : Shared) : Type 0 where
  pub purse : purse_of e.purses t ≡ purse_of d.purses t
  pub periods : periods_of e.rewards t ≡ periods_of d.rewards t
  pub start : start_of e.rewards who t ≡ start_of d.rewards who t

pool_kept : (coins : Money) (p : Purses) → IfOk (pool_joined coins p) (λ q. q.purses ≡ p.purses)
pool_kept coins p = on_bind (coins_added p.pool coins) _ _ (λ pool e. refl)

module _ (who t : List ℕ) where
  reads_then : (d e f : Shared) → ReadsSame who t d e → ReadsSame who t e f → ReadsSame who t d f
  reads_then d e f g k = record { purse = k.purse ∙ g.purse; periods = k.periods ∙ g.periods; start = k.start ∙ g.start }

  purse_put : (s : List ℕ) (x : Purse) (p : Purses) → same_addr s t ≡ false → purse_of (with_purse s x p) t ≡ purse_of p t
  purse_put s x p e = ap (λ (r : Option Purse). unwrap_or r no_purse) (key_put p.purses s t x e)

  -- a purse is put, and coins join the pool
  joined_apart : (s : List ℕ) (x : Purse) (p : Purses) (coins : Money) → same_addr s t ≡ false → IfOk (pool_joined coins (with_purse s x p)) (λ q. purse_of q t ≡ purse_of p t)
  joined_apart s x p coins e =
      on_bind (coins_added p.pool coins) _ _ (λ pool f. purse_put s x p e)

  taken_apart : (val : Validator) (p : Purses) → same_addr val.operator t ≡ false → IfOk (current_taken val p) (λ z. purse_of z.2 t ≡ purse_of p t)
  taken_apart val p e = by (val.tokens == 0)
    where
      s : List ℕ
      s = val.operator

      purse : Purse
      purse = purse_of p s

      lost : Money
      lost = current_lost purse

      less : Purse
      less = record purse { outstanding = coins_taken purse.outstanding lost; current = [] }

      pooled : IfOk (current_pooled s p) (λ z. purse_of z.1 t ≡ purse_of p t)
      pooled = on_then (pool_joined lost (with_purse s less p)) _ (λ q. purse_of q t ≡ purse_of p t) _ (joined_apart s less p lost e) (λ q k. k)

      by : (b : Bool) → IfOk {T = Money × Money × Purses} {E = Over} (if b then (current_pooled s p >>= λ z. Ok ([], z.0, z.1)) else (coins_quo_cut purse.current (val.tokens * 10 ^ 18) >>= λ i. Ok (i, [], current_emptied s p))) (λ z. purse_of z.2 t ≡ purse_of p t)
      by true = on_then (current_pooled s p) _ (λ z. purse_of z.1 t ≡ purse_of p t) _ pooled (λ z k. k)
      by false = on_bind (coins_quo_cut purse.current (val.tokens * 10 ^ 18)) _ _ (λ i f. purse_put s (record purse { current = [] }) p e)

  ended_apart : (val : Validator) (d : Shared) (v : View) → same_addr val.operator t ≡ false → IfOk (ended val d v) (λ z. ReadsSame who t d z.1)
  ended_apart val d v e =
      on_then (current_taken val d.purses) _ (λ x. purse_of x.2 t ≡ purse_of d.purses t) _ (taken_apart val d.purses e) (λ x k.
      on_bind (period_ended x.0 (periods_of d.rewards val.operator)) _ _ (λ y f. record {
        purse = k;
        periods = ap (λ r. unwrap_or r initial_records) (key_put d.rewards.periods val.operator t y.1 e);
        start = refl;
      }))

  due_apart : (val : Validator) (y : List ℕ) (shares : ℕ) (d : Shared) (v : View) → same_addr val.operator t ≡ false → IfOk (reward_due val y shares d v) (λ z. ReadsSame who t d z.1)
  due_apart val y shares d v e =
      on_then (ended val d v) _ (λ z. ReadsSame who t d z.1) _ (ended_apart val d v e) (λ x k.
      on_bind (reward_at (start_of x.1.rewards y val.operator) (periods_of x.1.rewards val.operator) x.0 x.2.ctx.height (value_even_of val.tokens val.shares shares)) _ _ (λ full f. k))

  paid_apart : (s : List ℕ) (full : Money) (p : Purses) → same_addr s t ≡ false → IfOk (paid_out s full p) (λ z. purse_of z.1 t ≡ purse_of p t)
  paid_apart s full p e =
      let purse = purse_of p s in
      let reward = smaller_of full purse.outstanding in
      let less : Purse = record purse { outstanding = coins_taken purse.outstanding reward } in
      on_then (pool_joined (fractions reward) (with_purse s less p)) _ (λ q. purse_of q t ≡ purse_of p t) _ (joined_apart s less p (fractions reward) e) (λ q k. k)

  withdrawn_apart : (val : Validator) (y : List ℕ) (shares : ℕ) (d : Shared) (v : View) → same_addr val.operator t ≡ false → IfOk (reward_withdrawn val y shares d v) (λ z. ReadsSame who t d z.1)
  withdrawn_apart val y shares d v e =
      on_then (reward_due val y shares d v) _ (λ z. ReadsSame who t d z.1) _ (due_apart val y shares d v e) (λ x k.
      on_then (paid_out val.operator x.0 x.1.purses) _ (λ z. purse_of z.1 t ≡ purse_of x.1.purses t) _ (paid_apart val.operator x.0 x.1.purses e) (λ z p. record {
        purse = p ∙ k.purse;
        periods = k.periods;
        start = pair_gone x.1.rewards.starts val.operator y t who e ∙ k.start;
      }))

  started_apart : (val : Validator) (y : List ℕ) (shares : ℕ) (d : Shared) (v : View) → same_addr val.operator t ≡ false → ReadsSame who t d (started val y shares d v).0
  started_apart val y shares d v e =
      let info : StartingInfo = record { period = last_ended (periods_of d.rewards val.operator); stake = value_cut_of val.tokens val.shares shares; height = v.ctx.height } in
      record { purse = refl; periods = refl; start = pair_put d.rewards.starts val.operator y t who info e }

  removed_apart : (val : Validator) (d : Shared) (v : View) → same_addr val.operator t ≡ false → IfOk (records_removed val d v) (λ z. ReadsSame who t d z.0)
  removed_apart val d v e =
      let s = val.operator in
      let purse = purse_of d.purses s in
      let due = due_at_last purse in
      let rest_of : Purses = record d.purses { purses = without addr_cmp d.purses.purses s } in
      on_then (closed s d.purses) _ (λ z. purse_of z.2 t ≡ purse_of d.purses t) _
      (on_bind (coins_added (fractions due) (coins_taken purse.outstanding due)) _ _ (λ rest f.
      on_then (pool_joined rest rest_of) _ (λ q. q.purses ≡ rest_of.purses) _ (pool_kept rest rest_of)
      (λ q k. ap (λ es. unwrap_or (at addr_cmp es t) no_purse) k ∙ ap (λ (r : Option Purse). unwrap_or r no_purse) (key_gone d.purses.purses s t e))))
      (λ z k. record {
        purse = k;
        periods = ap (λ r. unwrap_or r initial_records) (key_gone d.rewards.periods s t e);
        start = refl;
      })

  -- ---- worlds

  -- the same is read, of the same delegation
  pub record IsApart (w x : World Staked Hooks) : Type 0 where
    pub reads : ReadsSame who t w.hooks.0 x.hooks.0
    pub held : delegation x.mine who t ≡ delegation w.mine who t

  jailed_apart : (v : Validator) (b : Bool) (w x : World Staked Hooks) → IsApart w x → IsApart w (if b then put_in_jail v x else x)
  jailed_apart v true w x k = record { reads = k.reads; held = k.held }
  jailed_apart v false w x k = k

  left_apart : (val : Validator) (y : List ℕ) (left : ℕ) (w x : World Staked Hooks) → same_addr val.operator t ≡ false → IsApart w x → IfOk (left_standing chain_told val y left x) (IsApart w)
  left_apart val y left w x e k = by (left == 0)
    where
      by : (b : Bool) → IfOk (if b then Ok (over_mine (without_shares y val.operator) x) else call chain_told (modified val y left) (over_mine (put_delegation y val.operator left) x)) (IsApart w)
      by true = record { reads = k.reads; held = pair_gone x.mine.delegations val.operator y t who e ∙ k.held }
      by false =
          called_if (modified val y left) (over_mine (put_delegation y val.operator left) x) (λ d u. ReadsSame who t x.hooks.0 d) (IsApart w) (λ u. refl) (started_apart val y left x.hooks.0 x.view e)
          (λ d u l r. record { reads = reads_then w.hooks.0 x.hooks.0 d k.reads r; held = pair_put x.mine.delegations val.operator y t who left e ∙ k.held })

  goes_apart : (v : Validator) (w x : World Staked Hooks) → same_addr v.operator t ≡ false → IsApart w x → IfOk (removed_if_empty chain_told v x) (IsApart w)
  goes_apart v w x e k = by (is_unbonded v.status && (v.shares == 0))
    where
      by : (b : Bool) → IfOk (if b then validator_removed chain_told v x else Ok x) (IsApart w)
      by true =
          on_call (hook.Removed v) (over_mine (without_validator v.operator) x) (λ z. Ok (over_view (noted (fact.Removed v.operator)) z)) (λ d u. ReadsSame who t x.hooks.0 d) (IsApart w) (λ u. refl)
          (unlogged_if (records_removed v x.hooks.0 x.view) (λ d u. ReadsSame who t x.hooks.0 d) (removed_apart v x.hooks.0 x.view e))
          (λ d u l r. record { reads = reads_then w.hooks.0 x.hooks.0 d k.reads r; held = k.held })
      by false = k

  pub unbonded_apart : (v : Validator) (y : List ℕ) (held part : ℕ) (w : World Staked Hooks) → same_addr v.operator t ≡ false → IfOk (unbonded_shares chain_told v y held part w) (λ x. IsApart w x.1)
  unbonded_apart v y held part w e =
      on_call (modifying v y held) w _ (λ d u. ReadsSame who t w.hooks.0 d) _ (λ u. refl) (left_if (reward_withdrawn v y held w.hooks.0 w.view) (λ d u. ReadsSame who t w.hooks.0 d) (withdrawn_apart v y held w.hooks.0 w.view e)) (λ d u k r.
      let w2 : World Staked Hooks = may_jail v y (held - part) (hook_gave w d u k) in
      let stood : IsApart w w2 = jailed_apart v (falls_below_minimum v y (held - part)) w (hook_gave w d u k) (record { reads = r; held = refl }) in
      on_then (left_standing chain_told (now_of v y (held - part)) y (held - part) w2) _ (IsApart w) _ (left_apart (now_of v y (held - part)) y (held - part) w w2 e stood) (λ x after.
      on_then (removed_if_empty chain_told (less_of v y held part) (lessened v y held part x)) _ (IsApart w) _
      (goes_apart (less_of v y held part) w (lessened v y held part x) e (record { reads = after.reads; held = after.held })) (λ z gone. gone)))
