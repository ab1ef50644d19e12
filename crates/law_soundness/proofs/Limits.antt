-- A hook before a delegation changes is over where what it reads says so: the purse and the periods of its validator, and the
-- start of the delegation; in a sound state coins that join the pool never are.
use Rattle.std.proofs.Common.{◌≡◌, ◌∙◌, ℕ, ◌+◌, ◌*◌, ◌^◌, ◌<◌, ◌≤◌, ◌==◌, Bool, true, false, List, [], ◌∷◌, ◌++◌, Option, Some, None, Result, Ok, Err, refl, sym, ap, subst, arith, ◌%◌, if◌then◌else◌, is_some, min, unwrap_or}
use Rattle.base_types.specs.declared.account.Account.TheVariants as account
use Rattle.base_types.specs.declared.account.Module.TheVariants as holder
use Rattle.base_types.specs.Orders.{addr_cmp}
use Rattle.base_decimals.specs.declared.over.Over.{Over}
use Rattle.base_coins.proofs.{Amounts.{added_fits, amount-all}, Order.rises_from_money}
use Rattle.base_coins.specs.Coins.{Money, amount_of, coins_quo_cut, coins_taken, fractions, smaller_of, whole_coins}
use Rattle.base_shares.specs.Shares.{value_even_of}
use Rattle.base_roles.specs.declared.entities.{Purse.Purse, StartingInfo.StartingInfo, Validator.Validator}
use Rattle.base_roles.specs.{declared.refusal.Refusal.{Refusal, TheVariants.Overflow}, Entries.at, Owing.Lists}
use Rattle.base_roles.specs.{Items.no_purse, Log.Log, Pair.{and_then, given_with}, Staked.Staked, Flow.{◌>>=◌}}
use Rattle.base_roles.specs.World.{View, World, call, hooked, noted}
use Rattle.base_roles.specs.declared.calls.Hook.TheVariants.{Modifying as modifying, Starting as starting}
use Rattle.base_roles.proofs.HoldingLemmas.{balance-most}
use Rattle.base_roles.specs.declared.facts.Fact.TheVariants as fact
use Rattle.base_roles.specs.Log as log
use Rattle.law_soundness.proofs.{Apart.ReadsSame, Giving.{Gives, gives_on, joins}, Moves.{HooksFit, Leaves, fit_after}}
use Rattle.law_soundness.proofs.{Names.{IsKnown, known_fractions, known_smaller}, Periods.{Ordered, some_unwrap}}
use Rattle.law_soundness.proofs.{Points.PurseFits, Purses.{owed_of, own_purse}, Rewards.{due_leaves, put_found}}
use Rattle.law_soundness.proofs.Steps.{from_if}
use Rattle.rule_modules.{proofs.{TotalLemmas.total_left, OrderLemmas.addr_total}, specs.Amounts.over_facts}
use Rattle.rule_modules.specs.{Chain.{Hooks, chain_told}, Conditions.over_in, Delegating.hook_before}
use Rattle.rule_modules.specs.Distribution.{Shared, ended, current_taken, left_by, paid_to, payee_of, reward_due, reward_withdrawn, told_of}
use Rattle.rule_modules.specs.Periods.{Periods, initial_records, last_ended, period_ended, periods_of, reward_at, start_of, with_periods, without_start}
use Rattle.rule_modules.specs.Window.{window_told}
use Rattle.rule_modules.specs.Purses.{Purses, current_emptied, current_lost, current_pooled, paid_out, pool_joined, pooled_told, purse_of, with_purse}

-- ---- what is read

-- what the current rewards come to for each token, and nothing where there are none
abbrev pub increment_of : ℕ → Purse → Result Money Over
increment_of tokens purse = if tokens == 0 then Ok [] else coins_quo_cut purse.current (tokens * 10 ^ 18)

-- the end of a period, and a reward after it
abbrev pub end_of : ℕ → Purse → Periods → Result (Money × Periods) Over
end_of tokens purse ps = increment_of tokens purse >>= λ i. period_ended i ps

abbrev pub reward_of_reads : ℕ → Purse → Periods → Option StartingInfo → ℕ → ℕ → Result Money Over
reward_of_reads tokens purse ps start height value = end_of tokens purse ps >>= λ y. reward_at start y.1 (last_ended y.1) height value

-- the limit of the hook before a delegation changes
abbrev pub limit_before : Validator → List ℕ → Option ℕ → Shared → ℕ → Option Refusal
limit_before val who None d height = over_in (end_of val.tokens (purse_of d.purses val.operator) (periods_of d.rewards val.operator))
limit_before val who (Some shares) d height =
    over_in (reward_of_reads val.tokens (purse_of d.purses val.operator) (periods_of d.rewards val.operator) (start_of d.rewards who val.operator) height (value_even_of val.tokens val.shares shares))

-- two answers begin alike
abbrev SameFirst : Result (Money × Money × Purses) Over → Result Money Over → Type 0
SameFirst (Ok x) (Ok i) = x.0 ≡ i
SameFirst (Err e) (Err f) = e ≡ f
SameFirst (Ok x) (Err f) = ⊥
SameFirst (Err e) (Ok i) = ⊥

-- the ended period and the state then are those of what was read
record EndsAlike (who op : List ℕ) (d : Shared) (v : View) (x : ℕ × Shared × View × Log) (y : Money × Periods) : Type 0 where
  period : x.0 ≡ last_ended y.1
  periods : periods_of x.1.rewards op ≡ y.1
  start : start_of x.1.rewards who op ≡ start_of d.rewards who op
  ctx : x.2.ctx ≡ v.ctx

abbrev SameEnd : (who op : List ℕ) (d : Shared) (v : View) → Result (ℕ × Shared × View × Log) Over → Result (Money × Periods) Over → Type 0
SameEnd who op d v (Ok x) (Ok y) = EndsAlike who op d v x y
SameEnd who op d v (Err e) (Err f) = e ≡ f
SameEnd who op d v (Ok x) (Err f) = ⊥
SameEnd who op d v (Err e) (Ok y) = ⊥

-- ---- what goes on gives

-- what is done with an answer is over where the answer is
over_mapped : {A B : Type 0} (r : Result A Over) (f : A → B) → over_in (r >>= λ a. Ok (f a)) ≡ over_in r
over_mapped (Ok a) f = refl
over_mapped (Err e) f = refl

over_then : {A B : Type 0} (r : Result A Over) (f : A → Result B Over) → ((a : A) → r ≡ Ok a → over_in (f a) ≡ None) → over_in (r >>= f) ≡ over_in r
over_then (Ok a) f h = h a refl
over_then (Err e) f h = refl

gives_none : {A : Type 0} (r : Result A Over) → Gives r → over_in r ≡ None
gives_none r g = ap over_in g.1

module _ (P : List ℕ → Type 0) (T : List ℕ → ℕ) where
  -- a part of what is outstanding joins the pool, which has room for it
  part_joins : (op : List ℕ) (p : Purses) (less : Purse) (c : Money) → Ordered P p → is_some (at addr_cmp p.purses op) ≡ true → ((d : List ℕ) → owed_of p d ≤ 10 ^ 36) → IsKnown P c
      → ((d : List ℕ) → amount_of c d ≤ amount_of (purse_of p op).outstanding d) → Gives (pool_joined c (with_purse op less p))
  part_joins op p less c o there most known part =
      let (pool, f) = added_fits p.pool c (rises_from_money p.pool o.2.money) (rises_from_money c known.money) within in
      (record (with_purse op less p) { pool = pool }, joins c (with_purse op less p) pool f)
    where
      purse : Purse
      purse = purse_of p op

      found : at addr_cmp p.purses op ≡ Some purse
      found = some_unwrap (at addr_cmp p.purses op) no_purse there

      bound : (t x all out c pool : ℕ) → t + x ≡ all → x ≡ out → c ≤ out → all + pool ≤ 10 ^ 36 → pool + c < 10 ^ 38
      bound t x all out c pool e f l m = omega (arith, e, f, l, m)

      within : (d : List ℕ) → amount_of p.pool d + amount_of c d < 10 ^ 38
      within d = bound _ (amount_of purse.outstanding d) _ (amount_of purse.outstanding d) (amount_of c d) (amount_of p.pool d) (total_left addr_cmp addr_total (λ x. amount_of x.outstanding d) op purse p.purses found) refl (part d) (most d)

  own_fits : (op : List ℕ) (p : Purses) → Ordered P p → is_some (at addr_cmp p.purses op) ≡ true → PurseFits P (purse_of p op)
  own_fits op p o there = own_purse P p.purses op (purse_of p op) (some_unwrap (at addr_cmp p.purses op) no_purse there) o.1

  pooled_gives : (op : List ℕ) (p : Purses) → Ordered P p → is_some (at addr_cmp p.purses op) ≡ true → ((d : List ℕ) → owed_of p d ≤ 10 ^ 36) → Gives (current_pooled op p)
  pooled_gives op p o there most =
      let purse = purse_of p op in
      let f = own_fits op p o there in
      let lost = current_lost purse in
      let less : Purse = record purse { outstanding = coins_taken purse.outstanding lost; current = [] } in
      let (q, e) = part_joins op p less lost o there most (known_smaller P purse.current purse.outstanding f.current)
      (λ d. smaller (amount_of purse.current d) (amount_of purse.outstanding d) _ (amount-all (λ y n. min n (amount_of purse.outstanding y)) (λ y. omega arith) purse.current d (rises_from_money purse.current f.current.money))) in
      gives_on (pool_joined lost (with_purse op less p)) (λ z. Ok (lost, z)) q e ((lost, q), refl)
    where
      smaller : (a b m : ℕ) → m ≡ min a b → m ≤ b
      smaller a b m e = omega (arith, e)

  paid_gives : (op : List ℕ) (full : Money) (p : Purses) → Ordered P p → is_some (at addr_cmp p.purses op) ≡ true → ((d : List ℕ) → owed_of p d ≤ 10 ^ 36) → IsKnown P full → Gives (paid_out op full p)
  paid_gives op full p o there most known =
      let purse = purse_of p op in
      let reward = smaller_of full purse.outstanding in
      let own : IsKnown P reward = known_smaller P full purse.outstanding known in
      let less : Purse = record purse { outstanding = coins_taken purse.outstanding reward } in
      let (q, e) = part_joins op p less (fractions reward) o there most (known_fractions P reward own)
      (λ d. part (amount_of full d) (amount_of purse.outstanding d) (amount_of reward d) _ (amount-all (λ y n. min n (amount_of purse.outstanding y)) (λ y. omega arith) full d (rises_from_money full known.money))
      (amount-all (λ y n. n % 10 ^ 18) (λ y. refl) reward d (rises_from_money reward own.money))) in
      gives_on (pool_joined (fractions reward) (with_purse op less p)) (λ z. Ok (reward, z)) q e ((reward, q), refl)
    where
      part : (a b m f : ℕ) → m ≡ min a b → f ≡ m % 10 ^ 18 → f ≤ b
      part a b m f e g = omega (arith, e, g)

  -- what is owed is within what the account can have
  owed_few : (v : View) (l : Lists) (d : Shared) → HooksFit P T v l d → (q : List ℕ) → owed_of d.purses q ≤ 10 ^ 36
  owed_few v l d h q = few _ _ (balance-most v.bank (account.Module holder.Distribution) q h.ground.order.bank) (h.owed q)
    where
      few : (b o : ℕ) → b ≤ 10 ^ 18 → 10 ^ 18 * b ≡ o → o ≤ 10 ^ 36
      few b o l e = omega (arith, l, e)

  -- ---- the end of a period

  taken_alike : (val : Validator) (v : View) (l : Lists) (d : Shared) → HooksFit P T v l d → l.operators val.operator ≡ true → SameFirst (current_taken val d.purses) (increment_of val.tokens (purse_of d.purses val.operator))
  taken_alike val v l d h there = by (val.tokens == 0)
    where
      op : List ℕ
      op = val.operator

      pooled : Gives (current_pooled op d.purses)
      pooled = pooled_gives op d.purses (h.shared.purses_ascend, h.shared.purses, h.shared.pool) (h.shared.stands.purses op ∙ there) (owed_few v l d h)

      quotient : (r : Result Money Over) → SameFirst (r >>= λ i. Ok (i, [], current_emptied op d.purses)) r
      quotient (Ok i) = refl
      quotient (Err e) = refl

      by : (b : Bool) → SameFirst (if b then (current_pooled op d.purses >>= λ z. Ok ([], z.0, z.1)) else (coins_quo_cut (purse_of d.purses op).current (val.tokens * 10 ^ 18) >>= λ i. Ok (i, [], current_emptied op d.purses)))
          (if b then Ok [] else coins_quo_cut (purse_of d.purses op).current (val.tokens * 10 ^ 18))
      by true = subst (λ (r : Result (Money × Purses) Over). SameFirst (r >>= λ z. Ok ([], z.0, z.1)) (Ok [])) (sym pooled.1) refl
      by false = quotient (coins_quo_cut (purse_of d.purses op).current (val.tokens * 10 ^ 18))

  ended_alike : (who : List ℕ) (val : Validator) (v : View) (l : Lists) (d : Shared) → HooksFit P T v l d → l.operators val.operator ≡ true
      → SameEnd who val.operator d v (ended val d v) (end_of val.tokens (purse_of d.purses val.operator) (periods_of d.rewards val.operator))
  ended_alike who val v l d h there = by (current_taken val d.purses) (increment_of val.tokens (purse_of d.purses val.operator)) (taken_alike val v l d h there)
    where
      op : List ℕ
      op = val.operator

      ps : Periods
      ps = periods_of d.rewards op

      ends : Money × Money × Purses → Money × Periods → ℕ × Shared × View × Log
      ends x y = (
        last_ended y.1,
        record d { rewards = with_periods op y.1 d.rewards; purses = x.2 },
        noted (fact.Period op (last_ended y.1) y.0) (over_facts (pooled_told x.1) v),
        (op, log.ended (last_ended y.1) x.0 val.tokens) ∷ [],
      )

      inner : (x : Money × Money × Purses) (r : Result (Money × Periods) Over) → SameEnd who op d v (r >>= λ y. Ok (ends x y)) r
      inner x (Ok y) = record { period = refl; periods = ap (λ (r : Option Periods). unwrap_or r initial_records) (put_found d.rewards.periods op y.1); start = refl; ctx = refl }
      inner x (Err e) = refl

      by : (r : Result (Money × Money × Purses) Over) (q : Result Money Over) → SameFirst r q → SameEnd who op d v (r >>= λ x. period_ended x.0 ps >>= λ y. Ok (ends x y)) (q >>= λ i. period_ended i ps)
      by (Ok x) (Ok i) s = subst (λ j. SameEnd who op d v (period_ended x.0 ps >>= λ y. Ok (ends x y)) (period_ended j ps)) s (inner x (period_ended x.0 ps))
      by (Err e) (Err f) s = s
      by (Ok x) (Err f) s = absurd s
      by (Err e) (Ok i) s = absurd s

  ended_over : (who : List ℕ) (val : Validator) (v : View) (l : Lists) (d : Shared) → HooksFit P T v l d → l.operators val.operator ≡ true
      → over_in (ended val d v) ≡ over_in (end_of val.tokens (purse_of d.purses val.operator) (periods_of d.rewards val.operator))
  ended_over who val v l d h there = by (ended val d v) (end_of val.tokens (purse_of d.purses val.operator) (periods_of d.rewards val.operator)) (ended_alike who val v l d h there)
    where
      by : (r : Result (ℕ × Shared × View × Log) Over) (q : Result (Money × Periods) Over) → SameEnd who val.operator d v r q → over_in r ≡ over_in q
      by (Ok x) (Ok y) s = refl
      by (Err e) (Err f) s = ap (λ o. Some (Overflow o)) s
      by (Ok x) (Err f) s = absurd s
      by (Err e) (Ok y) s = absurd s

  -- ---- a withdrawal

  due_over : (val : Validator) (who : List ℕ) (shares : ℕ) (v : View) (l : Lists) (d : Shared) → HooksFit P T v l d → l.operators val.operator ≡ true
      → over_in (reward_due val who shares d v)
      ≡ over_in (reward_of_reads val.tokens (purse_of d.purses val.operator) (periods_of d.rewards val.operator) (start_of d.rewards who val.operator) v.ctx.height (value_even_of val.tokens val.shares shares))
  due_over val who shares v l d h there = by (ended val d v) (end_of val.tokens (purse_of d.purses val.operator) (periods_of d.rewards val.operator)) (ended_alike who val v l d h there)
    where
      op : List ℕ
      op = val.operator

      value : ℕ
      value = value_even_of val.tokens val.shares shares

      with_due : ℕ × Shared × View × Log → Money → Money × Shared × View × Log
      with_due x full = (full, x.1, x.2, x.3)

      by : (r : Result (ℕ × Shared × View × Log) Over) (q : Result (Money × Periods) Over) → SameEnd who op d v r q
          → over_in (r >>= λ x. reward_at (start_of x.1.rewards who op) (periods_of x.1.rewards op) x.0 x.2.ctx.height value >>= λ full. Ok (with_due x full))
          ≡ over_in (q >>= λ y. reward_at (start_of d.rewards who op) y.1 (last_ended y.1) v.ctx.height value)
      by (Ok x) (Ok y) s =
          over_mapped (reward_at (start_of x.1.rewards who op) (periods_of x.1.rewards op) x.0 x.2.ctx.height value) (with_due x)
          ∙ (λ i. over_in (reward_at (s.start i) (s.periods i) (s.period i) (s.ctx i).height value))
      by (Err e) (Err f) s = ap (λ o. Some (Overflow o)) s
      by (Ok x) (Err f) s = absurd s
      by (Err e) (Ok y) s = absurd s

  -- what is paid is never over
  withdrawn_due : (val : Validator) (who : List ℕ) (shares : ℕ) (v : View) (l : Lists) (d : Shared) → HooksFit P T v l d → l.operators val.operator ≡ true
      → over_in (reward_withdrawn val who shares d v) ≡ over_in (reward_due val who shares d v)
  withdrawn_due val who shares v l d h there = over_then (reward_due val who shares d v) paying never
    where
      op : List ℕ
      op = val.operator

      paid : Money × Shared × View × Log → Money × Purses → Money × Shared × View × Log
      paid x y = (
        whole_coins y.0,
        record x.1 { rewards = without_start who op x.1.rewards; purses = y.1 },
        noted (fact.Paid who op (payee_of x.1 who) y.0 (whole_coins y.0)) (over_facts (pooled_told (fractions y.0)) (paid_to (payee_of x.1 who) (whole_coins y.0) x.2)),
        x.3 ++ (op, log.withdrawn who (payee_of x.1 who) x.0 (purse_of x.1.purses op).outstanding) ∷ [],
      )

      paying : Money × Shared × View × Log → Result (Money × Shared × View × Log) Over
      paying x = paid_out op x.0 x.1.purses >>= λ y. Ok (paid x y)

      never : (x : Money × Shared × View × Log) → reward_due val who shares d v ≡ Ok x → over_in (paying x) ≡ None
      never x e =
          let k = from_if (λ z. IsKnown P z.0 × Leaves P T v l z.1 z.2) (reward_due val who shares d v) x e (due_leaves P T val who shares v l d h there) in
          let fits = fit_after P T v x.2 l x.1 k.1 in
          let s = fits.shared in
          over_mapped (paid_out op x.0 x.1.purses) (paid x)
          ∙ gives_none (paid_out op x.0 x.1.purses) (paid_gives op x.0 x.1.purses (s.purses_ascend, s.purses, s.pool) (s.stands.purses op ∙ there) (owed_few x.2 l x.1 fits) k.0)

  -- ---- the hook

  pub hook_reads : (val : Validator) (who : List ℕ) (held : Option ℕ) (l : Lists) (w : World Staked Hooks) → HooksFit P T w.view l w.hooks.0 → l.operators val.operator ≡ true
      → over_in (call chain_told (hook_before val who held) w) ≡ limit_before val who held w.hooks.0 w.view.ctx.height
  hook_reads val who None l w h there = by (ended val w.hooks.0 w.view) ∙ ended_over who val w.view l w.hooks.0 h there
    where
      by : (r : Result (ℕ × Shared × View × Log) Over) → over_in (hooked (and_then (told_of (left_by r)) (λ d u k. given_with d k (window_told w.hooks.1 (starting val who) u))) w) ≡ over_in r
      by (Ok x) = refl
      by (Err e) = refl
  hook_reads val who (Some shares) l w h there = by (reward_withdrawn val who shares w.hooks.0 w.view) ∙ withdrawn_due val who shares w.view l w.hooks.0 h there ∙ due_over val who shares w.view l w.hooks.0 h there
    where
      by : (r : Result (Money × Shared × View × Log) Over) → over_in (hooked (and_then (told_of (left_by r)) (λ d u k. given_with d k (window_told w.hooks.1 (modifying val who shares) u))) w) ≡ over_in r
      by (Ok x) = refl
      by (Err e) = refl

-- where the same is read, it is over alike
pub limit_alike : (val : Validator) (who : List ℕ) (held : Option ℕ) (d e : Shared) (height : ℕ) → ReadsSame who val.operator d e → limit_before val who held e height ≡ limit_before val who held d height
limit_alike val who None d e height s = (λ i. over_in (end_of val.tokens (s.purse i) (s.periods i)))
limit_alike val who (Some shares) d e height s = (λ i. over_in (reward_of_reads val.tokens (s.purse i) (s.periods i) (s.start i) height (value_even_of val.tokens val.shares shares)))
