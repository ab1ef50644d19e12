-- Sharing fees among votes is an allocation for each of their validators.
use Rattle.std.proofs.Common.{◌≡◌, ℕ, zero, suc, ◌+◌, ◌-◌, ◌*◌, ◌^◌, ◌<◌, ◌≤◌, ◌≢◌, Bool, true, false, cond, List, [], ◌∷◌, ◌++◌, map, filter, refl, arith, sym, ap, subst, ◌∙◌, Option, Some, None, Result, Ok, append-nil, append_assoc, mul-le-mul_left, unwrap_or, find, slice_get, is_eq, Less}
use Rattle.std.specs.{List.{AllByRecursion, Sorted.IsStrictlySortedBy}, Map.{lookup, keys_of, values_of}}
use Rattle.std.{specs.BTreeMap.is_at, proofs.lemmas.{Grind.common_steps, List.Elements.recursion_from_All}}
use Rattle.std.proofs.lemmas.Map.{Keys.{sorted_head, sorted_tail}, Entries.All-lookup}
use Rattle.base_types.specs.Orders.{addr_cmp, cons_cmp}
use Rattle.base_decimals.specs.{declared.over.Over.Over, Rounding.even, Decimals.{mul_even_of, mul_cut_of, quo_cut_of}}
use Rattle.base_shares.proofs.Roundings.{even_most}
use Rattle.base_coins.specs.Coins.{Money, IsMoney, amount_of, coins_added, coins_taken, coins_mul_cut, coins_mul_even}
use Rattle.base_coins.proofs.{Order.{rises_from_money, money-nil}, Amounts.{amount-all, amount-by, amount-added}}
use Rattle.base_coins.proofs.{Results.{sum_is_money, taken_is_money}, Parts.{by_is_money, below_is, zero_mul_even}}
use Rattle.base_roles.specs.declared.entities.{Purse.Purse, StartingInfo.StartingInfo, Validator.Validator}
use Rattle.base_roles.specs.{declared.{facts.Fact.Fact, messages.Vote.Vote}, Entries.{at, with}, Items.no_purse}
use Rattle.base_roles.specs.{Log.{Log, LogEntry}, Orders.same_addr, Staked.{Staked, validator_at, validator_by_cons}}
use Rattle.base_roles.specs.Flow.{◌>>=◌}
use Rattle.base_roles.specs.declared.facts.Fact.TheVariants as fact
use Rattle.base_roles.specs.Log as log
use Rattle.rule_modules.specs.{Allocation.{share_given, shares_allocated}, Amounts.is_empty, Chain.{State, with_shared}}
use Rattle.rule_modules.specs.Ideal.{history_of}
use Rattle.rule_modules.specs.Purses.{Purses, purse_of, with_purse, pool_joined, pooled_told, share_joined}
use Rattle.rule_modules.specs.Sound.{IsSound, PurseIsSound}
use Rattle.law_rewards.specs.{Account.{Start, Account, IsReached, account_after}, States.{account_in, AreReached}}
use Rattle.law_rewards.{specs.StateLaws.{NoneStartedHere, SharingKeepsReached}, proofs.Lists.all_at}
use Rattle.law_rewards.proofs.{Following.{own_addr, other_addr}, Denominations.step_parts}
use Rattle.law_rewards.proofs.Entries.{addr_is, put_there, put_elsewhere, history_behind, history_elsewhere}
use Rattle.law_rewards.proofs.{Reached.deeds_lead_on, Claims.{if_some, start_with}, Endings.{same_account, same_some}}
use Rattle.law_rewards.proofs.Quiet.{same_ok, joined_purses, quiet_reached}
use Rattle.law_rewards.specs.Account as deed

-- ---- the validator of a vote

found_place : (test : Validator → Bool) (es : List (List ℕ × Validator)) (v : Validator) → find test (values_of es) ≡ Some v → (i : ℕ) × (k : List ℕ) × (slice_get es i ≡ Some (k, v))
found_place test [] v h = absurd cc
found_place test (e ∷ es) v h = by (test e.1) h (λ g. found_place test es v g)
  where
    by : (b : Bool) → cond b (Some e.1) (find test (values_of es)) ≡ Some v → (find test (values_of es) ≡ Some v → (i : ℕ) × (k : List ℕ) × (slice_get es i ≡ Some (k, v))) → (i : ℕ) × (k : List ℕ) × (slice_get (e ∷ es) i ≡ Some (k, v))
    by true g later = let same : e.1 ≡ v = cc in (0, e.0, ap (λ x. Some (e.0, x)) same)
    by false g later = let p : (i : ℕ) × (k : List ℕ) × (slice_get es i ≡ Some (k, v)) = later g in (suc p.0, p.1, p.2)

not_before_itself : (k : List ℕ) → addr_cmp k k ≡ Less → ⊥
not_before_itself k h = let e : is_eq Less ≡ true = ap is_eq (sym h) ∙ own_addr k in cc

looked_up : (es : List (List ℕ × Validator)) (i : ℕ) (k : List ℕ) (v : Validator) → IsStrictlySortedBy addr_cmp (keys_of es) → slice_get es i ≡ Some (k, v) → lookup (is_at (addr_cmp k)) es ≡ Some v
looked_up [] i k v s h = absurd cc
looked_up (e ∷ es) zero k v s h = let same : e ≡ (k, v) = cc in
    ap (λ x. cond (is_at (addr_cmp k) x.0) (Some x.1) (lookup (is_at (addr_cmp k)) es)) same ∙ ap (λ b. cond b (Some v) (lookup (is_at (addr_cmp k)) es)) (own_addr k)
looked_up (e ∷ es) (suc i) k v s h =
    let above : addr_cmp e.0 k ≡ Less = key_at (λ y. addr_cmp e.0 y ≡ Less) es i k v h (sorted_head addr_cmp e.0 (keys_of es) s) in
    let ne : k ≢ e.0 = λ q. not_before_itself e.0 (ap (λ x. addr_cmp e.0 x) (sym q) ∙ above) in
    ap (λ b. cond b (Some e.1) (lookup (is_at (addr_cmp k)) es)) (other_addr k e.0 ne) ∙ looked_up es i k v (sorted_tail addr_cmp e.0 (keys_of es) s) h
  where
    key_at : (P : List ℕ → Type 0) (es : List (List ℕ × Validator)) (i : ℕ) (k : List ℕ) (v : Validator) → slice_get es i ≡ Some (k, v) → AllByRecursion P (keys_of es) → P k
    key_at P [] i k v h a = absurd cc
    key_at P (e ∷ es) zero k v h a = let same : e ≡ (k, v) = cc in subst (λ x. P x.0) same a.0
    key_at P (e ∷ es) (suc i) k v h a = key_at P es i k v h a.1

-- what stands of it
record IsVoter (w : State) (v : Validator) : Type 0 where
  found : validator_at w.mine.staked v.operator ≡ Some v
  rate : v.commission.rate ≤ 10 ^ 18

voter_is : (w : State) (cons : List ℕ) (v : Validator) → IsSound w → validator_by_cons w.mine.staked cons ≡ Some v → IsVoter w v
voter_is w cons v sound h =
    let es : List (List ℕ × Validator) = w.mine.staked.validators in
    let p : (i : ℕ) × (k : List ℕ) × (slice_get es i ≡ Some (k, v)) = found_place (λ u. is_eq (cons_cmp u.cons cons)) es v h in
    let own : v.operator ≡ p.1 = all_at (λ e. e.1.operator ≡ e.0) p.0 (p.1, v) es p.2 (recursion_from_All (λ e. e.1.operator ≡ e.0) es sound.staked.operators) in
    let rates : v.commission.rate ≤ 10 ^ 18 =
    all_at (λ e. e.1.commission.rate ≤ 10 ^ 18) p.0 (p.1, v) es p.2
    (recursion_from_All (λ e. e.1.commission.rate ≤ 10 ^ 18) es (λ k e h. omega (arith, (sound.staked.validators k e h).rate, (sound.staked.validators k e h).max_rate))) in
    record { found = ap (λ o. validator_at w.mine.staked o) own ∙ looked_up es p.0 p.1 v sound.staked.validators_ascend p.2; rate = rates }

-- ---- a share that joins a purse

even_is : (n by m : ℕ) → mul_even_of n by ≡ Ok m → m ≡ even (n * by) (10 ^ 18)
even_is n by m e = grind (arith, common_steps)

record IsJoined (d : List ℕ) (share : Money) (old : Purse) (x : Money × Purse) : Type 0 where
  part : ℕ
  current : amount_of x.1.current d ≡ amount_of old.current d + amount_of x.0 d
  commission : amount_of x.1.commission d ≡ amount_of old.commission d + part
  outstanding : amount_of x.1.outstanding d ≡ amount_of old.outstanding d + (part + amount_of x.0 d)
  share_is : part + amount_of x.0 d ≡ amount_of share d
  sound : PurseIsSound x.1

joined_is : (d : List ℕ) (share : Money) (rate : ℕ) (old : Purse) (x : Money × Purse) → IsMoney share → rate ≤ 10 ^ 18 → PurseIsSound old → share_joined share rate old ≡ Ok x → IsJoined d share old x
joined_is d share rate old x m few sound e =
    let rest_of : Money → Money = λ part. coins_taken share part in
    let purse_with : Money → Money → Money → Purse = λ o c u. record { outstanding = o; commission = c; current = u } in
    let a : (part : Money) × (coins_mul_even share rate ≡ Ok part)
    × ((coins_added old.commission part >>= λ c. coins_added old.current (rest_of part) >>= λ u. coins_added old.outstanding share >>= λ o. Ok (rest_of part, purse_with o c u)) ≡ Ok x) =
    step_parts (coins_mul_even share rate) (λ part. coins_added old.commission part >>= λ c. coins_added old.current (rest_of part) >>= λ u. coins_added old.outstanding share >>= λ o. Ok (rest_of part, purse_with o c u)) x e in
    let part : Money = a.0 in
    let rest : Money = coins_taken share part in
    let b : (c : Money) × (coins_added old.commission part ≡ Ok c) × ((coins_added old.current rest >>= λ u. coins_added old.outstanding share >>= λ o. Ok (rest, purse_with o c u)) ≡ Ok x) =
    step_parts (coins_added old.commission part) (λ c. coins_added old.current rest >>= λ u. coins_added old.outstanding share >>= λ o. Ok (rest, purse_with o c u)) x a.2 in
    let c : (u : Money) × (coins_added old.current rest ≡ Ok u) × ((coins_added old.outstanding share >>= λ o. Ok (rest, purse_with o b.0 u)) ≡ Ok x) =
    step_parts (coins_added old.current rest) (λ u. coins_added old.outstanding share >>= λ o. Ok (rest, purse_with o b.0 u)) x b.2 in
    let o : (o : Money) × (coins_added old.outstanding share ≡ Ok o) × (Path (Result (Money × Purse) Over) (Ok (rest, purse_with o b.0 c.0)) (Ok x)) =
    step_parts (coins_added old.outstanding share) (λ o. Ok (rest, purse_with o b.0 c.0)) x c.2 in
    let pm : IsMoney part = by_is_money (λ n. mul_even_of n rate) (λ n k h. below_is _ _ k h) share part m a.1 in
    let rm : IsMoney rest = taken_is_money share part m in
    let p_is : amount_of part d ≡ even (amount_of share d * rate) (10 ^ 18) =
    even_is (amount_of share d) rate (amount_of part d) (amount-by (λ n. mul_even_of n rate) (zero_mul_even rate) share part d (rises_from_money share m) a.1) in
    let within : even (amount_of share d * rate) (10 ^ 18) ≤ amount_of share d = even_most (amount_of share d * rate) (10 ^ 18) (amount_of share d) (omega arith) (mul-le-mul_left (amount_of share d) few) in
    let r_is : amount_of rest d ≡ amount_of share d - amount_of part d = amount-all (λ k n. n - amount_of part k) (λ k. omega arith) share d (rises_from_money share m) in
    let o_is : amount_of o.0 d ≡ amount_of old.outstanding d + amount_of share d = amount-added old.outstanding share o.0 d (rises_from_money old.outstanding sound.outstanding) (rises_from_money share m) o.1 in
    subst (λ y. IsJoined d share old y) (same_ok (rest, purse_with o.0 b.0 c.0) x o.2) (record {
      part = amount_of part d;
      current = amount-added old.current rest c.0 d (rises_from_money old.current sound.current) (rises_from_money rest rm) c.1;
      commission = amount-added old.commission part b.0 d (rises_from_money old.commission sound.commission) (rises_from_money part pm) b.1;
      outstanding = omega arith;
      share_is = omega arith;
      sound = record {
        outstanding = sum_is_money old.outstanding share o.0 sound.outstanding m o.1;
        commission = sum_is_money old.commission part b.0 sound.commission pm b.1;
        current = sum_is_money old.current rest c.0 sound.current rm c.1;
      };
    })

-- ---- a state with other purses, and more of a log

abbrev pub state_shared : State → Purses → Log → State
state_shared w p l = with_shared (record w.hooks.0 { purses = p }) w.view l w

pub record Shares (w : State) (p : Purses) (l : Log) : Type 0 where
  pub reached : AreReached (state_shared w p l)
  pub sound : (operator : List ℕ) → PurseIsSound (purse_of p operator)

pool_reached : (w : State) (p q : Purses) (l : Log) → q.purses ≡ p.purses → AreReached (state_shared w p l) → AreReached (state_shared w q l)
pool_reached w p q l same reached d v there =
    let a : Account = account_in d (state_shared w q l) v in
    let b : Account = account_in d (state_shared w p l) v in
    subst (λ x. IsReached d x) (sym (same_account v.tokens v.shares a.height b.height a.current b.current a.commission b.commission a.outstanding b.outstanding a.periods b.periods a.starts b.starts a.history b.history
    refl
    (ap (λ es. amount_of (unwrap_or (at addr_cmp es v.operator) no_purse).current d) same)
    (ap (λ es. amount_of (unwrap_or (at addr_cmp es v.operator) no_purse).commission d) same)
    (ap (λ es. amount_of (unwrap_or (at addr_cmp es v.operator) no_purse).outstanding d) same)
    refl refl refl)) (reached d v there)

none_here : (w : State) (v : Validator) (h : ℕ) (es : List ((List ℕ × List ℕ) × StartingInfo)) → AllByRecursion (λ e. e.1.height < h) es
    → AllByRecursion (λ s. s.info.height < h) (map (λ e. start_with w v e.0.1 e.1) (filter (λ e. same_addr e.0.0 v.operator) es))
none_here w v h [] each = tt
none_here w v h (e ∷ es) each = by (same_addr e.0.0 v.operator) (none_here w v h es each.1)
  where
    by : (b : Bool) → AllByRecursion (λ s. s.info.height < h) (map (λ e. start_with w v e.0.1 e.1) (filter (λ e. same_addr e.0.0 v.operator) es))
        → AllByRecursion (λ s. s.info.height < h) (map (λ e. start_with w v e.0.1 e.1) (cond b (e ∷ filter (λ e. same_addr e.0.0 v.operator) es) (filter (λ e. same_addr e.0.0 v.operator) es)))
    by true rest = (each.0, rest)
    by false rest = rest

abbrev entry_of : Validator → Money → Money → LogEntry
entry_of v share rest = log.allocated share rest v.tokens

abbrev state_given : State → Purses → Log → Validator → Money → Money × Purse → State
state_given w p l v share x = state_shared w (with_purse v.operator x.1 p) (l ++ (v.operator, entry_of v share x.0) ∷ [])

given_account : (d : List ℕ) (w : State) (p : Purses) (l : Log) (v : Validator) (share : Money) (x : Money × Purse) (j : IsJoined d share (purse_of p v.operator) x)
    → account_in d (state_given w p l v share x) v ≡ account_after d (account_in d (state_shared w p l) v) (deed.allocation j.part share x.0)
given_account d w p l v share x j =
    let op : List ℕ = v.operator in
    let a : Account = account_in d (state_given w p l v share x) v in
    let b : Account = account_in d (state_shared w p l) v in
    let c : Account = account_after d b (deed.allocation j.part share x.0) in
    let new : purse_of (with_purse op x.1 p) op ≡ x.1 = ap (λ o. unwrap_or o no_purse) (put_there op x.1 p.purses) in
    same_account v.tokens v.shares a.height c.height a.current c.current a.commission c.commission a.outstanding c.outstanding a.periods c.periods a.starts c.starts a.history c.history
    refl
    (ap (λ q. amount_of q.current d) new ∙ j.current)
    (ap (λ q. amount_of q.commission d) new ∙ j.commission)
    (ap (λ q. amount_of q.outstanding d) new ∙ j.outstanding)
    refl refl
    (ap (λ m. history_of op m []) (sym (append_assoc w.log l ((op, entry_of v share x.0) ∷ []))) ∙ history_behind op (w.log ++ l) (entry_of v share x.0) [])

given_other : (d : List ℕ) (w : State) (p : Purses) (l : Log) (v u : Validator) (share : Money) (x : Money × Purse) → same_addr u.operator v.operator ≡ false → same_addr v.operator u.operator ≡ false
    → account_in d (state_given w p l v share x) u ≡ account_in d (state_shared w p l) u
given_other d w p l v u share x apart apart' =
    let op : List ℕ = u.operator in
    let a : Account = account_in d (state_given w p l v share x) u in
    let b : Account = account_in d (state_shared w p l) u in
    let same : purse_of (with_purse v.operator x.1 p) op ≡ purse_of p op = ap (λ o. unwrap_or o no_purse) (put_elsewhere v.operator op x.1 p.purses apart) in
    same_account u.tokens u.shares a.height b.height a.current b.current a.commission b.commission a.outstanding b.outstanding a.periods b.periods a.starts b.starts a.history b.history
    refl
    (ap (λ q. amount_of q.current d) same)
    (ap (λ q. amount_of q.commission d) same)
    (ap (λ q. amount_of q.outstanding d) same)
    refl refl
    (ap (λ m. history_of op m []) (sym (append_assoc w.log l ((v.operator, entry_of v share x.0) ∷ []))) ∙ history_elsewhere op v.operator (w.log ++ l) (entry_of v share x.0) [] apart')

given_reached : (w : State) (p : Purses) (l : Log) (v : Validator) (share : Money) (x : Money × Purse) → NoneStartedHere w → IsMoney share → IsVoter w v → Shares w p l
    → share_joined share v.commission.rate (purse_of p v.operator) ≡ Ok x
    → (d : List ℕ) (u : Validator) → validator_at w.mine.staked u.operator ≡ Some u → (b : Bool) → same_addr u.operator v.operator ≡ b → IsReached d (account_in d (state_given w p l v share x) u)
given_reached w p l v share x none m voter k e d u there true is =
    let j : IsJoined d share (purse_of p v.operator) x = joined_is d share v.commission.rate (purse_of p v.operator) x m voter.rate (k.sound v.operator) e in
    let one : u ≡ v = same_some u v (validator_at w.mine.staked u.operator) (validator_at w.mine.staked v.operator) there voter.found (ap (λ o. validator_at w.mine.staked o) (addr_is u.operator v.operator is)) in
    let b : Account = account_in d (state_shared w p l) v in
    let fit : AllByRecursion (λ s. s.info.height < b.height) b.starts =
    none_here w v w.view.ctx.height w.hooks.0.rewards.starts (recursion_from_All (λ e. e.1.height < w.view.ctx.height) w.hooks.0.rewards.starts none) in
    subst (λ y. IsReached d (account_in d (state_given w p l v share x) y)) (sym one)
    (subst (λ a. IsReached d a) (sym (given_account d w p l v share x j)) (deeds_lead_on d b (deed.allocation j.part share x.0 ∷ []) (k.reached d v voter.found) ((j.share_is, fit), tt)))
given_reached w p l v share x none m voter k e d u there false is =
    let ne : u.operator ≢ v.operator = λ h. true_not_false (sym (ap (λ o. same_addr o v.operator) h ∙ own_addr v.operator) ∙ is) in
    subst (λ a. IsReached d a) (sym (given_other d w p l v u share x is (other_addr v.operator u.operator (λ h. ne (sym h))))) (k.reached d u there)
  where
    true_not_false : true ≡ false → ⊥
    true_not_false h = cc

given_sound : (p : Purses) (operator : List ℕ) (purse : Purse) → PurseIsSound purse → ((o : List ℕ) → PurseIsSound (purse_of p o)) → (o : List ℕ) (b : Bool) → same_addr o operator ≡ b → PurseIsSound (purse_of (with_purse operator purse p) o)
given_sound p operator purse own others o true is =
    let new : purse_of (with_purse operator purse p) o ≡ purse =
    ap (λ k. unwrap_or (at addr_cmp (with addr_cmp p.purses operator purse) k) no_purse) (addr_is o operator is) ∙ ap (λ r. unwrap_or r no_purse) (put_there operator purse p.purses) in
    subst PurseIsSound (sym new) own
given_sound p operator purse own others o false is = subst PurseIsSound (sym (ap (λ r. unwrap_or r no_purse) (put_elsewhere operator o purse p.purses is))) (others o)

-- ---- a vote

one_given : (w : State) (share : Money) (v : Validator) (p : Purses) (facts : List Fact) (l : Log) (x : Purses × List Fact × Log) → NoneStartedHere w → IsMoney share → IsVoter w v → Shares w p l
    → (b : Bool) → (cond b (Ok (p, facts, [])) (share_joined share v.commission.rate (purse_of p v.operator) >>= λ r. Ok (with_purse v.operator r.1 p, facts ++ fact.Allocated v.operator share ∷ [], (v.operator, entry_of v share r.0) ∷ []))) ≡ Ok x
    → Shares w x.0 (l ++ x.2)
one_given w share v p facts l x none m voter k true e =
    subst (λ y. Shares w y.0 (l ++ y.2)) (same_ok (p, facts, []) x e) (subst (λ n. Shares w p n) (sym (append-nil l)) k)
one_given w share v p facts l x none m voter k false e =
    let a : (r : Money × Purse) × (share_joined share v.commission.rate (purse_of p v.operator) ≡ Ok r)
    × (Path (Result (Purses × List Fact × Log) Over) (Ok (with_purse v.operator r.1 p, facts ++ fact.Allocated v.operator share ∷ [], (v.operator, entry_of v share r.0) ∷ [])) (Ok x)) =
    step_parts (share_joined share v.commission.rate (purse_of p v.operator)) (λ r. Ok (with_purse v.operator r.1 p, facts ++ fact.Allocated v.operator share ∷ [], (v.operator, entry_of v share r.0) ∷ [])) x e in
    let r : Money × Purse = a.0 in
    let j : IsJoined [] share (purse_of p v.operator) r = joined_is [] share v.commission.rate (purse_of p v.operator) r m voter.rate (k.sound v.operator) a.1 in
    let own : Shares w (with_purse v.operator r.1 p) (l ++ (v.operator, entry_of v share r.0) ∷ []) = record {
      reached = λ d u there. given_reached w p l v share r none m voter k a.1 d u there (same_addr u.operator v.operator) refl;
      sound = λ o. given_sound p v.operator r.1 j.sound k.sound o (same_addr o v.operator) refl;
    } in
    subst (λ y. Shares w y.0 (l ++ y.2)) (same_ok (with_purse v.operator r.1 p, facts ++ fact.Allocated v.operator share ∷ [], (v.operator, entry_of v share r.0) ∷ []) x a.2) own

vote_given : (w : State) (share : Money) (cons : List ℕ) (o : Option Validator) (p : Purses) (facts : List Fact) (l : Log) (x : Purses × List Fact × Log) → IsSound w → NoneStartedHere w → IsMoney share
    → validator_by_cons w.mine.staked cons ≡ o → Shares w p l → share_given o share p facts ≡ Ok x → Shares w x.0 (l ++ x.2)
vote_given w share cons None p facts l x sound none m is k e =
    subst (λ y. Shares w y.0 (l ++ y.2)) (same_ok (p, facts, []) x e) (subst (λ n. Shares w p n) (sym (append-nil l)) k)
vote_given w share cons (Some v) p facts l x sound none m is k e = one_given w share v p facts l x none m (voter_is w cons v sound is) k (is_empty share) e

-- ---- all votes

pub all_given : (w : State) (base : Money) (total : ℕ) (ts : List Vote) (left : Money) (p : Purses) (facts : List Fact) (l : Log) (x : Purses × List Fact × Log) → IsSound w → NoneStartedHere w → IsMoney base
    → Shares w p l → shares_allocated w.mine.staked base total ts left p facts l ≡ Ok x → AreReached (state_shared w x.0 x.2)
all_given w base total [] left p facts l x sound none m k e =
    let a : (q : Purses) × (pool_joined left p ≡ Ok q) × (Path (Result (Purses × List Fact × Log) Over) (Ok (q, pooled_told left facts, l)) (Ok x)) = step_parts (pool_joined left p) (λ q. Ok (q, pooled_told left facts, l)) x e in
    subst (λ y. AreReached (state_shared w y.0 y.2)) (same_ok (a.0, pooled_told left facts, l) x a.2) (pool_reached w p a.0 l (joined_purses left p a.0 a.1) k.reached)
all_given w base total (t ∷ ts) left p facts l x sound none m k e =
    let s : Staked = w.mine.staked in
    let a : (part : ℕ) × (quo_cut_of (t.power * 10 ^ 18) (total * 10 ^ 18) ≡ Ok part)
    × ((coins_mul_cut base part >>= λ share. share_given (validator_by_cons s t.cons) share p facts >>= λ y. shares_allocated s base total ts (coins_taken left share) y.0 y.1 (l ++ y.2)) ≡ Ok x) =
    step_parts (quo_cut_of (t.power * 10 ^ 18) (total * 10 ^ 18)) (λ part. coins_mul_cut base part >>= λ share. share_given (validator_by_cons s t.cons) share p facts >>= λ y. shares_allocated s base total ts (coins_taken left share) y.0 y.1 (l ++ y.2)) x e in
    let b : (share : Money) × (coins_mul_cut base a.0 ≡ Ok share) × ((share_given (validator_by_cons s t.cons) share p facts >>= λ y. shares_allocated s base total ts (coins_taken left share) y.0 y.1 (l ++ y.2)) ≡ Ok x) =
    step_parts (coins_mul_cut base a.0) (λ share. share_given (validator_by_cons s t.cons) share p facts >>= λ y. shares_allocated s base total ts (coins_taken left share) y.0 y.1 (l ++ y.2)) x a.2 in
    let share : Money = b.0 in
    let sm : IsMoney share = by_is_money (λ n. mul_cut_of n a.0) (λ n k h. below_is _ _ k h) base share m b.1 in
    let c : (y : Purses × List Fact × Log) × (share_given (validator_by_cons s t.cons) share p facts ≡ Ok y) × (shares_allocated s base total ts (coins_taken left share) y.0 y.1 (l ++ y.2) ≡ Ok x) =
    step_parts (share_given (validator_by_cons s t.cons) share p facts) (λ y. shares_allocated s base total ts (coins_taken left share) y.0 y.1 (l ++ y.2)) x b.2 in
    all_given w base total ts (coins_taken left share) c.0.0 c.0.1 (l ++ c.0.2) x sound none m (vote_given w share t.cons (validator_by_cons s t.cons) p facts l c.0 sound none sm refl k c.1) c.2

pub purses_sound : (w : State) → IsSound w → (operator : List ℕ) → PurseIsSound (purse_of w.hooks.0.purses operator)
purses_sound w sound operator =
    if_some PurseIsSound (at addr_cmp w.hooks.0.purses.purses operator) no_purse (All-lookup PurseIsSound (is_at (addr_cmp operator)) w.hooks.0.purses.purses sound.purses.purses)
    (record { outstanding = money-nil; commission = money-nil; current = money-nil })

pub sharing_keeps_reached : SharingKeepsReached
sharing_keeps_reached = λ w base left total votes p facts more sound none m e reached.
    all_given w base total votes left w.hooks.0.purses w.view.facts [] (p, facts, more) sound none m
    (record { reached = quiet_reached w w.hooks.0 w.view refl refl refl reached; sound = purses_sound w sound }) e
