-- Shares that leave: the start of what is left, and then the removal; a validator that is empty goes. The account of each that
-- stands is reached.
use Rattle.std.proofs.Common.{◌≡◌, ℕ, ◌+◌, ◌-◌, ◌<◌, ◌≤◌, ◌≢◌, ◌==◌, zero, suc, Bool, true, false, cond, List, [], ◌∷◌, ◌++◌, map, refl, arith, sym, ap, subst, ◌∙◌, Option, Some, None, Result, Ok, Err, append-nil, unwrap_or, ◌&&◌, if◌then◌else◌, sum, insert}
use Rattle.std.specs.{List.{AllByRecursion, Sorted.IsStrictlySortedBy}, Map.{keys_of, lookup, remove_entry}}
use Rattle.std.specs.BTreeMap.{is_at}
use Rattle.base_decimals.specs.declared.over.Over.{Over}
use Rattle.base_types.specs.Orders.{addr_cmp}
use Rattle.base_coins.specs.Coins.{Money, amount_of, coins_added, coins_taken, fractions, whole_coins}
use Rattle.base_shares.specs.Shares.{amount_out}
use Rattle.base_roles.specs.{declared.entities.Validator.Validator, Entries.{at, without}, Items.no_purse}
use Rattle.base_roles.specs.{Log.{Log, LogEntry}, Orders.{pair_cmp, same_addr}}
use Rattle.base_roles.specs.{Staked.{Staked, validator_at, delegation, put_validator, is_unbonded}, Flow.{◌>>=◌}}
use Rattle.base_roles.specs.World.{View, Told, gives, World, call, noted, over_view, over_mine, logged}
use Rattle.base_roles.specs.declared.calls.Hook.TheVariants.{Modifying as modifying, Modified as modified}
use Rattle.base_roles.specs.declared.facts.Fact.TheVariants as fact
use Rattle.base_roles.specs.Log as log
use Rattle.base_roles.specs.declared.calls.Hook.TheVariants as hook
use Rattle.rule_modules.proofs.{EntryLemmas.at-taken, OrderLemmas.{addr_total, pair_found}}
use Rattle.rule_modules.specs.{Amounts.{is_empty, over_facts}, Chain.{Hooks, State, chain_told, staked_in, with_staked}}
use Rattle.rule_modules.specs.Distribution.{Shared, distribution_told, records_removed, payee_of, paid_to, told_of, unlogged}
use Rattle.rule_modules.specs.{Ideal.history_of, Periods.{initial_records, periods_of, without_periods}}
use Rattle.rule_modules.specs.Purses.{Purses, purse_of, closed, pool_joined, pooled_told, due_at_last}
use Rattle.rule_modules.specs.Stakes.{put_delegation, without_shares, without_validator}
use Rattle.rule_modules.specs.Unbonding.{removed_if_empty, validator_removed}
use Rattle.law_rewards.specs.Account.{Start, Account, IsReached, counted_shares, account_after, start_made}
use Rattle.law_rewards.{specs.States.{starts_in, account_in, AreReached}, proofs.{Lists.sum_more, Following.own_addr}}
use Rattle.law_rewards.proofs.Denominations.{step_parts}
use Rattle.law_rewards.proofs.Entries.{addr_is, pair_is, put_there, put_elsewhere, history_behind, history_elsewhere, IsPutInto}
use Rattle.law_rewards.proofs.{Reached.deeds_lead_on, Endings.{same_account, same_some}}
use Rattle.law_rewards.proofs.Beginnings.{MayBegin, state_begun, info_of, own_put, begun_account, begun_reached}
use Rattle.law_rewards.proofs.{Quiet.{same_ok, joined_purses}, Hooked.{hook_gave, call_parts, same_told, IsOpen}}
use Rattle.law_rewards.proofs.Growing.{OthersStay, own_starts, apart_back, shares_stay, own_shares, over_stake, other_stands}
use Rattle.law_rewards.specs.Account as deed

-- ---- entries that go

taken_step : {K X : Type 0} (p q : K → Bool) (e : K × X) (es : List (K × X)) (b : Bool) → p e.0 ≡ b → ((x : K) → p x ≡ true → q x ≡ false) → lookup q (remove_entry p es) ≡ lookup q es
    → lookup q (cond b es (e ∷ remove_entry p es)) ≡ lookup q (e ∷ es)
taken_step p q e es true is other later = sym (ap (λ t. cond t (Some e.1) (lookup q es)) (other e.0 is))
taken_step p q e es false is other later = ap (λ o. cond (q e.0) (Some e.1) o) later

-- what stands elsewhere stays
pub taken_elsewhere : {K X : Type 0} (p q : K → Bool) → ((x : K) → p x ≡ true → q x ≡ false) → (es : List (K × X)) → lookup q (remove_entry p es) ≡ lookup q es
taken_elsewhere p q other [] = refl
taken_elsewhere p q other (e ∷ es) = taken_step p q e es (p e.0) refl other (taken_elsewhere p q other es)

pub addr_taken : {X : Type 0} (k q : List ℕ) (es : List (List ℕ × X)) → same_addr q k ≡ false → lookup (is_at (addr_cmp q)) (remove_entry (is_at (addr_cmp k)) es) ≡ lookup (is_at (addr_cmp q)) es
addr_taken k q es apart = taken_elsewhere (is_at (addr_cmp k)) (is_at (addr_cmp q)) (λ x h. ap (same_addr q) (sym (addr_is k x h)) ∙ apart) es

turned : (a b : List ℕ) → same_addr a b ≡ true → same_addr b a ≡ true
turned a b h = ap (λ c. same_addr b c) (addr_is a b h) ∙ own_addr b

not_both : (a b c e : Bool) → (a ≡ true → c ≡ true) → (b ≡ true → e ≡ true) → (c && e) ≡ false → (a && b) ≡ false
not_both false b c e f g h = refl
not_both true false c e f g h = refl
not_both true true c e f g h = sym (λ i. f refl i && g refl i) ∙ h

pub pair_elsewhere : (who op x o : List ℕ) (k : List ℕ × List ℕ) → (same_addr op o && same_addr who x) ≡ false → is_at (pair_cmp (op, who)) k ≡ true → is_at (pair_cmp (o, x)) k ≡ false
pair_elsewhere who op x o k apart h =
    let same : (op ≡ k.0) × (who ≡ k.1) = pair_is (op, who) k h in
    pair_found o k.0 x k.1 ∙ not_both (same_addr o k.0) (same_addr x k.1) (same_addr op o) (same_addr who x) (λ t. ap (λ a. same_addr a o) same.0 ∙ turned o k.0 t) (λ t. ap (λ a. same_addr a x) same.1 ∙ turned x k.1 t) apart

pub taken_stays : (s : Staked) (who op : List ℕ) → OthersStay s (without_shares who op s) who op
taken_stays s who op = record { stay = λ x o apart. taken_elsewhere (is_at (pair_cmp (op, who))) (is_at (pair_cmp (o, x))) (λ k h. pair_elsewhere who op x o k apart h) s.delegations }

-- ---- what is left of the delegation

sum_insert : (s : Start) (k : ℕ) (ss : List Start) → sum (map (λ t. t.shares) (insert ss k s)) ≡ sum (map (λ t. t.shares) ss) + s.shares
sum_insert s zero [] = omega (arith, sum_more s.shares [])
sum_insert s (suc k) [] = omega (arith, sum_more s.shares [])
sum_insert s zero (x ∷ ss) = omega (arith, sum_more s.shares (map (λ t. t.shares) (x ∷ ss)))
sum_insert s (suc k) (x ∷ ss) = omega (arith, sum_more x.shares (map (λ t. t.shares) (insert ss k s)), sum_more x.shares (map (λ t. t.shares) ss), sum_insert s k ss)

-- a state from which a part of the shares may leave
pub record MayLeave (x : State) (v : Validator) (part : ℕ) : Type 0 where
  found : validator_at x.mine.staked v.operator ≡ Some v
  reached : AreReached x
  none : (d : List ℕ) → (account_in d x v).current ≡ 0
  room : (d : List ℕ) → counted_shares (account_in d x v) + part ≤ v.shares

-- over other delegations accounts are as they were
restaked_account : (d : List ℕ) (x : State) (v : Validator) (who : List ℕ) (held : ℕ) (t : Staked) → OthersStay x.mine.staked t who v.operator → IsOpen d x v who held → account_in d (over_stake x t x.view) v ≡ account_in d x v
restaked_account d x v who held t stays k =
    let a : Account = account_in d (over_stake x t x.view) v in
    let b : Account = account_in d x v in
    same_account v.tokens v.shares a.height b.height a.current b.current a.commission b.commission a.outstanding b.outstanding a.periods b.periods a.starts b.starts a.history b.history
    refl refl refl refl refl (own_starts x.mine.staked t who v.operator x.hooks.0.rewards stays k.apart) refl

restaked_at : (d : List ℕ) (x : State) (v u : Validator) (who : List ℕ) (held : ℕ) (t : Staked) → validator_at x.mine.staked v.operator ≡ Some v → OthersStay x.mine.staked t who v.operator → IsOpen d x v who held → AreReached x
    → validator_at x.mine.staked u.operator ≡ Some u → (b : Bool) → same_addr u.operator v.operator ≡ b → IsReached d (account_in d (over_stake x t x.view) u)
restaked_at d x v u who held t found stays k reached there true is =
    let one : u ≡ v = same_some u v (validator_at x.mine.staked u.operator) (validator_at x.mine.staked v.operator) there found (ap (λ o. validator_at x.mine.staked o) (addr_is u.operator v.operator is)) in
    subst (λ y. IsReached d (account_in d (over_stake x t x.view) y)) (sym one) (subst (λ a. IsReached d a) (sym (restaked_account d x v who held t stays k)) (reached d v found))
restaked_at d x v u who held t found stays k reached there false is =
    subst (λ a. IsReached d a) (sym (other_stands d x t x.view who v.operator u stays refl (apart_back u.operator v.operator is))) (reached d u there)

-- no share is left
pub none_left : (x : State) (v : Validator) (who : List ℕ) (held part : ℕ) → validator_at x.mine.staked v.operator ≡ Some v → ((d : List ℕ) → IsOpen d x v who held) → part ≤ held → AreReached x
    → MayLeave (over_stake x (without_shares who v.operator x.mine.staked) x.view) v part
none_left x v who held part found k within reached =
    let t : Staked = without_shares who v.operator x.mine.staked in
    let stays : OthersStay x.mine.staked t who v.operator = taken_stays x.mine.staked who v.operator in
    record {
      found = found;
      reached = λ d u there. restaked_at d x v u who held t found stays (k d) reached there (same_addr u.operator v.operator) refl;
      none = λ d. (k d).none;
      room = λ d. (
          let same : counted_shares (account_in d (over_stake x t x.view) v) ≡ counted_shares (account_in d x v) = ap counted_shares (restaked_account d x v who held t stays (k d)) in
          let all : counted_shares (account_in d x v) + held ≤ v.shares = (k d).within in
          omega (arith, same, all, within));
    }

-- some are
pub some_left : (x : State) (v : Validator) (who : List ℕ) (held part left : ℕ) → validator_at x.mine.staked v.operator ≡ Some v → ((d : List ℕ) → IsOpen d x v who held) → left + part ≤ held → 0 < left → AreReached x
    → MayLeave (state_begun (over_stake x (put_delegation who v.operator left x.mine.staked) x.view) v who left) v part
some_left x v who held part left found k within some reached =
    let op : List ℕ = v.operator in
    let s : Staked = x.mine.staked in
    let t : Staked = put_delegation who op left s in
    let y : State = over_stake x t x.view in
    let stays : OthersStay s t who op = shares_stay s who op left in
    let has : delegation t who op ≡ Some left = own_shares s who op left in
    let before : AreReached y = λ d u there. restaked_at d x v u who held t found stays (k d) reached there (same_addr u.operator op) refl in
    let apart : (d : List ℕ) → AllByRecursion (λ a. who ≢ a.who) (starts_in t x.hooks.0.rewards op) =
    λ d. subst (λ ss. AllByRecursion (λ a. who ≢ a.who) ss) (sym (own_starts s t who op x.hooks.0.rewards stays (k d).apart)) (k d).apart in
    let may : (d : List ℕ) → MayBegin d y v who left = λ d. (
    let same : counted_shares (account_in d y v) ≡ counted_shares (account_in d x v) = ap counted_shares (restaked_account d x v who held t stays (k d)) in
    let all : counted_shares (account_in d x v) + held ≤ v.shares = (k d).within in
    record { none = (k d).none; some = some; within = omega (arith, same, all, within); apart = apart d }) in
    record {
      found = found;
      reached = λ d u there. begun_reached d y v u who left found has (may d) before there (same_addr u.operator op) refl;
      none = λ d. (k d).none;
      room = λ d. (
          let g : IsPutInto _ _ _ = own_put y v who (info_of y v left) (apart d) in
          let is : counted_shares (account_in d (state_begun y v who left) v) ≡ counted_shares (account_after d (account_in d y v) (deed.beginning g.place who left)) = ap counted_shares (begun_account d y v who left has g) in
          let more : counted_shares (account_after d (account_in d y v) (deed.beginning g.place who left)) ≡ counted_shares (account_in d y v) + left = sum_insert (start_made (account_in d y v) who left) g.place (account_in d y v).starts in
          let same : counted_shares (account_in d y v) ≡ counted_shares (account_in d x v) = ap counted_shares (restaked_account d x v who held t stays (k d)) in
          let all : counted_shares (account_in d x v) + held ≤ v.shares = (k d).within in
          omega (arith, is, more, same, all, within));
    }

-- ---- the removal

-- the validator from which tokens and shares leave
abbrev pub less_of : Validator → Bool → ℕ → Validator
less_of v j part = record v { jailed = j; tokens = v.tokens - amount_out v.tokens v.shares part; shares = v.shares - part }

abbrev pub state_less : State → Validator → Bool → ℕ → State
state_less x v j part = record { mine = record x.mine { staked = put_validator (less_of v j part) x.mine.staked }; hooks = x.hooks; view = x.view; log = x.log ++ (v.operator, log.left) ∷ [] }

less_account : (d : List ℕ) (x : State) (v : Validator) (j : Bool) (part : ℕ) → account_in d (state_less x v j part) (less_of v j part) ≡ account_after d (account_in d x v) (deed.removal part)
less_account d x v j part =
    let a : Account = account_in d (state_less x v j part) (less_of v j part) in
    let b : Account = account_in d x v in
    same_account a.tokens a.shares a.height b.height a.current b.current a.commission b.commission a.outstanding b.outstanding a.periods b.periods a.starts b.starts a.history (b.history ++ log.left ∷ [])
    refl refl refl refl refl refl (history_behind v.operator x.log log.left [])

less_other : (d : List ℕ) (x : State) (v u : Validator) (j : Bool) (part : ℕ) → same_addr v.operator u.operator ≡ false → account_in d (state_less x v j part) u ≡ account_in d x u
less_other d x v u j part apart =
    let a : Account = account_in d (state_less x v j part) u in
    let b : Account = account_in d x u in
    same_account u.tokens u.shares a.height b.height a.current b.current a.commission b.commission a.outstanding b.outstanding a.periods b.periods a.starts b.starts a.history b.history
    refl refl refl refl refl refl (history_elsewhere u.operator v.operator x.log log.left [] apart)

less_at : (d : List ℕ) (x : State) (v u : Validator) (j : Bool) (part : ℕ) → MayLeave x v part → 0 < v.shares → validator_at (put_validator (less_of v j part) x.mine.staked) u.operator ≡ Some u → (b : Bool) → same_addr u.operator v.operator ≡ b
    → IsReached d (account_in d (state_less x v j part) u)
less_at d x v u j part k some there true is =
    let t : Staked = put_validator (less_of v j part) x.mine.staked in
    let one : u ≡ less_of v j part = same_some u (less_of v j part) (validator_at t u.operator) (validator_at t v.operator) there (put_there v.operator (less_of v j part) x.mine.staked.validators) (ap (λ o. validator_at t o) (addr_is u.operator v.operator is)) in
    subst (λ y. IsReached d (account_in d (state_less x v j part) y)) (sym one)
    (subst (λ a. IsReached d a) (sym (less_account d x v j part)) (deeds_lead_on d (account_in d x v) (deed.removal part ∷ []) (k.reached d v k.found) ((k.none d, some, k.room d), tt)))
less_at d x v u j part k some there false is =
    subst (λ a. IsReached d a) (sym (less_other d x v u j part (apart_back u.operator v.operator is)))
    (k.reached d u (sym (put_elsewhere v.operator u.operator (less_of v j part) x.mine.staked.validators is) ∙ there))

pub less_reached : (x : State) (v : Validator) (j : Bool) (part : ℕ) → MayLeave x v part → 0 < v.shares → AreReached (state_less x v j part)
less_reached x v j part k some d u there = less_at d x v u j part k some there (same_addr u.operator v.operator) refl

-- ---- a validator that goes

-- what is left of distribution's records
pub record RecordsGo (s : Shared) (u : View) (op : List ℕ) (z : Shared × View × Log) : Type 0 where
  pub rewards : z.0.rewards ≡ without_periods op s.rewards
  pub purses : z.0.purses.purses ≡ without addr_cmp s.purses.purses op
  pub height : z.1.ctx.height ≡ u.ctx.height
  pub logged : z.2 ≡ []

closed_purses : (op : List ℕ) (p : Purses) (y : Money × Money × Purses) → closed op p ≡ Ok y → y.2.purses ≡ without addr_cmp p.purses op
closed_purses op p y e =
    let due : Money = due_at_last (purse_of p op) in
    let gone : Purses = record p { purses = without addr_cmp p.purses op } in
    let one : (rest : Money) × (coins_added (fractions due) (coins_taken (purse_of p op).outstanding due) ≡ Ok rest) × ((pool_joined rest gone >>= λ q. Ok (whole_coins due, rest, q)) ≡ Ok y) =
    step_parts (coins_added (fractions due) (coins_taken (purse_of p op).outstanding due)) (λ rest. pool_joined rest gone >>= λ q. Ok (whole_coins due, rest, q)) y e in
    let two : (q : Purses) × (pool_joined one.0 gone ≡ Ok q) × (Path (Result (Money × Money × Purses) Over) (Ok (whole_coins due, one.0, q)) (Ok y)) =
    step_parts (pool_joined one.0 gone) (λ q. Ok (whole_coins due, one.0, q)) y one.2 in
    ap (λ a. a.2.purses) (sym (same_ok (whole_coins due, one.0, two.0) y two.2)) ∙ joined_purses one.0 gone two.0 two.1

abbrev removed_with : Validator → Shared → View → Money × Money × Purses → Shared × View
removed_with v s u y =
    let to = payee_of s v.operator in
    let v1 = paid_to to y.0 u in
    let v2 = (if is_empty y.0 then v1 else noted (fact.Commission v.operator to y.0) v1) in
    (record s { rewards = without_periods v.operator s.rewards; purses = y.2 }, over_facts (pooled_told y.1) v2)

removed_height : (v : Validator) (s : Shared) (u : View) (y : Money × Money × Purses) → (removed_with v s u y).1.ctx.height ≡ u.ctx.height
removed_height v s u y = by (is_empty y.0)
  where
    by : (b : Bool) → (if b then paid_to (payee_of s v.operator) y.0 u else noted (fact.Commission v.operator (payee_of s v.operator) y.0) (paid_to (payee_of s v.operator) y.0 u)).ctx.height ≡ u.ctx.height
    by true = refl
    by false = refl

pub removed_is : (v : Validator) (s : Shared) (u : View) (z : Shared × View × Log) → told_of (unlogged (records_removed v s u)) ≡ gives z.0 z.1 z.2 → RecordsGo s u v.operator z
removed_is v s u z h = by (closed v.operator s.purses) refl h
  where
    by : (r : Result (Money × Money × Purses) Over) → closed v.operator s.purses ≡ r → told_of (unlogged (r >>= λ y. Ok (removed_with v s u y))) ≡ gives z.0 z.1 z.2 → RecordsGo s u v.operator z
    by (Ok y) is e =
        let same : ((removed_with v s u y).0 ≡ z.0) × ((removed_with v s u y).1 ≡ z.1) × ([] ≡ z.2) = same_told (removed_with v s u y).0 z.0 (removed_with v s u y).1 z.1 [] z.2 e in
        record {
          rewards = ap (λ a. a.rewards) (sym same.0);
          purses = ap (λ a. a.purses.purses) (sym same.0) ∙ closed_purses v.operator s.purses y is;
          height = ap (λ a. a.ctx.height) (sym same.1) ∙ removed_height v s u y;
          logged = sym same.2;
        }
    by (Err over) is e = absurd cc

-- the state without the validator
abbrev state_gone : State → List ℕ → Shared × View × Log → View → State
state_gone x op z u = record { mine = record x.mine { staked = without_validator op x.mine.staked }; hooks = (z.0, x.hooks.1); view = u; log = x.log ++ z.2 }

gone_account : (d : List ℕ) (x : State) (op : List ℕ) (z : Shared × View × Log) (u : View) (v : Validator) → RecordsGo x.hooks.0 x.view op z → u.ctx.height ≡ z.1.ctx.height → same_addr v.operator op ≡ false
    → account_in d (state_gone x op z u) v ≡ account_in d x v
gone_account d x op z u v k height apart =
    let q : List ℕ = v.operator in
    let a : Account = account_in d (state_gone x op z u) v in
    let b : Account = account_in d x v in
    let purse : purse_of z.0.purses q ≡ purse_of x.hooks.0.purses q =
    ap (λ es. unwrap_or (at addr_cmp es q) no_purse) k.purses ∙ ap (λ o. unwrap_or o no_purse) (addr_taken op q x.hooks.0.purses.purses apart) in
    same_account v.tokens v.shares a.height b.height a.current b.current a.commission b.commission a.outstanding b.outstanding a.periods b.periods a.starts b.starts a.history b.history
    (height ∙ k.height)
    (ap (λ p. amount_of p.current d) purse)
    (ap (λ p. amount_of p.commission d) purse)
    (ap (λ p. amount_of p.outstanding d) purse)
    (ap (λ r. periods_of r q) k.rewards ∙ ap (λ o. unwrap_or o initial_records) (addr_taken op q x.hooks.0.rewards.periods apart))
    (ap (λ r. starts_in x.mine.staked r q) k.rewards)
    (ap (λ l. history_of q (x.log ++ l) []) k.logged ∙ ap (λ l. history_of q l []) (append-nil x.log))

gone_at : (d : List ℕ) (x : State) (op : List ℕ) (z : Shared × View × Log) (u : View) (v : Validator) → RecordsGo x.hooks.0 x.view op z → u.ctx.height ≡ z.1.ctx.height → IsStrictlySortedBy addr_cmp (keys_of x.mine.staked.validators)
    → AreReached x → validator_at (without_validator op x.mine.staked) v.operator ≡ Some v → (b : Bool) → same_addr v.operator op ≡ b → IsReached d (account_in d (state_gone x op z u) v)
gone_at d x op z u v k height ascend reached there true is =
    absurd (none_some v (sym (at-taken addr_cmp addr_total x.mine.staked.validators op v.operator ascend ∙ ap (λ b. cond b None (validator_at x.mine.staked v.operator)) is) ∙ there))
  where
    none_some : (y : Validator) → Path (Option Validator) None (Some y) → ⊥
    none_some y h = cc
gone_at d x op z u v k height ascend reached there false is =
    subst (λ a. IsReached d a) (sym (gone_account d x op z u v k height is)) (reached d v (sym (addr_taken op v.operator x.mine.staked.validators is) ∙ there))

pub removed_reached : (x : State) (v : Validator) (y : World Staked Hooks) → IsStrictlySortedBy addr_cmp (keys_of x.mine.staked.validators) → AreReached x → validator_removed chain_told v (staked_in x) ≡ Ok y → AreReached (with_staked x.mine y)
removed_reached x v y ascend reached e =
    let w : World Staked Hooks = over_mine (without_validator v.operator) (staked_in x) in
    let one : (t : World Staked Hooks) × (call chain_told (hook.Removed v) w ≡ Ok t) × (Path (Result (World Staked Hooks) Over) (Ok (over_view (noted (fact.Removed v.operator)) t)) (Ok y)) =
    step_parts (call chain_told (hook.Removed v) w) (λ t. Ok (over_view (noted (fact.Removed v.operator)) t)) y e in
    let told : (z : Shared × View × Log) × (distribution_told x.hooks.0 (hook.Removed v) x.view ≡ gives z.0 z.1 z.2) × (hook_gave w z ≡ one.0) = call_parts (hook.Removed v) w one.0 (λ u. refl) one.1 in
    let k : RecordsGo x.hooks.0 x.view v.operator told.0 = removed_is v x.hooks.0 x.view told.0 told.1 in
    let is : over_view (noted (fact.Removed v.operator)) (hook_gave w told.0) ≡ y = ap (over_view (noted (fact.Removed v.operator))) told.2 ∙ same_ok (over_view (noted (fact.Removed v.operator)) one.0) y one.2 in
    subst (λ t. AreReached (with_staked x.mine t)) is
    (λ d u there. gone_at d x v.operator told.0 (noted (fact.Removed v.operator) told.0.1) u k refl ascend reached there (same_addr u.operator v.operator) refl)

pub emptied_reached : (x : State) (v : Validator) (y : World Staked Hooks) → IsStrictlySortedBy addr_cmp (keys_of x.mine.staked.validators) → AreReached x → removed_if_empty chain_told v (staked_in x) ≡ Ok y → AreReached (with_staked x.mine y)
emptied_reached x v y ascend reached e = by (is_unbonded v.status && (v.shares == 0)) e
  where
    by : (b : Bool) → (if b then validator_removed chain_told v (staked_in x) else Ok (staked_in x)) ≡ Ok y → AreReached (with_staked x.mine y)
    by true h = removed_reached x v y ascend reached h
    by false h = subst (λ t. AreReached (with_staked x.mine t)) (same_ok (staked_in x) y h) reached
