-- Withdrawing a delegation's reward, as a step of a state, is the deeds of its rule; every other account stays.
use Rattle.std.proofs.Common.{◌≡◌, ℕ, ◌-◌, ◌≢◌, Bool, true, false, List, [], ◌∷◌, ◌++◌, map, refl, arith, sym, ap, subst, ◌∙◌, Some, Result, Ok, min, append_assoc, unwrap_or, is_some, slice_get, remove}
use Rattle.std.specs.BTreeMap.{is_at}
use Rattle.base_decimals.specs.declared.over.Over.{Over}
use Rattle.base_types.specs.Orders.{addr_cmp}
use Rattle.base_coins.specs.Coins.{Money, IsMoney, amount_of, coins_added, coins_taken, smaller_of, whole_coins, fractions}
use Rattle.base_coins.proofs.{Order.rises_from_money, Amounts.amount-all}
use Rattle.base_shares.specs.Shares.{value_even_of}
use Rattle.base_roles.specs.declared.entities.{Purse.Purse, StartingInfo.StartingInfo, Validator.Validator}
use Rattle.base_roles.specs.{Entries.{at, with}, Items.no_purse, Log.{Log, LogEntry}, Orders.{pair_cmp, same_addr}}
use Rattle.base_roles.specs.{Staked.{validator_at, delegation}, Flow.{◌>>=◌}, World.{View, noted}}
use Rattle.base_roles.specs.declared.facts.Fact.TheVariants as fact
use Rattle.base_roles.specs.Log as log
use Rattle.rule_modules.specs.{Amounts.over_facts, Chain.{State, with_shared}}
use Rattle.rule_modules.specs.Distribution.{Shared, ended, reward_due, reward_withdrawn, payee_of, paid_to}
use Rattle.rule_modules.specs.{Ideal.history_of, Periods.{Rewards, periods_of, start_of, without_start, reward_at}}
use Rattle.rule_modules.specs.Purses.{Purses, purse_of, with_purse, pool_joined, paid_out, pooled_told}
use Rattle.law_rewards.specs.Account.{Start, Account, IsReached, reward_now, owner_of, full_of, payment_of, account_after}
use Rattle.law_rewards.specs.{States.{starts_in, account_in, AreReached}, StateLaws.WithdrawalKeepsReached}
use Rattle.law_rewards.proofs.{Following.{own_addr, other_addr}, Denominations.step_parts}
use Rattle.law_rewards.proofs.Entries.{addr_is, pair_is, put_there, put_elsewhere, history_behind, history_elsewhere, IsGoneFrom, gone_from, kept_by}
use Rattle.law_rewards.proofs.Reached.{deeds_lead_on}
use Rattle.law_rewards.proofs.Claims.{IsReady, ready_in, IsEnded, closed_account, closed_full, due_parts, some_of, start_with}
use Rattle.law_rewards.proofs.Endings.{same_account, state_then, closed_is, same_some, end_is, ended_reached}
use Rattle.law_rewards.specs.Account as deed

-- ---- the purse of a validator of which a reward was paid

record PurseLess (d operator : List ℕ) (p : Purses) (full : Money) (q : Purses) : Type 0 where
  purse : Purse
  is : q.purses ≡ with addr_cmp p.purses operator purse
  current : purse.current ≡ (purse_of p operator).current
  commission : purse.commission ≡ (purse_of p operator).commission
  outstanding : amount_of purse.outstanding d ≡ amount_of (purse_of p operator).outstanding d - min (amount_of full d) (amount_of (purse_of p operator).outstanding d)

purse_less : (d operator : List ℕ) (p : Purses) (full : Money) (z : Money × Purses) → IsMoney full → IsMoney (purse_of p operator).outstanding → paid_out operator full p ≡ Ok z → PurseLess d operator p full z.1
purse_less d operator p full z m outstanding e =
    let old : Purse = purse_of p operator in
    let reward : Money = smaller_of full old.outstanding in
    let less : Purse = record old { outstanding = coins_taken old.outstanding reward } in
    let one_join : (p1 : Purses) × (pool_joined (fractions reward) (with_purse operator less p) ≡ Ok p1) × (Path (Result (Money × Purses) Over) (Ok (reward, p1)) (Ok z)) =
    step_parts (pool_joined (fractions reward) (with_purse operator less p)) (λ p1. Ok (reward, p1)) z e in
    let one_sum : (pool : Money) × (coins_added p.pool (fractions reward) ≡ Ok pool) × (Path (Result Purses Over) (Ok (record (with_purse operator less p) { pool = pool })) (Ok one_join.0)) =
    step_parts (coins_added p.pool (fractions reward)) (λ pool. Ok (record (with_purse operator less p) { pool = pool })) one_join.0 one_join.1 in
    let last : z.1 ≡ record (with_purse operator less p) { pool = one_sum.0 } =
    sym (same_one reward one_join.0 z one_join.2) ∙ sym (same_zero (record (with_purse operator less p) { pool = one_sum.0 }) one_join.0 one_sum.2) in
    let reward_is : amount_of reward d ≡ min (amount_of full d) (amount_of old.outstanding d) =
    amount-all (λ c n. min n (amount_of old.outstanding c)) (λ c. omega arith) full d (rises_from_money full m) in
    let left_is : amount_of (coins_taken old.outstanding reward) d ≡ amount_of old.outstanding d - amount_of reward d =
    amount-all (λ c n. n - amount_of reward c) (λ c. omega arith) old.outstanding d (rises_from_money old.outstanding outstanding) in record {
      purse = less;
      is = ap (λ q. q.purses) last;
      current = refl;
      commission = refl;
      outstanding = left_is ∙ ap (λ n. amount_of old.outstanding d - n) reward_is;
    }
  where
    same_one : (reward : Money) (p1 : Purses) (q : Money × Purses) → Path (Result (Money × Purses) Over) (Ok (reward, p1)) (Ok q) → p1 ≡ q.1
    same_one reward p1 q h = let whole : (reward, p1) ≡ q = cc in ap (λ x. x.1) whole

    same_zero : (x y : Purses) → Path (Result Purses Over) (Ok x) (Ok y) → x ≡ y
    same_zero x y h = cc

-- ---- what a withdrawal is

-- what it logs behind the end of the period
abbrev pub withdrawal_entry : Validator → List ℕ → Money → Shared → LogEntry
withdrawal_entry v who full s = log.withdrawn who (payee_of s who) full (purse_of s.purses v.operator).outstanding

pub record IsWithdrawn (v : Validator) (who : List ℕ) (shares : ℕ) (s : Shared) (u : View) (y : Money × Shared × View × Log) : Type 0 where
  pub first : ℕ × Shared × View × Log
  pub ends : ended v s u ≡ Ok first
  pub full : Money
  pub is_full : reward_at (start_of first.1.rewards who v.operator) (periods_of first.1.rewards v.operator) first.0 first.2.ctx.height (value_even_of v.tokens v.shares shares) ≡ Ok full
  pub paid : Money × Purses
  pub pays : paid_out v.operator full first.1.purses ≡ Ok paid
  pub rewards : y.1.rewards ≡ without_start who v.operator first.1.rewards
  pub purses : y.1.purses ≡ paid.1
  pub height : y.2.ctx.height ≡ first.2.ctx.height
  pub logged : y.3 ≡ first.3 ++ (v.operator, withdrawal_entry v who full first.1) ∷ []

abbrev withdrawn_with : Validator → List ℕ → Money → ℕ × Shared × View × Log → Money × Purses → Money × Shared × View × Log
withdrawn_with v who full z r =
    let coins = whole_coins r.0 in
    let to = payee_of z.1 who in (
      coins,
      record z.1 { rewards = without_start who v.operator z.1.rewards; purses = r.1 },
      noted (fact.Paid who v.operator to r.0 coins) (over_facts (pooled_told (fractions r.0)) (paid_to to coins z.2)),
      z.3 ++ (v.operator, withdrawal_entry v who full z.1) ∷ [],
    )

withdrawn_of : (v : Validator) (who : List ℕ) (shares : ℕ) (s : Shared) (u : View) (z : ℕ × Shared × View × Log) (full : Money) (r : Money × Purses) → ended v s u ≡ Ok z
    → reward_at (start_of z.1.rewards who v.operator) (periods_of z.1.rewards v.operator) z.0 z.2.ctx.height (value_even_of v.tokens v.shares shares) ≡ Ok full
    → paid_out v.operator full z.1.purses ≡ Ok r → IsWithdrawn v who shares s u (withdrawn_with v who full z r)
withdrawn_of v who shares s u z full r e f g = record {
  first = z;
  ends = e;
  full = full;
  is_full = f;
  paid = r;
  pays = g;
  rewards = refl;
  purses = refl;
  height = refl;
  logged = refl;
}

pub withdrawn_is : (v : Validator) (who : List ℕ) (shares : ℕ) (s : Shared) (u : View) (y : Money × Shared × View × Log) → reward_withdrawn v who shares s u ≡ Ok y → IsWithdrawn v who shares s u y
withdrawn_is v who shares s u y e =
    let one : (q : Money × Shared × View × Log) × (reward_due v who shares s u ≡ Ok q)
    × ((paid_out v.operator q.0 q.1.purses >>= λ r. Ok (withdrawn_with v who q.0 (0, q.1, q.2, q.3) r)) ≡ Ok y) =
    step_parts (reward_due v who shares s u) (λ q. paid_out v.operator q.0 q.1.purses >>= λ r. Ok (withdrawn_with v who q.0 (0, q.1, q.2, q.3) r)) y e in
    let q : Money × Shared × View × Log = one.0 in
    let due : (z : ℕ × Shared × View × Log) × (ended v s u ≡ Ok z)
    × (reward_at (start_of z.1.rewards who v.operator) (periods_of z.1.rewards v.operator) z.0 z.2.ctx.height (value_even_of v.tokens v.shares shares) ≡ Ok q.0)
    × ((q.0, z.1, z.2, z.3) ≡ q) = due_parts v who shares s u q one.1 in
    let z : ℕ × Shared × View × Log = due.0 in
    let two : (r : Money × Purses) × (paid_out v.operator q.0 q.1.purses ≡ Ok r) × (Path (Result (Money × Shared × View × Log) Over) (Ok (withdrawn_with v who q.0 (0, q.1, q.2, q.3) r)) (Ok y)) =
    step_parts (paid_out v.operator q.0 q.1.purses) (λ r. Ok (withdrawn_with v who q.0 (0, q.1, q.2, q.3) r)) y one.2 in
    let pays : paid_out v.operator q.0 z.1.purses ≡ Ok two.0 = ap (λ p. paid_out v.operator q.0 p.1.purses) due.3 ∙ two.1 in
    let is : withdrawn_with v who q.0 z two.0 ≡ y =
    ap (λ p. withdrawn_with v who p.0 (0, p.1, p.2, p.3) two.0) due.3 ∙ same_end (withdrawn_with v who q.0 (0, q.1, q.2, q.3) two.0) y two.2 in
    subst (λ x. IsWithdrawn v who shares s u x) is (withdrawn_of v who shares s u z q.0 two.0 due.1 due.2 pays)
  where
    same_end : (x y : Money × Shared × View × Log) → Path (Result (Money × Shared × View × Log) Over) (Ok x) (Ok y) → x ≡ y
    same_end x y h = cc

-- ---- accounts behind it

abbrev pub state_behind : State → Money × Shared × View × Log → State
state_behind w y = with_shared y.1 y.2 y.3 w

-- the start is gone from the validator's, and from no other's
pub own_gone : (w : State) (v : Validator) (who : List ℕ) (info : StartingInfo) (r : Rewards) → start_of r who v.operator ≡ Some info
    → IsGoneFrom (starts_in w.mine.staked r v.operator) (starts_in w.mine.staked (without_start who v.operator r) v.operator) (start_with w v who info)
own_gone w v who info r is =
    gone_from (is_at (pair_cmp (v.operator, who))) (λ e. same_addr e.0.0 v.operator) (λ e. start_with w v e.0.1 e.1) (start_with w v who) r.starts info is
    (λ e h. let pair : (v.operator ≡ e.0.0) × (who ≡ e.0.1) = pair_is (v.operator, who) e.0 h in
    (ap (λ o. same_addr o v.operator) (sym pair.0) ∙ own_addr v.operator, λ x. ap (λ q. start_with w v q x) (sym pair.1)))

other_kept : (w : State) (v u : Validator) (who : List ℕ) (r : Rewards) → same_addr v.operator u.operator ≡ false
    → starts_in w.mine.staked (without_start who v.operator r) u.operator ≡ starts_in w.mine.staked r u.operator
other_kept w v u who r apart =
    ap (λ es. map (λ e. start_with w u e.0.1 e.1) es)
    (kept_by (is_at (pair_cmp (v.operator, who))) (λ e. same_addr e.0.0 u.operator) r.starts
    (λ e h. let pair : (v.operator ≡ e.0.0) × (who ≡ e.0.1) = pair_is (v.operator, who) e.0 h in ap (λ o. same_addr o u.operator) (sym pair.0) ∙ apart))

-- the full reward is that of the start
paid_full : (d : List ℕ) (w : State) (v : Validator) (who : List ℕ) (shares : ℕ) (info : StartingInfo) (y : Money × Shared × View × Log) (k : IsWithdrawn v who shares w.hooks.0 w.view y)
    → IsReady w v.operator → delegation w.mine.staked who v.operator ≡ Some shares → start_of w.hooks.0.rewards who v.operator ≡ Some info
    → (i : IsEnded d v w.hooks.0 w.view k.first)
    → (g : IsGoneFrom (starts_in w.mine.staked k.first.1.rewards v.operator) (starts_in w.mine.staked (without_start who v.operator k.first.1.rewards) v.operator) (start_with w v who info))
    → amount_of k.full d ≡ full_of d (account_in d (state_then w k.first) v) (slice_get (account_in d (state_then w k.first) v).starts g.place)
paid_full d w v who shares info y k ready held is i g =
    let b : Account = account_in d (state_then w k.first) v in
    let c : Account = closed_account d w v i.increment i.ratio in
    let before : b ≡ c = closed_is d w v k.first i in
    let full : IsMoney k.full × (amount_of k.full d ≡ reward_now d c (record { who = who; shares = shares; info = info })) = closed_full d w v who shares info k.full k.first i ready is k.is_full in
    full.1 ∙ ap (λ x. reward_now d x (record { who = who; shares = shares; info = info })) (sym before)
    ∙ ap (λ o. reward_now d b (record { who = who; shares = unwrap_or o 0; info = info })) (sym held)
    ∙ ap (λ o. full_of d b o) (sym g.was)

-- the validator of the delegation: its account loses the start, and what is paid
pub paid_account : (d : List ℕ) (w : State) (v : Validator) (who : List ℕ) (shares : ℕ) (info : StartingInfo) (y : Money × Shared × View × Log) (k : IsWithdrawn v who shares w.hooks.0 w.view y)
    → IsReady w v.operator → validator_at w.mine.staked v.operator ≡ Some v → delegation w.mine.staked who v.operator ≡ Some shares → start_of w.hooks.0.rewards who v.operator ≡ Some info
    → (i : IsEnded d v w.hooks.0 w.view k.first)
    → (g : IsGoneFrom (starts_in w.mine.staked k.first.1.rewards v.operator) (starts_in w.mine.staked (without_start who v.operator k.first.1.rewards) v.operator) (start_with w v who info))
    → account_in d (state_behind w y) v
    ≡ account_after d (account_in d (state_then w k.first) v) (deed.payment g.place (payee_of k.first.1 who) k.full (purse_of k.first.1.purses v.operator).outstanding)
paid_account d w v who shares info y k ready found held is i g =
    let op : List ℕ = v.operator in
    let z : ℕ × Shared × View × Log = k.first in
    let a : Account = account_in d (state_behind w y) v in
    let b : Account = account_in d (state_then w z) v in
    let out : Money = (purse_of z.1.purses op).outstanding in
    let entry : LogEntry = withdrawal_entry v who k.full z.1 in
    let c : Account = closed_account d w v i.increment i.ratio in
    let before : b ≡ c = closed_is d w v z i in
    let full : IsMoney k.full × (amount_of k.full d ≡ reward_now d c (record { who = who; shares = shares; info = info })) = closed_full d w v who shares info k.full z i ready is k.is_full in
    let then_purse : purse_of z.1.purses op ≡ i.purse.purse =
    ap (λ es. unwrap_or (at addr_cmp es op) no_purse) i.purse.is ∙ ap (λ o. unwrap_or o no_purse) (put_there op i.purse.purse w.hooks.0.purses.purses) in
    let money : IsMoney (purse_of z.1.purses op).outstanding = subst (λ q. IsMoney q.outstanding) (sym then_purse) i.purse.money in
    let less : PurseLess d op z.1.purses k.full k.paid.1 = purse_less d op z.1.purses k.full k.paid full.0 money k.pays in
    let purse : purse_of y.1.purses op ≡ less.purse =
    ap (λ q. purse_of q op) k.purses ∙ ap (λ es. unwrap_or (at addr_cmp es op) no_purse) less.is ∙ ap (λ o. unwrap_or o no_purse) (put_there op less.purse z.1.purses.purses) in
    let reward : amount_of k.full d ≡ reward_now d b (start_with w v who info) =
    full.1 ∙ ap (λ x. reward_now d x (record { who = who; shares = shares; info = info })) (sym before)
    ∙ ap (λ o. reward_now d b (record { who = who; shares = unwrap_or o 0; info = info })) (sym held) in
    let leaves : min (amount_of k.full d) b.outstanding ≡ payment_of d b (slice_get b.starts g.place) = ap (λ n. min n b.outstanding) reward ∙ ap (λ o. payment_of d b o) (sym g.was) in
    same_account v.tokens v.shares a.height b.height a.current b.current a.commission b.commission a.outstanding (b.outstanding - payment_of d b (slice_get b.starts g.place)) a.periods b.periods a.starts (remove b.starts g.place) a.history
    (b.history ++ log.withdrawn (owner_of (slice_get b.starts g.place)) (payee_of z.1 who) k.full out ∷ [])
    k.height
    (ap (λ q. amount_of q.current d) purse ∙ ap (λ m. amount_of m d) less.current)
    (ap (λ q. amount_of q.commission d) purse ∙ ap (λ m. amount_of m d) less.commission)
    (ap (λ q. amount_of q.outstanding d) purse ∙ less.outstanding ∙ ap (λ n. b.outstanding - n) leaves)
    (ap (λ r. periods_of r op) k.rewards)
    (ap (λ r. starts_in w.mine.staked r op) k.rewards ∙ g.is)
    (ap (λ m. history_of op (w.log ++ m) []) k.logged
    ∙ ap (λ l. history_of op l []) (sym (append_assoc w.log z.3 ((op, entry) ∷ [])))
    ∙ history_behind op (w.log ++ z.3) entry []
    ∙ ap (λ x. b.history ++ log.withdrawn x (payee_of z.1 who) k.full out ∷ []) (sym (ap owner_of g.was)))

-- another validator
other_account : (d : List ℕ) (w : State) (v u : Validator) (who : List ℕ) (shares : ℕ) (y : Money × Shared × View × Log) (k : IsWithdrawn v who shares w.hooks.0 w.view y)
    → IsMoney k.full → IsMoney (purse_of k.first.1.purses v.operator).outstanding
    → same_addr u.operator v.operator ≡ false → same_addr v.operator u.operator ≡ false → account_in d (state_behind w y) u ≡ account_in d (state_then w k.first) u
other_account d w v u who shares y k full money apart apart' =
    let op : List ℕ = u.operator in
    let z : ℕ × Shared × View × Log = k.first in
    let a : Account = account_in d (state_behind w y) u in
    let b : Account = account_in d (state_then w z) u in
    let less : PurseLess d v.operator z.1.purses k.full k.paid.1 = purse_less d v.operator z.1.purses k.full k.paid full money k.pays in
    let entry : LogEntry = withdrawal_entry v who k.full z.1 in
    let purse : purse_of y.1.purses op ≡ purse_of z.1.purses op =
    ap (λ q. purse_of q op) k.purses ∙ ap (λ es. unwrap_or (at addr_cmp es op) no_purse) less.is ∙ ap (λ o. unwrap_or o no_purse) (put_elsewhere v.operator op less.purse z.1.purses.purses apart) in
    same_account u.tokens u.shares a.height b.height a.current b.current a.commission b.commission a.outstanding b.outstanding a.periods b.periods a.starts b.starts a.history b.history
    k.height
    (ap (λ q. amount_of q.current d) purse)
    (ap (λ q. amount_of q.commission d) purse)
    (ap (λ q. amount_of q.outstanding d) purse)
    (ap (λ r. periods_of r op) k.rewards)
    (ap (λ r. starts_in w.mine.staked r op) k.rewards ∙ other_kept w v u who z.1.rewards apart')
    (ap (λ m. history_of op (w.log ++ m) []) k.logged
    ∙ ap (λ l. history_of op l []) (sym (append_assoc w.log z.3 ((v.operator, entry) ∷ [])))
    ∙ history_elsewhere op v.operator (w.log ++ z.3) entry [] apart')

reached_behind : (d : List ℕ) (w : State) (v u : Validator) (who : List ℕ) (shares : ℕ) (y : Money × Shared × View × Log) → IsReady w v.operator → validator_at w.mine.staked v.operator ≡ Some v
    → delegation w.mine.staked who v.operator ≡ Some shares → IsWithdrawn v who shares w.hooks.0 w.view y → AreReached w
    → validator_at w.mine.staked u.operator ≡ Some u → (b : Bool) → same_addr u.operator v.operator ≡ b → IsReached d (account_in d (state_behind w y) u)
reached_behind d w v u who shares y ready found held k reached there true is =
    let z : ℕ × Shared × View × Log = k.first in
    let i : IsEnded d v w.hooks.0 w.view z = end_is d w v z ready k.ends in
    let one : u ≡ v = same_some u v (validator_at w.mine.staked u.operator) (validator_at w.mine.staked v.operator) there found (ap (λ o. validator_at w.mine.staked o) (addr_is u.operator v.operator is)) in
    let some : (info : StartingInfo) × (start_of w.hooks.0.rewards who v.operator ≡ Some info) =
    some_of (start_of w.hooks.0.rewards who v.operator) (ready.starts who ∙ ap is_some held) in
    let still : start_of z.1.rewards who v.operator ≡ Some some.0 = ap (λ r. start_of r who v.operator) i.rewards ∙ some.1 in
    let g : IsGoneFrom (starts_in w.mine.staked z.1.rewards v.operator) (starts_in w.mine.staked (without_start who v.operator z.1.rewards) v.operator) (start_with w v who some.0) = own_gone w v who some.0 z.1.rewards still in
    let before : IsReached d (account_in d (state_then w z) v) = ended_reached w v z ready found k.ends reached d v found in
    subst (λ x. IsReached d (account_in d (state_behind w y) x)) (sym one)
    (subst (λ a. IsReached d a) (sym (paid_account d w v who shares some.0 y k ready found held some.1 i g))
    (deeds_lead_on d (account_in d (state_then w z) v) (deed.payment g.place (payee_of z.1 who) k.full (purse_of z.1.purses v.operator).outstanding ∷ []) before
    (record { within = g.within; full_is = paid_full d w v who shares some.0 y k ready held some.1 i g; outstanding_is = refl }, tt)))
reached_behind d w v u who shares y ready found held k reached there false is =
    let z : ℕ × Shared × View × Log = k.first in
    let i : IsEnded d v w.hooks.0 w.view z = end_is d w v z ready k.ends in
    let ne : u.operator ≢ v.operator = λ h. true_not_false (sym (ap (λ o. same_addr o v.operator) h ∙ own_addr v.operator) ∙ is) in
    let some : (info : StartingInfo) × (start_of w.hooks.0.rewards who v.operator ≡ Some info) =
    some_of (start_of w.hooks.0.rewards who v.operator) (ready.starts who ∙ ap is_some held) in
    let then_purse : purse_of z.1.purses v.operator ≡ i.purse.purse =
    ap (λ es. unwrap_or (at addr_cmp es v.operator) no_purse) i.purse.is ∙ ap (λ o. unwrap_or o no_purse) (put_there v.operator i.purse.purse w.hooks.0.purses.purses) in
    let money : IsMoney (purse_of z.1.purses v.operator).outstanding = subst (λ q. IsMoney q.outstanding) (sym then_purse) i.purse.money in
    subst (λ a. IsReached d a)
    (sym (other_account d w v u who shares y k (closed_full d w v who shares some.0 k.full z i ready some.1 k.is_full).0 money is (other_addr v.operator u.operator (λ h. ne (sym h)))))
    (ended_reached w v z ready found k.ends reached d u there)
  where
    true_not_false : true ≡ false → ⊥
    true_not_false h = cc

pub withdrawn_reached : (w : State) (v : Validator) (who : List ℕ) (shares : ℕ) (y : Money × Shared × View × Log) → IsReady w v.operator → validator_at w.mine.staked v.operator ≡ Some v → delegation w.mine.staked who v.operator ≡ Some shares
    → reward_withdrawn v who shares w.hooks.0 w.view ≡ Ok y → AreReached w → AreReached (state_behind w y)
withdrawn_reached w v who shares y ready found held e reached d u there =
    reached_behind d w v u who shares y ready found held (withdrawn_is v who shares w.hooks.0 w.view y e) reached there (same_addr u.operator v.operator) refl

pub withdrawal_keeps_reached : WithdrawalKeepsReached
withdrawal_keeps_reached = λ w v who shares coins s view more sound found held e reached. withdrawn_reached w v who shares (coins, s, view, more) (ready_in w v.operator sound) found held e reached
