-- The claims of a state are those of its accounts.
use Rattle.std.proofs.Common.{◌≡◌, ℕ, zero, suc, ◌+◌, ◌-◌, ◌*◌, ◌^◌, ◌==◌, ◌<◌, ◌≤◌, Bool, true, false, cond, List, [], ◌∷◌, ◌++◌, map, filter, refl, arith, sym, ap, subst, ◌∙◌, Option, Some, None, Result, Ok, get_or, min, All, unwrap_or, is_some, IfSome, slice_get}
use Rattle.std.{specs.{List.AllByRecursion, BTreeMap.is_at}, proofs.lemmas.Grind.common_steps}
use Rattle.std.proofs.lemmas.{List.Elements.recursion_from_All, Map.Entries.{place_from_lookup, All-lookup}}
use Rattle.base_decimals.specs.{declared.over.Over.Over, Rounding.cut, Decimals.{digits_36, quo_cut_of, period_over}}
use Rattle.base_coins.specs.Coins.{Money, IsMoney, amount_of, coins_added, coins_taken, coins_quo_cut}
use Rattle.base_coins.proofs.{Order.{rises_from_money, money-nil}, Amounts.{amount-all, amount-by, amount-added}}
use Rattle.base_coins.proofs.{Parts.{by_is_money, below_is, zero_quo_cut}, Results.{sum_is_money, taken_is_money}}
use Rattle.base_shares.specs.Shares.{value_even_of}
use Rattle.base_types.specs.Orders.{addr_cmp}
use Rattle.base_roles.specs.declared.entities.{Purse.Purse, StartingInfo.StartingInfo, Validator.Validator}
use Rattle.base_roles.specs.{Entries.{at, with}, Items.no_purse, Log.Log, Orders.{pair_cmp, same_addr}}
use Rattle.base_roles.specs.{Staked.{Staked, validator_at, delegation}, Flow.{◌>>=◌, ◌>>◌, stop_if}}
use Rattle.base_roles.specs.World.{View, noted}
use Rattle.base_roles.specs.declared.facts.Fact.TheVariants as fact
use Rattle.base_roles.specs.Log as log
use Rattle.rule_modules.specs.{Amounts.over_facts, Chain.State, Distribution.{Shared, current_taken, ended, reward_due}}
use Rattle.rule_modules.specs.{Ideal.{Brackets, span_of, history_of, claimed}, Laws.{ClaimIsBracketed, claims_of}}
use Rattle.rule_modules.specs.Periods.{Periods, Rewards, initial_records, periods_of, start_of, with_periods, period_ended, ratio_at, last_ended, reward_of, reward_at}
use Rattle.rule_modules.specs.Purses.{Purses, purse_of, with_purse, pool_joined, current_lost, current_pooled, current_emptied, pooled_told}
use Rattle.rule_modules.specs.Sound.{IsSound}
use Rattle.law_rewards.specs.Account.{Start, Account, IsReached, increment_of, lost_of, period_closed, reward_now}
use Rattle.law_rewards.specs.Laws.{IsStartBracketed, CoversClaims, overclaim}
use Rattle.law_rewards.specs.States.{starts_in, account_in, AreReached}
use Rattle.law_rewards.{specs.StateLaws.{ReachedIsBracketed, ReachedHasShortfallWithin}, proofs.Following.own_addr}
use Rattle.law_rewards.proofs.Denominations.{step_parts, money_at, reward_goes}
use Rattle.law_rewards.proofs.Entries.{pair_is, put_there, one_passes, history_behind}
use Rattle.law_rewards.proofs.Reached.{deeds_lead_on, rewards_are_bracketed, shortfall_is_bounded}
use Rattle.law_rewards.specs.Account as deed

-- ---- what the end of a period gives

quotient_is : (n by m : ℕ) → quo_cut_of n by ≡ Ok m → m ≡ cut (digits_36 n by) (10 ^ 18)
quotient_is n by m e = grind (arith, common_steps)

-- what ending a period takes of the current rewards
abbrev taken_by : Bool → Result (Money × Purses) Over → Purses → Money → ℕ → Result (Money × Money × Purses) Over
taken_by b pooled rest current tokens = cond b (pooled >>= λ p. Ok ([], p.0, p.1)) (coins_quo_cut current (tokens * 10 ^ 18) >>= λ i. Ok (i, [], rest))

taken_some : (d : List ℕ) (pooled : Result (Money × Purses) Over) (rest : Purses) (current : Money) (t : ℕ) (z : Money × Money × Purses) → IsMoney current
    → taken_by false pooled rest current (suc t) ≡ Ok z → IsMoney z.0 × (amount_of z.0 d ≡ increment_of (amount_of current d) (suc t))
taken_some d pooled rest current t z m e =
    let by : ℕ = suc t * 10 ^ 18 in
    let pos : 0 < by = omega arith in
    let p : (i : Money) × (coins_quo_cut current by ≡ Ok i) × (Path (Result (Money × Money × Purses) Over) (Ok (i, [], rest)) (Ok z)) =
    step_parts (coins_quo_cut current by) (λ i. Ok (i, [], rest)) z e in
    let same : p.0 ≡ z.0 = ok_first p.0 z p.2 in
    let money : IsMoney p.0 = by_is_money (λ n. quo_cut_of n by) (λ n k h. below_is _ _ k h) current p.0 m p.1 in
    let amount : amount_of p.0 d ≡ increment_of (amount_of current d) (suc t) =
    quotient_is (amount_of current d) by (amount_of p.0 d) (amount-by (λ n. quo_cut_of n by) (zero_quo_cut by pos) current p.0 d (rises_from_money current m) p.1) in
    (subst IsMoney same money, ap (λ x. amount_of x d) (sym same) ∙ amount)
  where
    ok_first : (i : Money) (z : Money × Money × Purses) → Path (Result (Money × Money × Purses) Over) (Ok (i, [], rest)) (Ok z) → i ≡ z.0
    ok_first i z h = let whole : (i, [], rest) ≡ z = cc in ap (λ x. x.0) whole

taken_none : (d : List ℕ) (pooled : Result (Money × Purses) Over) (rest : Purses) (current : Money) (z : Money × Money × Purses)
    → taken_by true pooled rest current 0 ≡ Ok z → IsMoney z.0 × (amount_of z.0 d ≡ 0)
taken_none d pooled rest current z e =
    let p : (q : Money × Purses) × (pooled ≡ Ok q) × (Path (Result (Money × Money × Purses) Over) (Ok ([], q.0, q.1)) (Ok z)) = step_parts pooled (λ p. Ok ([], p.0, p.1)) z e in
    let same : [] ≡ z.0 = ok_first p.0.0 p.0.1 z p.2 in
    (subst IsMoney same money-nil, ap (λ x. amount_of x d) (sym same))
  where
    ok_first : (l : Money) (q : Purses) (z : Money × Money × Purses) → Path (Result (Money × Money × Purses) Over) (Ok ([], l, q)) (Ok z) → [] ≡ z.0
    ok_first l q z h = let whole : ([], l, q) ≡ z = cc in ap (λ x. x.0) whole

taken_is : (d : List ℕ) (pooled : Result (Money × Purses) Over) (rest : Purses) (current : Money) (tokens : ℕ) (z : Money × Money × Purses) → IsMoney current
    → taken_by (tokens == 0) pooled rest current tokens ≡ Ok z → IsMoney z.0 × (amount_of z.0 d ≡ increment_of (amount_of current d) tokens)
taken_is d pooled rest current zero z m e = taken_none d pooled rest current z e
taken_is d pooled rest current (suc t) z m e =
    let some : (suc t == 0) ≡ false = grind arith in
    taken_some d pooled rest current t z m (subst (λ b. taken_by b pooled rest current (suc t) ≡ Ok z) some e)

-- what it makes of the periods
stop_then : {A : Type 0} (b : Bool) (o : Over) (x z : A) → (stop_if b o >> Ok x) ≡ Ok z → x ≡ z
stop_then true o x z h = absurd cc
stop_then false o x z h = cc

abbrev pub periods_with : Periods → Money → Periods
periods_with p ratio = record { current = p.current + 1; ratios = (p.current, ratio) ∷ p.ratios; events = p.events }

period_parts : (increment : Money) (p : Periods) (z : Money × Periods) → period_ended increment p ≡ Ok z
    → (ratio : Money) × (coins_added (ratio_at p.ratios (p.current - 1)) increment ≡ Ok ratio) × ((ratio, periods_with p ratio) ≡ z)
period_parts increment p z e =
    let q : (ratio : Money) × (coins_added (ratio_at p.ratios (p.current - 1)) increment ≡ Ok ratio) × ((stop_if (p.current == 10 ^ 18) period_over >> Ok (ratio, periods_with p ratio)) ≡ Ok z) =
    step_parts (coins_added (ratio_at p.ratios (p.current - 1)) increment) (λ ratio. stop_if (p.current == 10 ^ 18) period_over >> Ok (ratio, periods_with p ratio)) z e in
    (q.0, q.1, stop_then (p.current == 10 ^ 18) period_over (q.0, periods_with p q.0) z q.2)

-- ---- what stands for an operator

pub if_some : {X : Type 0} (P : X → Type 0) (o : Option X) (y : X) → IfSome o P → P y → P (unwrap_or o y)
if_some P None y h own = own
if_some P (Some x) y h own = h

abbrev pub AreLists : Periods → Type 0
AreLists p = AllByRecursion (λ r. IsMoney r.1) p.ratios

pub lists_at : (w : State) (operator : List ℕ) → IsSound w → AreLists (periods_of w.hooks.0.rewards operator)
lists_at w operator sound =
    if_some AreLists (at addr_cmp w.hooks.0.rewards.periods operator) initial_records
    (All-lookup AreLists (is_at (addr_cmp operator)) w.hooks.0.rewards.periods
    (λ k e h. recursion_from_All (λ r. IsMoney r.1) (get_or w.hooks.0.rewards.periods k e).1.ratios (sound.rewards.periods k e h).lists))
    (money-nil, tt)

pub current_at : (w : State) (operator : List ℕ) → IsSound w → IsMoney (purse_of w.hooks.0.purses operator).current
current_at w operator sound =
    if_some (λ p. IsMoney p.current) (at addr_cmp w.hooks.0.purses.purses operator) no_purse
    (All-lookup (λ p. IsMoney p.current) (is_at (addr_cmp operator)) w.hooks.0.purses.purses (λ k e h. (sound.purses.purses k e h).current))
    money-nil

pub outstanding_at : (w : State) (operator : List ℕ) → IsSound w → IsMoney (purse_of w.hooks.0.purses operator).outstanding
outstanding_at w operator sound =
    if_some (λ p. IsMoney p.outstanding) (at addr_cmp w.hooks.0.purses.purses operator) no_purse
    (All-lookup (λ p. IsMoney p.outstanding) (is_at (addr_cmp operator)) w.hooks.0.purses.purses (λ k e h. (sound.purses.purses k e h).outstanding))
    money-nil

-- what the rules on one validator need of its records
pub record IsReady (w : State) (operator : List ℕ) : Type 0 where
  pub current : IsMoney (purse_of w.hooks.0.purses operator).current
  pub outstanding : IsMoney (purse_of w.hooks.0.purses operator).outstanding
  pub lists : AreLists (periods_of w.hooks.0.rewards operator)
  pub starts : (who : List ℕ) → is_some (start_of w.hooks.0.rewards who operator) ≡ is_some (delegation w.mine.staked who operator)

pub ready_in : (w : State) (operator : List ℕ) → IsSound w → IsReady w operator
ready_in w operator sound = record {
  current = current_at w operator sound;
  outstanding = outstanding_at w operator sound;
  lists = lists_at w operator sound;
  starts = λ who. sound.stands.starts who operator;
}

pub some_of : {X : Type 0} (o : Option X) → is_some o ≡ true → (x : X) × (o ≡ Some x)
some_of None h = absurd cc
some_of (Some x) h = (x, refl)

-- ---- the purse of a validator whose period has ended

pub record PurseThen (d operator : List ℕ) (p : Purses) (tokens : ℕ) (q : Purses) : Type 0 where
  pub purse : Purse
  pub is : q.purses ≡ with addr_cmp p.purses operator purse
  pub none : purse.current ≡ []
  pub commission : purse.commission ≡ (purse_of p operator).commission
  pub money : IsMoney purse.outstanding
  pub outstanding : amount_of purse.outstanding d
      ≡ amount_of (purse_of p operator).outstanding d - lost_of tokens (amount_of (purse_of p operator).current d) (amount_of (purse_of p operator).outstanding d)

purse_with : (d operator : List ℕ) (p : Purses) (tokens : ℕ) (z : Money × Money × Purses) → IsMoney (purse_of p operator).current → IsMoney (purse_of p operator).outstanding
    → taken_by (tokens == 0) (current_pooled operator p) (current_emptied operator p) (purse_of p operator).current tokens ≡ Ok z → PurseThen d operator p tokens z.2
purse_with d operator p zero z current outstanding e =
    let old : Purse = purse_of p operator in
    let lost : Money = current_lost old in
    let less : Purse = record old { outstanding = coins_taken old.outstanding lost; current = [] } in
    let one_pool : (q : Money × Purses) × (current_pooled operator p ≡ Ok q) × (Path (Result (Money × Money × Purses) Over) (Ok ([], q.0, q.1)) (Ok z)) =
    step_parts (current_pooled operator p) (λ q. Ok ([], q.0, q.1)) z e in
    let one_join : (p1 : Purses) × (pool_joined lost (with_purse operator less p) ≡ Ok p1) × (Path (Result (Money × Purses) Over) (Ok (lost, p1)) (Ok one_pool.0)) =
    step_parts (pool_joined lost (with_purse operator less p)) (λ p1. Ok (lost, p1)) one_pool.0 one_pool.1 in
    let one_sum : (pool : Money) × (coins_added p.pool lost ≡ Ok pool) × (Path (Result Purses Over) (Ok (record (with_purse operator less p) { pool = pool })) (Ok one_join.0)) =
    step_parts (coins_added p.pool lost) (λ pool. Ok (record (with_purse operator less p) { pool = pool })) one_join.0 one_join.1 in
    let last : z.2 ≡ record (with_purse operator less p) { pool = one_sum.0 } =
    sym (same_two one_pool.0 z one_pool.2) ∙ sym (same_one lost one_join.0 one_pool.0 one_join.2) ∙ sym (same_zero (record (with_purse operator less p) { pool = one_sum.0 }) one_join.0 one_sum.2) in
    let lost_is : amount_of lost d ≡ min (amount_of old.current d) (amount_of old.outstanding d) =
    amount-all (λ c n. min n (amount_of old.outstanding c)) (λ c. omega arith) old.current d (rises_from_money old.current current) in
    let left_is : amount_of (coins_taken old.outstanding lost) d ≡ amount_of old.outstanding d - amount_of lost d =
    amount-all (λ c n. n - amount_of lost c) (λ c. omega arith) old.outstanding d (rises_from_money old.outstanding outstanding) in record {
      purse = less;
      is = ap (λ q. q.purses) last;
      none = refl;
      commission = refl;
      money = taken_is_money old.outstanding lost outstanding;
      outstanding = left_is ∙ ap (λ n. amount_of old.outstanding d - n) lost_is;
    }
  where
    same_two : (q : Money × Purses) (z : Money × Money × Purses) → Path (Result (Money × Money × Purses) Over) (Ok ([], q.0, q.1)) (Ok z) → q.1 ≡ z.2
    same_two q z h = let whole : ([], q.0, q.1) ≡ z = cc in ap (λ x. x.2) whole

    same_one : (lost : Money) (p1 : Purses) (q : Money × Purses) → Path (Result (Money × Purses) Over) (Ok (lost, p1)) (Ok q) → p1 ≡ q.1
    same_one lost p1 q h = let whole : (lost, p1) ≡ q = cc in ap (λ x. x.1) whole

    same_zero : (x y : Purses) → Path (Result Purses Over) (Ok x) (Ok y) → x ≡ y
    same_zero x y h = cc
purse_with d operator p (suc t) z current outstanding e =
    let some : (suc t == 0) ≡ false = grind arith in
    let f : taken_by false (current_pooled operator p) (current_emptied operator p) (purse_of p operator).current (suc t) ≡ Ok z =
    subst (λ b. taken_by b (current_pooled operator p) (current_emptied operator p) (purse_of p operator).current (suc t) ≡ Ok z) some e in
    let one_part : (i : Money) × (coins_quo_cut (purse_of p operator).current (suc t * 10 ^ 18) ≡ Ok i) × (Path (Result (Money × Money × Purses) Over) (Ok (i, [], current_emptied operator p)) (Ok z)) =
    step_parts (coins_quo_cut (purse_of p operator).current (suc t * 10 ^ 18)) (λ i. Ok (i, [], current_emptied operator p)) z f in
    let last : current_emptied operator p ≡ z.2 = same_two one_part.0 (current_emptied operator p) z one_part.2 in record {
      purse = record (purse_of p operator) { current = [] };
      is = ap (λ q. q.purses) (sym last);
      none = refl;
      commission = refl;
      money = outstanding;
      outstanding = omega arith;
    }
  where
    same_two : (i : Money) (q : Purses) (z : Money × Money × Purses) → Path (Result (Money × Money × Purses) Over) (Ok (i, [], q)) (Ok z) → q ≡ z.2
    same_two i q z h = let whole : (i, [], q) ≡ z = cc in ap (λ x. x.2) whole

-- ---- the end of a period, in one denomination

pub record IsEnded (d : List ℕ) (val : Validator) (s : Shared) (v : View) (z : ℕ × Shared × View × Log) : Type 0 where
  pub increment : Money
  pub ratio : Money
  pub increment_is : amount_of increment d ≡ increment_of (amount_of (purse_of s.purses val.operator).current d) val.tokens
  pub ratio_is : amount_of ratio d ≡ amount_of (ratio_at (periods_of s.rewards val.operator).ratios (last_ended (periods_of s.rewards val.operator))) d + amount_of increment d
  pub ratio_money : IsMoney ratio
  pub period : z.0 ≡ last_ended (periods_with (periods_of s.rewards val.operator) ratio)
  pub rewards : z.1.rewards ≡ with_periods val.operator (periods_with (periods_of s.rewards val.operator) ratio) s.rewards
  pub purse : PurseThen d val.operator s.purses val.tokens z.1.purses
  pub height : z.2.ctx.height ≡ v.ctx.height
  pub payees : z.1.withdraw ≡ s.withdraw
  pub logged : z.3 ≡ (val.operator, log.ended (last_ended (periods_with (periods_of s.rewards val.operator) ratio)) increment val.tokens) ∷ []

-- what is left of it, told by the new ratio and the new periods
abbrev ended_with : Validator → Shared → View → Money × Money × Purses → Money × Periods → ℕ × Shared × View × Log
ended_with val s v t r = (
  last_ended r.1,
  record s { rewards = with_periods val.operator r.1 s.rewards; purses = t.2 },
  noted (fact.Period val.operator (last_ended r.1) r.0) (over_facts (pooled_told t.1) v),
  (val.operator, log.ended (last_ended r.1) t.0 val.tokens) ∷ [],
)

ended_of : (d : List ℕ) (val : Validator) (s : Shared) (v : View) (t : Money × Money × Purses) (ratio : Money)
    → amount_of t.0 d ≡ increment_of (amount_of (purse_of s.purses val.operator).current d) val.tokens
    → amount_of ratio d ≡ amount_of (ratio_at (periods_of s.rewards val.operator).ratios (last_ended (periods_of s.rewards val.operator))) d + amount_of t.0 d
    → IsMoney ratio → PurseThen d val.operator s.purses val.tokens t.2 → IsEnded d val s v (ended_with val s v t (ratio, periods_with (periods_of s.rewards val.operator) ratio))
ended_of d val s v t ratio increment_is ratio_is money purse = record {
  increment = t.0;
  ratio = ratio;
  increment_is = increment_is;
  ratio_is = ratio_is;
  ratio_money = money;
  period = refl;
  rewards = refl;
  purse = purse;
  height = refl;
  payees = refl;
  logged = refl;
}

pub ended_is : (d : List ℕ) (val : Validator) (s : Shared) (v : View) (z : ℕ × Shared × View × Log) → IsMoney (purse_of s.purses val.operator).current → IsMoney (purse_of s.purses val.operator).outstanding → AreLists (periods_of s.rewards val.operator)
    → ended val s v ≡ Ok z → IsEnded d val s v z
ended_is d val s v z current outstanding lists e =
    let ps : Periods = periods_of s.rewards val.operator in
    let purse : Purse = purse_of s.purses val.operator in
    let one_take : (t : Money × Money × Purses) × (current_taken val s.purses ≡ Ok t) × ((period_ended t.0 ps >>= λ r. Ok (ended_with val s v t r)) ≡ Ok z) =
    step_parts (current_taken val s.purses) (λ t. period_ended t.0 ps >>= λ r. Ok (ended_with val s v t r)) z e in
    let t : Money × Money × Purses = one_take.0 in
    let taken : IsMoney t.0 × (amount_of t.0 d ≡ increment_of (amount_of purse.current d) val.tokens) =
    taken_is d (current_pooled val.operator s.purses) (current_emptied val.operator s.purses) purse.current val.tokens t current one_take.1 in
    let one_end : (r : Money × Periods) × (period_ended t.0 ps ≡ Ok r) × (Path (Result (ℕ × Shared × View × Log) Over) (Ok (ended_with val s v t r)) (Ok z)) =
    step_parts (period_ended t.0 ps) (λ r. Ok (ended_with val s v t r)) z one_take.2 in
    let parts : (ratio : Money) × (coins_added (ratio_at ps.ratios (ps.current - 1)) t.0 ≡ Ok ratio) × ((ratio, periods_with ps ratio) ≡ one_end.0) = period_parts t.0 ps one_end.0 one_end.1 in
    let ratio : Money = parts.0 in
    let old : IsMoney (ratio_at ps.ratios (ps.current - 1)) = money_at ps.ratios lists (ps.current - 1) in
    let whole : ended_with val s v t (ratio, periods_with ps ratio) ≡ z = ap (ended_with val s v t) parts.2 ∙ same_z (ended_with val s v t one_end.0) z one_end.2 in
    subst (λ x. IsEnded d val s v x) whole (ended_of d val s v t ratio taken.1
    (amount-added (ratio_at ps.ratios (ps.current - 1)) t.0 ratio d (rises_from_money (ratio_at ps.ratios (ps.current - 1)) old) (rises_from_money t.0 taken.0) parts.1)
    (sum_is_money (ratio_at ps.ratios (ps.current - 1)) t.0 ratio old taken.0 parts.1)
    (purse_with d val.operator s.purses val.tokens t current outstanding one_take.1))
  where
    same_z : (x y : ℕ × Shared × View × Log) → Path (Result (ℕ × Shared × View × Log) Over) (Ok x) (Ok y) → x ≡ y
    same_z x y h = cc

-- ---- the claim of a delegation

-- the start of a delegation, in the account
abbrev pub start_with : State → Validator → List ℕ → StartingInfo → Start
start_with w v who info = record { who = who; shares = unwrap_or (delegation w.mine.staked who v.operator) 0; info = info }

pub own_start : (w : State) (v : Validator) (who : List ℕ) (info : StartingInfo) (P : Start → Type 0) → start_of w.hooks.0.rewards who v.operator ≡ Some info
    → AllByRecursion P (starts_in w.mine.staked w.hooks.0.rewards v.operator) → P (start_with w v who info)
own_start w v who info P is each =
    let starts : List ((List ℕ × List ℕ) × StartingInfo) = w.hooks.0.rewards.starts in
    let place : (i : ℕ) × (k : List ℕ × List ℕ) × (slice_get starts i ≡ Some (k, info)) × (is_at (pair_cmp (v.operator, who)) k ≡ true) = place_from_lookup (is_at (pair_cmp (v.operator, who))) starts info is in
    let k : List ℕ × List ℕ = place.1 in
    let pair : (v.operator ≡ k.0) × (who ≡ k.1) = pair_is (v.operator, who) k place.3 in
    let passes : same_addr k.0 v.operator ≡ true = ap (λ o. same_addr o v.operator) (sym pair.0) ∙ own_addr v.operator in
    let there : P (start_with w v k.1 info) =
    one_passes P (λ e. start_with w v e.0.1 e.1) (λ e. same_addr e.0.0 v.operator) place.0 starts (k, info) place.2 passes each in
    subst (λ y. P (start_with w v y info)) (sym pair.1) there

-- what is left where the period has ended
abbrev pub closed_account : List ℕ → State → Validator → Money → Money → Account
closed_account d w v increment ratio = period_closed increment ratio (account_in d w v)

closed_reached : (d : List ℕ) (w : State) (v : Validator) (z : ℕ × Shared × View × Log) (k : IsEnded d v w.hooks.0 w.view z) → IsReached d (account_in d w v)
    → All (IsStartBracketed d (closed_account d w v k.increment k.ratio)) (starts_in w.mine.staked w.hooks.0.rewards v.operator)
closed_reached d w v z k reached =
    let a : Account = account_in d w v in
    rewards_are_bracketed d (closed_account d w v k.increment k.ratio)
    (deeds_lead_on d a (deed.ending k.increment k.ratio ∷ []) reached (record { increment_is = k.increment_is; ratio_is = k.ratio_is }, tt)) refl

-- the history up to the end of the period
pub closed_history : (d : List ℕ) (w : State) (v : Validator) (z : ℕ × Shared × View × Log) (k : IsEnded d v w.hooks.0 w.view z)
    → history_of v.operator (w.log ++ z.3) [] ≡ (closed_account d w v k.increment k.ratio).history
closed_history d w v z k =
    let ps : Periods = periods_of w.hooks.0.rewards v.operator in
    ap (λ more. history_of v.operator (w.log ++ more) []) k.logged
    ∙ history_behind v.operator w.log (log.ended (ps.current + 1 - 1) k.increment v.tokens) []
    ∙ ap (λ n. history_of v.operator w.log [] ++ log.ended n k.increment v.tokens ∷ []) (omega arith)

-- the reward up to the end of the period
pub closed_full : (d : List ℕ) (w : State) (v : Validator) (who : List ℕ) (shares : ℕ) (info : StartingInfo) (full : Money) (z : ℕ × Shared × View × Log) (k : IsEnded d v w.hooks.0 w.view z)
    → IsReady w v.operator → start_of w.hooks.0.rewards who v.operator ≡ Some info
    → reward_at (start_of z.1.rewards who v.operator) (periods_of z.1.rewards v.operator) z.0 z.2.ctx.height (value_even_of v.tokens v.shares shares) ≡ Ok full
    → IsMoney full × (amount_of full d ≡ reward_now d (closed_account d w v k.increment k.ratio) (record { who = who; shares = shares; info = info }))
closed_full d w v who shares info full z k ready is e =
    let ps : Periods = periods_of w.hooks.0.rewards v.operator in
    let qs : Periods = periods_with ps k.ratio in
    let value : ℕ = value_even_of v.tokens v.shares shares in
    let start : start_of z.1.rewards who v.operator ≡ Some info = ap (λ r. start_of r who v.operator) k.rewards ∙ is in
    let periods : periods_of z.1.rewards v.operator ≡ qs = ap (λ r. periods_of r v.operator) k.rewards ∙ ap (λ o. unwrap_or o initial_records) (put_there v.operator qs w.hooks.0.rewards.periods) in
    let own : reward_of info qs (last_ended qs) w.view.ctx.height value ≡ Ok full =
    ap (λ o. reward_at o qs (last_ended qs) w.view.ctx.height value) (sym start)
    ∙ ap (λ q. reward_at (start_of z.1.rewards who v.operator) q (last_ended qs) w.view.ctx.height value) (sym periods)
    ∙ ap (λ n. reward_at (start_of z.1.rewards who v.operator) (periods_of z.1.rewards v.operator) n w.view.ctx.height value) (sym k.period)
    ∙ ap (λ n. reward_at (start_of z.1.rewards who v.operator) (periods_of z.1.rewards v.operator) z.0 n value) (sym k.height)
    ∙ e in
    reward_goes d info qs (last_ended qs) w.view.ctx.height value full (k.ratio_money, ready.lists) own

pub closed_reward : (d : List ℕ) (w : State) (v : Validator) (who : List ℕ) (shares : ℕ) (info : StartingInfo) (full : Money) (z : ℕ × Shared × View × Log) (k : IsEnded d v w.hooks.0 w.view z)
    → IsReady w v.operator → start_of w.hooks.0.rewards who v.operator ≡ Some info
    → reward_at (start_of z.1.rewards who v.operator) (periods_of z.1.rewards v.operator) z.0 z.2.ctx.height (value_even_of v.tokens v.shares shares) ≡ Ok full
    → amount_of full d ≡ reward_now d (closed_account d w v k.increment k.ratio) (record { who = who; shares = shares; info = info })
closed_reward d w v who shares info full z k ready is e = (closed_full d w v who shares info full z k ready is e).1

-- how a withdrawal begins: the period's end, and the reward up to it
pub due_parts : (v : Validator) (who : List ℕ) (shares : ℕ) (s : Shared) (u : View) (y : Money × Shared × View × Log) → reward_due v who shares s u ≡ Ok y
    → (z : ℕ × Shared × View × Log) × (ended v s u ≡ Ok z)
    × (reward_at (start_of z.1.rewards who v.operator) (periods_of z.1.rewards v.operator) z.0 z.2.ctx.height (value_even_of v.tokens v.shares shares) ≡ Ok y.0)
    × ((y.0, z.1, z.2, z.3) ≡ y)
due_parts v who shares s u y e =
    let value : ℕ = value_even_of v.tokens v.shares shares in
    let one : (z : ℕ × Shared × View × Log) × (ended v s u ≡ Ok z)
    × ((reward_at (start_of z.1.rewards who v.operator) (periods_of z.1.rewards v.operator) z.0 z.2.ctx.height value >>= λ f. Ok (f, z.1, z.2, z.3)) ≡ Ok y) =
    step_parts (ended v s u) (λ z. reward_at (start_of z.1.rewards who v.operator) (periods_of z.1.rewards v.operator) z.0 z.2.ctx.height value >>= λ f. Ok (f, z.1, z.2, z.3)) y e in
    let z : ℕ × Shared × View × Log = one.0 in
    let two : (f : Money) × (reward_at (start_of z.1.rewards who v.operator) (periods_of z.1.rewards v.operator) z.0 z.2.ctx.height value ≡ Ok f)
    × (Path (Result (Money × Shared × View × Log) Over) (Ok (f, z.1, z.2, z.3)) (Ok y)) =
    step_parts (reward_at (start_of z.1.rewards who v.operator) (periods_of z.1.rewards v.operator) z.0 z.2.ctx.height value) (λ f. Ok (f, z.1, z.2, z.3)) y one.2 in
    let same : (two.0, z.1, z.2, z.3) ≡ y = same_due (two.0, z.1, z.2, z.3) y two.2 in
    (z, one.1, two.1 ∙ ap (λ p. Ok p.0) same, ap (λ p. (p.0, z.1, z.2, z.3)) (sym same) ∙ same)
  where
    same_due : (x y : Money × Shared × View × Log) → Path (Result (Money × Shared × View × Log) Over) (Ok x) (Ok y) → x ≡ y
    same_due x y h = cc

pub claim_parts : (w : State) (v : Validator) (who : List ℕ) (shares : ℕ) (full : Money) (l : Log) → claimed v who shares w.hooks.0 w.view w.log ≡ Ok (full, l)
    → (z : ℕ × Shared × View × Log) × (ended v w.hooks.0 w.view ≡ Ok z)
    × (reward_at (start_of z.1.rewards who v.operator) (periods_of z.1.rewards v.operator) z.0 z.2.ctx.height (value_even_of v.tokens v.shares shares) ≡ Ok full)
    × (w.log ++ z.3 ≡ l)
claim_parts w v who shares full l e =
    let one : (q : Money × Shared × View × Log) × (reward_due v who shares w.hooks.0 w.view ≡ Ok q) × (Path (Result (Money × Log) Over) (Ok (q.0, w.log ++ q.3)) (Ok (full, l))) =
    step_parts (reward_due v who shares w.hooks.0 w.view) (λ q. Ok (q.0, w.log ++ q.3)) (full, l) e in
    let q : Money × Shared × View × Log = one.0 in
    let due : (z : ℕ × Shared × View × Log) × (ended v w.hooks.0 w.view ≡ Ok z)
    × (reward_at (start_of z.1.rewards who v.operator) (periods_of z.1.rewards v.operator) z.0 z.2.ctx.height (value_even_of v.tokens v.shares shares) ≡ Ok q.0)
    × ((q.0, z.1, z.2, z.3) ≡ q) = due_parts v who shares w.hooks.0 w.view q one.1 in
    let same : (q.0, w.log ++ q.3) ≡ (full, l) = same_pair (q.0, w.log ++ q.3) (full, l) one.2 in
    (due.0, due.1, due.2 ∙ ap (λ p. Ok p.0) same, ap (λ p. w.log ++ p.3) due.3 ∙ ap (λ p. p.1) same)
  where
    same_pair : (x y : Money × Log) → Path (Result (Money × Log) Over) (Ok x) (Ok y) → x ≡ y
    same_pair x y h = cc

claim_bracketed : (w : State) → IsSound w → AreReached w → (d who : List ℕ) (v : Validator) (shares : ℕ) → validator_at w.mine.staked v.operator ≡ Some v
    → delegation w.mine.staked who v.operator ≡ Some shares → ClaimIsBracketed d w who v shares
claim_bracketed w sound reached d who v shares found held full l claim =
    let parts : (z : ℕ × Shared × View × Log) × (ended v w.hooks.0 w.view ≡ Ok z)
    × (reward_at (start_of z.1.rewards who v.operator) (periods_of z.1.rewards v.operator) z.0 z.2.ctx.height (value_even_of v.tokens v.shares shares) ≡ Ok full)
    × (w.log ++ z.3 ≡ l) = claim_parts w v who shares full l claim in
    let z : ℕ × Shared × View × Log = parts.0 in
    let k : IsEnded d v w.hooks.0 w.view z = ended_is d v w.hooks.0 w.view z (current_at w v.operator sound) (outstanding_at w v.operator sound) (lists_at w v.operator sound) parts.1 in
    let a : Account = closed_account d w v k.increment k.ratio in
    let some : (info : StartingInfo) × (start_of w.hooks.0.rewards who v.operator ≡ Some info) =
    some_of (start_of w.hooks.0.rewards who v.operator) (sound.stands.starts who v.operator ∙ ap is_some held) in
    let info : StartingInfo = some.0 in
    let listed : IsStartBracketed d a (start_with w v who info) =
    own_start w v who info (IsStartBracketed d a) some.1 (recursion_from_All (IsStartBracketed d a) (starts_in w.mine.staked w.hooks.0.rewards v.operator) (closed_reached d w v z k (reached d v found))) in
    let own : IsStartBracketed d a (record { who = who; shares = shares; info = info }) =
    subst (λ n. IsStartBracketed d a (record { who = who; shares = n; info = info })) (ap (λ o. unwrap_or o 0) held) listed in
    let history : history_of v.operator l [] ≡ a.history = ap (λ m. history_of v.operator m []) (sym parts.3) ∙ closed_history d w v z k in
    let amount : amount_of full d ≡ reward_now d a (record { who = who; shares = shares; info = info }) = closed_reward d w v who shares info full z k (ready_in w v.operator sound) some.1 parts.2 in
    (own.span, ap (λ es. span_of who es None) history ∙ own.is, subst (λ n. Brackets d own.span n) (sym amount) own.brackets)

pub reached_is_bracketed : ReachedIsBracketed
reached_is_bracketed = λ w sound reached d who v shares found held. claim_bracketed w sound reached d who v shares found held

-- ---- the shortfall

infos_of : (s : Staked) (operator : List ℕ) (es : List ((List ℕ × List ℕ) × StartingInfo))
    → map (λ t. t.info) (map (λ e. let out : Start = record { who = e.0.1; shares = unwrap_or (delegation s e.0.1 operator) 0; info = e.1 } in out) es) ≡ map (λ e. e.1) es
infos_of s operator [] = refl
infos_of s operator (e ∷ es) = ap (λ xs. e.1 ∷ xs) (infos_of s operator es)

pub reached_has_shortfall_within : ReachedHasShortfallWithin
reached_has_shortfall_within = λ w reached d v found.
    let r : Rewards = w.hooks.0.rewards in
    let p : Periods = periods_of r v.operator in
    let a : Account = account_in d w v in
    let covers : CoversClaims d a = shortfall_is_bounded d a (reached d v found) in
    subst (λ ss. 10 ^ 18 * (a.commission + a.current) + claims_of d p ss ≤ 10 ^ 18 * a.outstanding + overclaim d a)
    (infos_of w.mine.staked v.operator (filter (λ e. same_addr e.0.0 v.operator) r.starts)) covers
