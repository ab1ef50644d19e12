-- The end of a validator's period, as a step of a state, is its deed; every other account stays.
use Rattle.std.proofs.Common.{◌≡◌, ℕ, ◌-◌, ◌*◌, ◌^◌, ◌≤◌, ◌≢◌, Bool, true, false, List, [], ◌∷◌, ◌++◌, refl, arith, sym, ap, subst, ◌∙◌, Option, Some, Result, Ok, unwrap_or, is_some}
use Rattle.std.proofs.lemmas.List.Elements.{recursion_from_All}
use Rattle.base_decimals.specs.declared.over.Over.{Over}
use Rattle.base_types.specs.Orders.{addr_cmp}
use Rattle.base_coins.specs.Coins.{amount_of}
use Rattle.base_shares.specs.Shares.{value_even_of}
use Rattle.base_roles.specs.{declared.entities.{StartingInfo.StartingInfo, Validator.Validator}, Entries.at}
use Rattle.base_roles.specs.{Items.no_purse, Log.{Log, LogEntry}, Orders.same_addr, Staked.{validator_at, delegation}}
use Rattle.base_roles.specs.World.{View}
use Rattle.base_roles.specs.Log as log
use Rattle.rule_modules.specs.{Chain.{State, with_shared}, Distribution.{Shared, ended}}
use Rattle.rule_modules.specs.Ideal.{history_of, overclaim_of}
use Rattle.rule_modules.specs.Periods.{Periods, initial_records, periods_of, start_of, ratio_at, last_ended, reward_at}
use Rattle.rule_modules.specs.{Purses.purse_of, Sound.IsSound}
use Rattle.law_rewards.specs.Account.{Start, Account, IsReached, period_closed, reward_now}
use Rattle.law_rewards.specs.{Laws.{IsCutWithin, overclaim}, States.{starts_in, account_in, AreReached}}
use Rattle.law_rewards.specs.StateLaws.{IsClaimCutWithin, ReachedIsCutWithin, NextBlockKeepsReached, EndKeepsReached}
use Rattle.law_rewards.proofs.Following.{own_addr, other_addr}
use Rattle.law_rewards.proofs.Entries.{addr_is, put_there, put_elsewhere, history_elsewhere}
use Rattle.law_rewards.proofs.Reached.{deeds_lead_on, cut_is_bounded}
use Rattle.law_rewards.proofs.Claims.{IsReady, ready_in, IsEnded, ended_is, periods_with, closed_account, closed_history, closed_reward, some_of, start_with, own_start, claim_parts}
use Rattle.law_rewards.specs.Account as deed

-- ---- accounts that agree field by field

abbrev pub account_with : ℕ → ℕ → ℕ → ℕ → ℕ → ℕ → Periods → List Start → List LogEntry → Account
account_with tokens shares height current commission outstanding periods starts history = record {
  height = height;
  tokens = tokens;
  shares = shares;
  current = current;
  commission = commission;
  outstanding = outstanding;
  periods = periods;
  starts = starts;
  history = history;
}

pub same_account : (tokens shares h h' c c' m m' o o' : ℕ) (p p' : Periods) (ss ss' : List Start) (es es' : List LogEntry) → h ≡ h' → c ≡ c' → m ≡ m' → o ≡ o' → p ≡ p' → ss ≡ ss' → es ≡ es'
    → account_with tokens shares h c m o p ss es ≡ account_with tokens shares h' c' m' o' p' ss' es'
same_account tokens shares h h' c c' m m' o o' p p' ss ss' es es' eh ec em eo ep es1 eh1 =
    ap (λ x. account_with tokens shares x c m o p ss es) eh
    ∙ ap (λ x. account_with tokens shares h' x m o p ss es) ec
    ∙ ap (λ x. account_with tokens shares h' c' x o p ss es) em
    ∙ ap (λ x. account_with tokens shares h' c' m' x p ss es) eo
    ∙ ap (λ x. account_with tokens shares h' c' m' o' x ss es) ep
    ∙ ap (λ x. account_with tokens shares h' c' m' o' p' x es) es1
    ∙ ap (λ x. account_with tokens shares h' c' m' o' p' ss' x) eh1

abbrev pub state_then : State → ℕ × Shared × View × Log → State
state_then w z = with_shared z.1 z.2 z.3 w

-- the validator whose period ended
pub closed_is : (d : List ℕ) (w : State) (v : Validator) (z : ℕ × Shared × View × Log) (k : IsEnded d v w.hooks.0 w.view z)
    → account_in d (state_then w z) v ≡ closed_account d w v k.increment k.ratio
closed_is d w v z k =
    let op : List ℕ = v.operator in
    let a : Account = account_in d (state_then w z) v in
    let b : Account = closed_account d w v k.increment k.ratio in
    let purse : purse_of z.1.purses op ≡ k.purse.purse =
    ap (λ es. unwrap_or (at addr_cmp es op) no_purse) k.purse.is ∙ ap (λ o. unwrap_or o no_purse) (put_there op k.purse.purse w.hooks.0.purses.purses) in
    let periods : periods_of z.1.rewards op ≡ b.periods =
    ap (λ r. periods_of r op) k.rewards ∙ ap (λ o. unwrap_or o initial_records) (put_there op b.periods w.hooks.0.rewards.periods) in
    same_account v.tokens v.shares a.height b.height a.current b.current a.commission b.commission a.outstanding b.outstanding a.periods b.periods a.starts b.starts a.history b.history
    k.height
    (ap (λ q. amount_of q.current d) purse ∙ ap (λ m. amount_of m d) k.purse.none)
    (ap (λ q. amount_of q.commission d) purse ∙ ap (λ m. amount_of m d) k.purse.commission)
    (ap (λ q. amount_of q.outstanding d) purse ∙ k.purse.outstanding)
    periods
    (ap (λ r. starts_in w.mine.staked r op) k.rewards)
    (closed_history d w v z k)

-- another validator
other_is : (d : List ℕ) (w : State) (v u : Validator) (z : ℕ × Shared × View × Log) (k : IsEnded d v w.hooks.0 w.view z) → same_addr u.operator v.operator ≡ false → same_addr v.operator u.operator ≡ false
    → account_in d (state_then w z) u ≡ account_in d w u
other_is d w v u z k apart apart' =
    let op : List ℕ = u.operator in
    let a : Account = account_in d (state_then w z) u in
    let b : Account = account_in d w u in
    let ps : Periods = periods_with (periods_of w.hooks.0.rewards v.operator) k.ratio in
    let purse : purse_of z.1.purses op ≡ purse_of w.hooks.0.purses op =
    ap (λ es. unwrap_or (at addr_cmp es op) no_purse) k.purse.is ∙ ap (λ o. unwrap_or o no_purse) (put_elsewhere v.operator op k.purse.purse w.hooks.0.purses.purses apart) in
    let periods : periods_of z.1.rewards op ≡ b.periods =
    ap (λ r. periods_of r op) k.rewards ∙ ap (λ o. unwrap_or o initial_records) (put_elsewhere v.operator op ps w.hooks.0.rewards.periods apart) in
    let entry : LogEntry = log.ended (last_ended ps) k.increment v.tokens in
    same_account u.tokens u.shares a.height b.height a.current b.current a.commission b.commission a.outstanding b.outstanding a.periods b.periods a.starts b.starts a.history b.history
    k.height
    (ap (λ q. amount_of q.current d) purse)
    (ap (λ q. amount_of q.commission d) purse)
    (ap (λ q. amount_of q.outstanding d) purse)
    periods
    (ap (λ r. starts_in w.mine.staked r op) k.rewards)
    (ap (λ m. history_of op (w.log ++ m) []) k.logged ∙ history_elsewhere op v.operator w.log entry [] apart')

-- ---- the steps

pub next_block_keeps_reached : NextBlockKeepsReached
next_block_keeps_reached = λ w height time later reached d v found. deeds_lead_on d (account_in d w v) (deed.block height ∷ []) (reached d v found) (later, tt)

pub same_some : (u v : Validator) (o p : Option Validator) → o ≡ Some u → p ≡ Some v → o ≡ p → u ≡ v
same_some u v o p e f g = let both : Path (Option Validator) (Some u) (Some v) = sym e ∙ g ∙ f in cc

closed_reached_at : (d : List ℕ) (w : State) (v : Validator) (z : ℕ × Shared × View × Log) (k : IsEnded d v w.hooks.0 w.view z) → IsReached d (account_in d w v)
    → IsReached d (closed_account d w v k.increment k.ratio)
closed_reached_at d w v z k reached =
    deeds_lead_on d (account_in d w v) (deed.ending k.increment k.ratio ∷ []) reached (record { increment_is = k.increment_is; ratio_is = k.ratio_is }, tt)

pub end_is : (d : List ℕ) (w : State) (v : Validator) (z : ℕ × Shared × View × Log) → IsReady w v.operator → ended v w.hooks.0 w.view ≡ Ok z → IsEnded d v w.hooks.0 w.view z
end_is d w v z ready e = ended_is d v w.hooks.0 w.view z ready.current ready.outstanding ready.lists e

reached_then : (d : List ℕ) (w : State) (v u : Validator) (z : ℕ × Shared × View × Log) → IsReady w v.operator → validator_at w.mine.staked v.operator ≡ Some v → ended v w.hooks.0 w.view ≡ Ok z → AreReached w
    → validator_at w.mine.staked u.operator ≡ Some u → (b : Bool) → same_addr u.operator v.operator ≡ b → IsReached d (account_in d (state_then w z) u)
reached_then d w v u z ready found e reached there true is =
    let op : u.operator ≡ v.operator = addr_is u.operator v.operator is in
    let one : u ≡ v = same_some u v (validator_at w.mine.staked u.operator) (validator_at w.mine.staked v.operator) there found (ap (λ o. validator_at w.mine.staked o) op) in
    let k : IsEnded d v w.hooks.0 w.view z = end_is d w v z ready e in
    subst (λ x. IsReached d (account_in d (state_then w z) x)) (sym one)
    (subst (λ a. IsReached d a) (sym (closed_is d w v z k)) (closed_reached_at d w v z k (reached d v found)))
reached_then d w v u z ready found e reached there false is =
    let ne : u.operator ≢ v.operator = λ h. true_not_false (sym (ap (λ o. same_addr o v.operator) h ∙ own_addr v.operator) ∙ is) in
    let k : IsEnded d v w.hooks.0 w.view z = end_is d w v z ready e in
    subst (λ a. IsReached d a) (sym (other_is d w v u z k is (other_addr v.operator u.operator (λ h. ne (sym h))))) (reached d u there)
  where
    true_not_false : true ≡ false → ⊥
    true_not_false h = cc

pub ended_reached : (w : State) (v : Validator) (z : ℕ × Shared × View × Log) → IsReady w v.operator → validator_at w.mine.staked v.operator ≡ Some v → ended v w.hooks.0 w.view ≡ Ok z → AreReached w → AreReached (state_then w z)
ended_reached w v z ready found e reached d u there = reached_then d w v u z ready found e reached there (same_addr u.operator v.operator) refl

pub end_keeps_reached : EndKeepsReached
end_keeps_reached = λ w v period s view more sound found e reached. ended_reached w v (period, s, view, more) (ready_in w v.operator sound) found e reached

-- ---- what an exhausted outstanding record cuts

claim_cut : (w : State) → IsSound w → AreReached w → (d who : List ℕ) (v : Validator) (shares : ℕ) → validator_at w.mine.staked v.operator ≡ Some v
    → delegation w.mine.staked who v.operator ≡ Some shares → IsClaimCutWithin d w who v shares
claim_cut w sound reached d who v shares found held full l more period s view claim end =
    let z : ℕ × Shared × View × Log = (period, s, view, more) in
    let parts : (y : ℕ × Shared × View × Log) × (ended v w.hooks.0 w.view ≡ Ok y)
    × (reward_at (start_of y.1.rewards who v.operator) (periods_of y.1.rewards v.operator) y.0 y.2.ctx.height (value_even_of v.tokens v.shares shares) ≡ Ok full)
    × (w.log ++ y.3 ≡ l) = claim_parts w v who shares full l claim in
    let same : parts.0 ≡ z = same_end parts.0 z (sym parts.1 ∙ end) in
    let reward : reward_at (start_of s.rewards who v.operator) (periods_of s.rewards v.operator) period view.ctx.height (value_even_of v.tokens v.shares shares) ≡ Ok full =
    subst (λ y. reward_at (start_of y.1.rewards who v.operator) (periods_of y.1.rewards v.operator) y.0 y.2.ctx.height (value_even_of v.tokens v.shares shares) ≡ Ok full) same parts.2 in
    let logged : w.log ++ more ≡ l = ap (λ y. w.log ++ y.3) (sym same) ∙ parts.3 in
    let k : IsEnded d v w.hooks.0 w.view z = end_is d w v z (ready_in w v.operator sound) end in
    let a : Account = closed_account d w v k.increment k.ratio in
    let some : (info : StartingInfo) × (start_of w.hooks.0.rewards who v.operator ≡ Some info) =
    some_of (start_of w.hooks.0.rewards who v.operator) (sound.stands.starts who v.operator ∙ ap is_some held) in
    let info : StartingInfo = some.0 in
    let listed : IsCutWithin d a (start_with w v who info) =
    own_start w v who info (IsCutWithin d a) some.1 (recursion_from_All (IsCutWithin d a) (starts_in w.mine.staked w.hooks.0.rewards v.operator) (cut_is_bounded d a (closed_reached_at d w v z k (reached d v found)))) in
    let own : IsCutWithin d a (record { who = who; shares = shares; info = info }) =
    subst (λ n. IsCutWithin d a (record { who = who; shares = n; info = info })) (ap (λ o. unwrap_or o 0) held) listed in
    let amount : amount_of full d ≡ reward_now d a (record { who = who; shares = shares; info = info }) = closed_reward d w v who shares info full z k (ready_in w v.operator sound) some.1 reward in
    let is : account_in d (state_then w z) v ≡ a = closed_is d w v z k in
    let left : amount_of (purse_of s.purses v.operator).outstanding d ≡ a.outstanding = ap (λ x. x.outstanding) is in
    let over : overclaim_of d (history_of v.operator l []) (ratio_at (periods_of s.rewards v.operator).ratios period) ≡ overclaim d a =
    ap (λ m. overclaim_of d (history_of v.operator m []) (ratio_at (periods_of s.rewards v.operator).ratios period)) (sym logged)
    ∙ ap (λ x. overclaim_of d x.history (ratio_at x.periods.ratios period)) is
    ∙ ap (λ n. overclaim_of d a.history (ratio_at a.periods.ratios n)) k.period in
    cut_then (amount_of full d) (reward_now d a (record { who = who; shares = shares; info = info })) (amount_of (purse_of s.purses v.operator).outstanding d) a.outstanding
    (overclaim_of d (history_of v.operator l []) (ratio_at (periods_of s.rewards v.operator).ratios period)) (overclaim d a) amount left over own
  where
    same_end : (x y : ℕ × Shared × View × Log) → Path (Result (ℕ × Shared × View × Log) Over) (Ok x) (Ok y) → x ≡ y
    same_end x y h = cc

    cut_then : (full reward left outstanding over most : ℕ) → full ≡ reward → left ≡ outstanding → over ≡ most → 10 ^ 18 * (reward - outstanding) ≤ most → 10 ^ 18 * (full - left) ≤ over
    cut_then full reward left outstanding over most e f g h = omega arith

pub reached_is_cut_within : ReachedIsCutWithin
reached_is_cut_within = λ w sound reached d who v shares found held. claim_cut w sound reached d who v shares found held
