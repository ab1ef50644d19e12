-- A start, and the message that withdraws a reward, as steps of a state, are the deeds of their rules.
use Rattle.std.proofs.Common.{◌≡◌, ℕ, ◌+◌, ◌<◌, ◌≤◌, ◌≢◌, Bool, true, false, List, [], ◌∷◌, ◌++◌, map, refl, arith, sym, ap, subst, ◌∙◌, Option, Some, None, Result, Ok, Err, append_assoc, unwrap_or, is_some, sum, slice_get, insert, remove, is_eq}
use Rattle.std.{specs.{List.AllByRecursion, BTreeMap.is_at}, proofs.lemmas.List.Elements.recursion_from_All}
use Rattle.std.proofs.lemmas.Map.Entries.{place_from_lookup}
use Rattle.base_decimals.specs.declared.over.Over.{Over}
use Rattle.base_types.specs.Orders.{addr_cmp}
use Rattle.base_coins.specs.Coins.{Money}
use Rattle.base_shares.specs.Shares.{value_cut_of}
use Rattle.base_roles.specs.declared.entities.{StartingInfo.StartingInfo, Validator.Validator}
use Rattle.base_roles.specs.declared.refusal.Refusal.{Refusal, TheVariants.{NoValidator, NoDelegation, Overflow}}
use Rattle.base_roles.specs.{Log.{Log, LogEntry}, Orders.{pair_cmp, same_addr}, Staked.{validator_at, delegation}}
use Rattle.base_roles.specs.{Flow.{◌>>=◌, or_stop, stopping}, World.View}
use Rattle.base_roles.specs.Log as log
pub use Rattle.rule_modules.proofs.GoingLemmas.{if_ok}
use Rattle.rule_modules.specs.Chain.{State, with_shared}
use Rattle.rule_modules.specs.Distribution.{Shared, started, reward_withdrawn, reward_renewed, payee_of}
use Rattle.rule_modules.specs.Effects.{withdraw_reward}
use Rattle.rule_modules.specs.{Periods.{periods_of, start_of, with_start, without_start, last_ended}, Purses.purse_of}
use Rattle.rule_modules.specs.{Sound.IsSound, Withdrawals.reward_taken}
use Rattle.law_rewards.specs.Account.{Start, Account, IsReached, counted_shares, account_after}
use Rattle.law_rewards.specs.States.{starts_in, account_in, AreReached}
use Rattle.law_rewards.{specs.StateLaws.{ReachedStays, RewardMessagesKeepReached}, proofs.Lists.{all_at, sum_remove}}
use Rattle.law_rewards.proofs.{Following.{own_addr, other_addr}, Denominations.step_parts}
use Rattle.law_rewards.proofs.Entries.{addr_is, pair_is, IsGoneFrom, IsPutInto, put_into, put_outside, history_behind, history_elsewhere}
use Rattle.law_rewards.proofs.{Deeds.apart_rest, Reached.{deeds_lead_on, reached_counted, reached_some, reached_apart}}
use Rattle.law_rewards.proofs.Claims.{IsReady, ready_in, IsEnded, some_of, start_with}
use Rattle.law_rewards.proofs.Endings.{same_account, state_then, closed_is, same_some, end_is, ended_reached}
use Rattle.law_rewards.proofs.Payments.{IsWithdrawn, withdrawn_is, state_behind, own_gone, paid_account, withdrawn_reached}
use Rattle.law_rewards.specs.Account as deed

-- ---- a start

-- the state behind a start
abbrev pub state_begun : State → Validator → List ℕ → ℕ → State
state_begun w v who shares = let s = started v who shares w.hooks.0 w.view in with_shared s.0 s.1 s.2 w

-- where rewards begin
abbrev pub info_of : State → Validator → ℕ → StartingInfo
info_of w v shares = record { period = last_ended (periods_of w.hooks.0.rewards v.operator); stake = value_cut_of v.tokens v.shares shares; height = w.view.ctx.height }

pub own_put : (w : State) (v : Validator) (who : List ℕ) (info : StartingInfo) → AllByRecursion (λ s. who ≢ s.who) (starts_in w.mine.staked w.hooks.0.rewards v.operator)
    → IsPutInto (starts_in w.mine.staked w.hooks.0.rewards v.operator) (starts_in w.mine.staked (with_start who v.operator info w.hooks.0.rewards) v.operator) (start_with w v who info)
own_put w v who info apart =
    put_into pair_cmp (λ e. same_addr e.0.0 v.operator) (λ e. start_with w v e.0.1 e.1) (λ s. who ≢ s.who) (v.operator, who) info w.hooks.0.rewards.starts (own_addr v.operator)
    (λ e h. let pair : (v.operator ≡ e.0.0) × (who ≡ e.0.1) = pair_is (v.operator, who) e.0 (ap is_eq h) in
    (ap (λ o. same_addr o v.operator) (sym pair.0) ∙ own_addr v.operator, λ ne. ne pair.1)) apart

other_put : (w : State) (v u : Validator) (who : List ℕ) (info : StartingInfo) → same_addr v.operator u.operator ≡ false
    → starts_in w.mine.staked (with_start who v.operator info w.hooks.0.rewards) u.operator ≡ starts_in w.mine.staked w.hooks.0.rewards u.operator
other_put w v u who info apart =
    ap (λ es. map (λ e. start_with w u e.0.1 e.1) es)
    (put_outside pair_cmp (λ k. same_addr k.0 u.operator) (v.operator, who) info w.hooks.0.rewards.starts apart
    (λ k h. let pair : (v.operator ≡ k.0) × (who ≡ k.1) = pair_is (v.operator, who) k (ap is_eq h) in ap (λ o. same_addr o u.operator) (sym pair.0) ∙ apart))

pub begun_account : (d : List ℕ) (w : State) (v : Validator) (who : List ℕ) (shares : ℕ) → delegation w.mine.staked who v.operator ≡ Some shares
    → (g : IsPutInto (starts_in w.mine.staked w.hooks.0.rewards v.operator) (starts_in w.mine.staked (with_start who v.operator (info_of w v shares) w.hooks.0.rewards) v.operator) (start_with w v who (info_of w v shares)))
    → account_in d (state_begun w v who shares) v ≡ account_after d (account_in d w v) (deed.beginning g.place who shares)
begun_account d w v who shares held g =
    let info : StartingInfo = info_of w v shares in
    let entry : LogEntry = log.started who shares v.tokens v.shares (value_cut_of v.tokens v.shares shares) in
    let a : Account = account_in d (state_begun w v who shares) v in
    let b : Account = account_in d w v in
    let c : Account = account_after d b (deed.beginning g.place who shares) in
    same_account v.tokens v.shares a.height b.height a.current b.current a.commission b.commission a.outstanding b.outstanding a.periods b.periods a.starts c.starts a.history c.history
    refl refl refl refl refl
    (g.is ∙ ap (λ o. insert b.starts g.place (record { who = who; shares = unwrap_or o 0; info = info })) held)
    (history_behind v.operator w.log entry [])

begun_other : (d : List ℕ) (w : State) (v u : Validator) (who : List ℕ) (shares : ℕ) → same_addr v.operator u.operator ≡ false → account_in d (state_begun w v who shares) u ≡ account_in d w u
begun_other d w v u who shares apart =
    let info : StartingInfo = info_of w v shares in
    let entry : LogEntry = log.started who shares v.tokens v.shares (value_cut_of v.tokens v.shares shares) in
    let a : Account = account_in d (state_begun w v who shares) u in
    let b : Account = account_in d w u in
    same_account u.tokens u.shares a.height b.height a.current b.current a.commission b.commission a.outstanding b.outstanding a.periods b.periods a.starts b.starts a.history b.history
    refl refl refl refl refl
    (other_put w v u who info apart)
    (history_elsewhere u.operator v.operator w.log entry [] apart)

-- what a start needs of the account
pub record MayBegin (d : List ℕ) (w : State) (v : Validator) (who : List ℕ) (shares : ℕ) : Type 0 where
  pub none : (account_in d w v).current ≡ 0
  pub some : 0 < shares
  pub within : counted_shares (account_in d w v) + shares ≤ v.shares
  pub apart : AllByRecursion (λ s. who ≢ s.who) (starts_in w.mine.staked w.hooks.0.rewards v.operator)

pub begun_reached : (d : List ℕ) (w : State) (v u : Validator) (who : List ℕ) (shares : ℕ) → validator_at w.mine.staked v.operator ≡ Some v → delegation w.mine.staked who v.operator ≡ Some shares
    → MayBegin d w v who shares → AreReached w → validator_at w.mine.staked u.operator ≡ Some u → (b : Bool) → same_addr u.operator v.operator ≡ b → IsReached d (account_in d (state_begun w v who shares) u)
begun_reached d w v u who shares found held may reached there true is =
    let one : u ≡ v = same_some u v (validator_at w.mine.staked u.operator) (validator_at w.mine.staked v.operator) there found (ap (λ o. validator_at w.mine.staked o) (addr_is u.operator v.operator is)) in
    let g : IsPutInto (starts_in w.mine.staked w.hooks.0.rewards v.operator) (starts_in w.mine.staked (with_start who v.operator (info_of w v shares) w.hooks.0.rewards) v.operator) (start_with w v who (info_of w v shares)) =
    own_put w v who (info_of w v shares) may.apart in
    subst (λ x. IsReached d (account_in d (state_begun w v who shares) x)) (sym one)
    (subst (λ a. IsReached d a) (sym (begun_account d w v who shares held g))
    (deeds_lead_on d (account_in d w v) (deed.beginning g.place who shares ∷ []) (reached d v found) ((may.none, may.some, may.within, g.within, may.apart), tt)))
begun_reached d w v u who shares found held may reached there false is =
    let ne : u.operator ≢ v.operator = λ h. true_not_false (sym (ap (λ o. same_addr o v.operator) h ∙ own_addr v.operator) ∙ is) in
    subst (λ a. IsReached d a) (sym (begun_other d w v u who shares (other_addr v.operator u.operator (λ h. ne (sym h))))) (reached d u there)
  where
    true_not_false : true ≡ false → ⊥
    true_not_false h = cc

-- ---- behind a withdrawal a start may be made

pub may_begin : (d : List ℕ) (w : State) (v : Validator) (who : List ℕ) (shares : ℕ) (y : Money × Shared × View × Log) → IsReady w v.operator → validator_at w.mine.staked v.operator ≡ Some v
    → delegation w.mine.staked who v.operator ≡ Some shares → IsWithdrawn v who shares w.hooks.0 w.view y → AreReached w → MayBegin d (state_behind w y) v who shares
may_begin d w v who shares y ready found held k reached =
    let z : ℕ × Shared × View × Log = k.first in
    let i : IsEnded d v w.hooks.0 w.view z = end_is d w v z ready k.ends in
    let some : (info : StartingInfo) × (start_of w.hooks.0.rewards who v.operator ≡ Some info) =
    some_of (start_of w.hooks.0.rewards who v.operator) (ready.starts who ∙ ap is_some held) in
    let still : start_of z.1.rewards who v.operator ≡ Some some.0 = ap (λ r. start_of r who v.operator) i.rewards ∙ some.1 in
    let st : Start = start_with w v who some.0 in
    let g : IsGoneFrom (starts_in w.mine.staked z.1.rewards v.operator) (starts_in w.mine.staked (without_start who v.operator z.1.rewards) v.operator) st = own_gone w v who some.0 z.1.rewards still in
    let b : Account = account_in d (state_then w z) v in
    let a : Account = account_in d (state_behind w y) v in
    let before : IsReached d b = ended_reached w v z ready found k.ends reached d v found in
    let is : a ≡ account_after d b (deed.payment g.place (payee_of z.1 who) k.full (purse_of z.1.purses v.operator).outstanding) = paid_account d w v who shares some.0 y k ready found held some.1 i g in
    let own : st.shares ≡ shares = ap (λ o. unwrap_or o 0) held in
    let positive : 0 < st.shares = all_at (λ s. 0 < s.shares) g.place st b.starts g.was (reached_some d b before) in
    let counted : counted_shares b ≤ b.shares = reached_counted d b before in
    let gone : sum (map (λ s. s.shares) (remove b.starts g.place)) + st.shares ≡ counted_shares b = sum_remove (λ s. s.shares) st g.place b.starts g.was in
    let same_count : counted_shares a ≡ sum (map (λ s. s.shares) (remove b.starts g.place)) = ap counted_shares is in record {
      none = ap (λ x. x.current) is ∙ ap (λ x. x.current) (closed_is d w v z i);
      some = omega arith;
      within = omega arith;
      apart = subst (λ x. AllByRecursion (λ s. who ≢ s.who) x.starts) (sym is) (apart_rest st g.place b.starts g.was (reached_apart d b before));
    }

-- ---- the message

renewed_is : (v : Validator) (who : List ℕ) (shares : ℕ) (s : Shared) (u : View) (x : Money × Shared × View × Log) → reward_renewed v who shares s u ≡ Ok x
    → (y : Money × Shared × View × Log) × (reward_withdrawn v who shares s u ≡ Ok y)
    × ((y.0, (started v who shares y.1 y.2).0, (started v who shares y.1 y.2).1, y.3 ++ (started v who shares y.1 y.2).2) ≡ x)
renewed_is v who shares s u x e =
    let one : (y : Money × Shared × View × Log) × (reward_withdrawn v who shares s u ≡ Ok y)
    × (Path (Result (Money × Shared × View × Log) Over) (Ok (y.0, (started v who shares y.1 y.2).0, (started v who shares y.1 y.2).1, y.3 ++ (started v who shares y.1 y.2).2)) (Ok x)) =
    step_parts (reward_withdrawn v who shares s u) (λ y. Ok (y.0, (started v who shares y.1 y.2).0, (started v who shares y.1 y.2).1, y.3 ++ (started v who shares y.1 y.2).2)) x e in
    (one.0, one.1, same_end _ x one.2)
  where
    same_end : (x y : Money × Shared × View × Log) → Path (Result (Money × Shared × View × Log) Over) (Ok x) (Ok y) → x ≡ y
    same_end x y h = cc

-- the logs of both, one behind the other
joined_state : (w : State) (v : Validator) (who : List ℕ) (shares : ℕ) (y : Money × Shared × View × Log)
    → state_begun (state_behind w y) v who shares ≡ with_shared (started v who shares y.1 y.2).0 (started v who shares y.1 y.2).1 (y.3 ++ (started v who shares y.1 y.2).2) w
joined_state w v who shares y =
    let s : Shared × View × Log = started v who shares y.1 y.2 in
    ap (λ l. let out : State = record { mine = w.mine; hooks = (s.0, w.hooks.1); view = s.1; log = l } in out) (append_assoc w.log y.3 s.2)

renewal_reached : (w : State) (v : Validator) (who : List ℕ) (shares : ℕ) (x : Money × Shared × View × Log) → IsReady w v.operator → validator_at w.mine.staked v.operator ≡ Some v
    → delegation w.mine.staked who v.operator ≡ Some shares → reward_renewed v who shares w.hooks.0 w.view ≡ Ok x → AreReached w → AreReached (with_shared x.1 x.2 x.3 w)
renewal_reached w v who shares x ready found held e reached =
    let parts : (y : Money × Shared × View × Log) × (reward_withdrawn v who shares w.hooks.0 w.view ≡ Ok y)
    × ((y.0, (started v who shares y.1 y.2).0, (started v who shares y.1 y.2).1, y.3 ++ (started v who shares y.1 y.2).2) ≡ x) = renewed_is v who shares w.hooks.0 w.view x e in
    let y : Money × Shared × View × Log = parts.0 in
    let k : IsWithdrawn v who shares w.hooks.0 w.view y = withdrawn_is v who shares w.hooks.0 w.view y parts.1 in
    let behind : AreReached (state_behind w y) = withdrawn_reached w v who shares y ready found held parts.1 reached in
    let begun : AreReached (state_begun (state_behind w y) v who shares) =
    λ d u there. begun_reached d (state_behind w y) v u who shares found held (may_begin d w v who shares y ready found held k reached) behind there (same_addr u.operator v.operator) refl in
    subst (λ q. AreReached (with_shared q.1 q.2 q.3 w)) parts.2 (subst AreReached (joined_state w v who shares y) begun)

pub found_is : {A E : Type 0} (o : Option A) (e : E) (a : A) → or_stop o e ≡ Ok a → o ≡ Some a
found_is None e a h = absurd cc
found_is (Some x) e a h = cc

pub went_on : {A D E : Type 0} (f : D → E) (r : Result A D) (a : A) → stopping f r ≡ Ok a → r ≡ Ok a
went_on f (Ok x) a h = cc
went_on f (Err x) a h = absurd cc

-- a validator stands under its own operator
pub under_own : (w : State) (operator : List ℕ) (v : Validator) → IsSound w → validator_at w.mine.staked operator ≡ Some v → operator ≡ v.operator
under_own w operator v sound found =
    let place : (i : ℕ) × (k : List ℕ) × (slice_get w.mine.staked.validators i ≡ Some (k, v)) × (is_at (addr_cmp operator) k ≡ true) = place_from_lookup (is_at (addr_cmp operator)) w.mine.staked.validators v found in
    let own : v.operator ≡ place.1 = all_at (λ e. e.1.operator ≡ e.0) place.0 (place.1, v) w.mine.staked.validators place.2 (recursion_from_All (λ e. e.1.operator ≡ e.0) w.mine.staked.validators sound.staked.operators) in
    addr_is operator place.1 place.3 ∙ sym own

taken_reached : (w : State) (who operator : List ℕ) (x : Money × Shared × View × Log) → IsSound w → reward_taken w.mine.staked who operator w.hooks.0 w.view ≡ Ok x → AreReached w → AreReached (with_shared x.1 x.2 x.3 w)
taken_reached w who operator x sound e reached =
    let one : (v : Validator) × (or_stop (validator_at w.mine.staked operator) NoValidator ≡ Ok v)
    × ((or_stop (delegation w.mine.staked who operator) NoDelegation >>= λ shares. stopping Overflow (reward_renewed v who shares w.hooks.0 w.view)) ≡ Ok x) =
    step_parts (or_stop (validator_at w.mine.staked operator) NoValidator) (λ v. or_stop (delegation w.mine.staked who operator) NoDelegation >>= λ shares. stopping Overflow (reward_renewed v who shares w.hooks.0 w.view)) x e in
    let v : Validator = one.0 in
    let two : (shares : ℕ) × (or_stop (delegation w.mine.staked who operator) NoDelegation ≡ Ok shares) × (stopping Overflow (reward_renewed v who shares w.hooks.0 w.view) ≡ Ok x) =
    step_parts (or_stop (delegation w.mine.staked who operator) NoDelegation) (λ shares. stopping Overflow (reward_renewed v who shares w.hooks.0 w.view)) x one.2 in
    let found : validator_at w.mine.staked operator ≡ Some v = found_is (validator_at w.mine.staked operator) NoValidator v one.1 in
    let held : delegation w.mine.staked who operator ≡ Some two.0 = found_is (delegation w.mine.staked who operator) NoDelegation two.0 two.1 in
    let own : operator ≡ v.operator = under_own w operator v sound found in
    renewal_reached w v who two.0 x (ready_in w v.operator sound) (ap (λ o. validator_at w.mine.staked o) (sym own) ∙ found) (ap (λ o. delegation w.mine.staked who o) (sym own) ∙ held)
    (went_on Overflow (reward_renewed v who two.0 w.hooks.0 w.view) x two.2) reached

message_reached : (who operator : List ℕ) (w new : State) → IsSound w → withdraw_reward who operator w ≡ Ok new → ReachedStays w new
message_reached who operator w new sound e reached =
    let one : (x : Money × Shared × View × Log) × (reward_taken w.mine.staked who operator w.hooks.0 w.view ≡ Ok x) × (Path (Result State Refusal) (Ok (with_shared x.1 x.2 x.3 w)) (Ok new)) =
    step_parts (reward_taken w.mine.staked who operator w.hooks.0 w.view) (λ x. Ok (with_shared x.1 x.2 x.3 w)) new e in
    subst AreReached (same_state (with_shared one.0.1 one.0.2 one.0.3 w) new one.2) (taken_reached w who operator one.0 sound one.1 reached)
  where
    same_state : (x y : State) → Path (Result State Refusal) (Ok x) (Ok y) → x ≡ y
    same_state x y h = cc

pub reward_messages_keep_reached : RewardMessagesKeepReached
reward_messages_keep_reached = λ who operator w sound. if_ok (ReachedStays w) (withdraw_reward who operator w) (λ new e. message_reached who operator w new sound e)
