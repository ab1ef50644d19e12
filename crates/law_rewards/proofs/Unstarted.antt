-- Without a start of a delegation its rewards do not run by the log: entries, hooks and the rules of staking keep it so. So in a
-- sound state none run where no validator stands.
use Rattle.std.proofs.Common.{◌≡◌, ℕ, ◌*◌, Bool, true, false, cond, List, [], ◌∷◌, ◌++◌, refl, sym, ap, subst, ◌∙◌, Option, Some, None, Result, Ok, Err, is_some, ◌&&◌, IfOk, not}
use Rattle.std.specs.{Map.lookup, BTreeMap.is_at}
use Rattle.base_coins.specs.Coins.{Money}
use Rattle.base_shares.specs.{Burns.ratio_of, Shares.value_cut_of}
use Rattle.base_roles.specs.declared.entities.{StartingInfo.StartingInfo, Validator.Validator}
use Rattle.base_roles.specs.{declared.refusal.Refusal.TheVariants.WithdrawFixed, Log.{Log, LogEntry}}
use Rattle.base_roles.specs.{Orders.{pair_cmp, same_addr}, Staked.{validator_at, delegation}, World.View, Entries.with}
use Rattle.base_roles.specs.Log as log
use Rattle.rule_modules.proofs.{EntryLemmas.at-put, OrderLemmas.{pair_total, pair_found}, GoingLemmas.on_stop}
use Rattle.rule_modules.specs.Chain.{State, allocation_step, vote_step, evidence_step, set_step, maturing_step, unbondings_step, redelegations_step}
use Rattle.rule_modules.specs.{Parameters.update_params, Distribution.{Shared, started, records_made, payee_of}}
use Rattle.rule_modules.specs.Ideal.{Span, behind, history_of, span_with, span_of}
use Rattle.rule_modules.specs.Periods.{Rewards, periods_of, start_of, with_start, without_start, last_ended}
use Rattle.rule_modules.specs.{Purses.Purses, Sound.IsSound}
use Rattle.rule_modules.specs.Effects.{send, create_validator, edit_validator, delegate, undelegate, begin_redelegate, cancel_unbonding, unjail, withdraw_reward, withdraw_commission, set_withdraw_address, fund_community_pool, community_pool_spend, fee_paid}
use Rattle.rule_modules.specs.Withdrawals.{payee_set}
use Rattle.law_rewards.specs.States.{AreReached}
use Rattle.law_rewards.specs.Running.{IsMadeAtRest, AreMadeAtRest, RunFromStarts, AreStarted, NoneRunsWithoutValidator, RewardsRunExactlyWhereHeld, StartedStays, MessagesKeepStarted, BlocksKeepStarted}
use Rattle.law_rewards.proofs.{Following.{now_is, own_addr}, Entries.{addr_is, history_behind, history_elsewhere}}
use Rattle.law_rewards.proofs.{Claims.ready_in, Beginnings.under_own, Hooked.none_of, Resting.runs_where_held}
use Rattle.law_rewards.proofs.{Growing.apart_back, Leaving.{taken_elsewhere, pair_elsewhere}, Creating.nobody_has}
use Rattle.law_rewards.proofs.{Paying.in_turn_joined, Telling.on_then, Carried.{IsPlain, IsCarried, nothing_logged}}
use Rattle.law_rewards.proofs.CarriedSlashes.{vote_carried, evidence_carried}
use Rattle.law_rewards.proofs.CarriedSteps.{fee_carried, send_carried, create_carried, edit_carried, delegate_carried, undelegate_carried, redelegate_carried, cancel_carried, unjail_carried, reward_carried, commission_carried, fund_carried, spend_carried, update_carried, allocation_carried, set_carried, maturing_carried, unbondings_carried, redelegations_carried}
use Rattle.base_types.specs.{declared.{account.{Account.{Account as Holder}}}, Orders.addr_cmp}
use Rattle.base_types.specs.declared.account.Account.TheVariants as account

-- ---- entries

-- by the log a delegator's rewards do not run under an operator
abbrev Rests : List ℕ → List ℕ → Log → Type 0
Rests who o l = span_of who (history_of o l []) None ≡ None

rests_behind : (who : List ℕ) (es : List LogEntry) (e : LogEntry) → span_with who e None ≡ None → span_of who es None ≡ None → span_of who (behind es e) None ≡ None
rests_behind who es log.made none is = refl
rests_behind who es (log.allocated share rest tokens) none is = now_is who es (log.allocated share rest tokens) None is ∙ none
rests_behind who es (log.ended period increment tokens) none is = now_is who es (log.ended period increment tokens) None is ∙ none
rests_behind who es (log.started other shares tokens all stake) none is = now_is who es (log.started other shares tokens all stake) None is ∙ none
rests_behind who es (log.slashed burn tokens fraction) none is = now_is who es (log.slashed burn tokens fraction) None is ∙ none
rests_behind who es log.left none is = now_is who es log.left None is ∙ none
rests_behind who es (log.withdrawn other payee full outstanding) none is = now_is who es (log.withdrawn other payee full outstanding) None is ∙ none
rests_behind who es (log.commission coins) none is = now_is who es (log.commission coins) None is ∙ none

-- one entry more, which begins no span where it is of this operator
rests_with : (who o op : List ℕ) (l : Log) (e : LogEntry) → (same_addr op o ≡ true → span_with who e None ≡ None) → Rests who o l → Rests who o (l ++ (op, e) ∷ [])
rests_with who o op l e none r = by (same_addr op o) refl
  where
    by : (b : Bool) → same_addr op o ≡ b → Rests who o (l ++ (op, e) ∷ [])
    by true is =
        let one : op ≡ o = addr_is op o is in
        let there : Rests who op l = subst (λ q. Rests who q l) (sym one) r in
        let own : Rests who op (l ++ (op, e) ∷ []) = ap (λ es. span_of who es None) (history_behind op l e []) ∙ rests_behind who (history_of op l []) e (none is) there in
        subst (λ q. Rests who q (l ++ (op, e) ∷ [])) one own
    by false is = ap (λ es. span_of who es None) (history_elsewhere o op l e [] is) ∙ r

made_with : (l : Log) (op : List ℕ) (e : LogEntry) → IsMadeAtRest l op e → AreMadeAtRest [] l → AreMadeAtRest [] (l ++ (op, e) ∷ [])
made_with l op e m all = in_turn_joined (λ before x. IsMadeAtRest before x.0 x.1) [] l ((op, e) ∷ []) all (m, tt)

-- an entry that begins no span
pub plain_kept : (d : Shared) (l : Log) (op : List ℕ) (e : LogEntry) → ((who : List ℕ) → span_with who e None ≡ None) → IsMadeAtRest l op e → RunFromStarts d l → RunFromStarts d (l ++ (op, e) ∷ [])
plain_kept d l op e none m r = record { rest = λ who o gone. rests_with who o op l e (λ is. none who) (r.rest who o gone); made = made_with l op e m r.made }

-- the same starts
pub starts_kept : (d c : Shared) (l : Log) → c.rewards.starts ≡ d.rewards.starts → RunFromStarts d l → RunFromStarts c l
starts_kept d c l same r = record { rest = λ who o gone. r.rest who o (ap (λ es. lookup (is_at (pair_cmp (o, who))) es) (sym same) ∙ gone); made = r.made }

-- ---- a start

start_put : (r : Rewards) (who op x o : List ℕ) (s : StartingInfo) → start_of (with_start who op s r) x o ≡ cond (same_addr o op && same_addr x who) (Some s) (start_of r x o)
start_put r who op x o s = at-put pair_cmp pair_total r.starts (op, who) (o, x) s ∙ ap (λ b. cond b (Some s) (start_of r x o)) (pair_found o op x who)

some_none : {X : Type 0} (x : X) → Path (Option X) (Some x) None → ⊥
some_none x e = cc

pub started_kept : (v : Validator) (who : List ℕ) (shares : ℕ) (d : Shared) (u : View) (l : Log) → RunFromStarts d l → RunFromStarts (started v who shares d u).0 (l ++ (started v who shares d u).2)
started_kept v who shares d u l r = record {
  rest = λ x o gone. by x o gone (same_addr o v.operator) (same_addr x who) refl refl;
  made = made_with l v.operator (log.started who shares v.tokens v.shares (value_cut_of v.tokens v.shares shares)) tt r.made;
}
  where
    op : List ℕ
    op = v.operator

    stake : ℕ
    stake = value_cut_of v.tokens v.shares shares

    info : StartingInfo
    info = record { period = last_ended (periods_of d.rewards op); stake = stake; height = u.ctx.height }

    by : (x o : List ℕ) → start_of (with_start who op info d.rewards) x o ≡ None → (a b : Bool) → same_addr o op ≡ a → same_addr x who ≡ b
        → Rests x o (l ++ (op, log.started who shares v.tokens v.shares stake) ∷ [])
    by x o gone true true p q =
        let here : start_of (with_start who op info d.rewards) x o ≡ Some info = start_put d.rewards who op x o info ∙ ap (λ b. cond b (Some info) (start_of d.rewards x o)) (λ i. p i && q i) in
        absurd (some_none info (sym here ∙ gone))
    by x o gone true false p q =
        let same : start_of (with_start who op info d.rewards) x o ≡ start_of d.rewards x o = start_put d.rewards who op x o info ∙ ap (λ b. cond b (Some info) (start_of d.rewards x o)) (λ i. p i && q i) in
        rests_with x o op l (log.started who shares v.tokens v.shares stake)
        (λ is. let s : Span = record { first = ratio_of (shares * v.tokens) v.shares; entries = [] } in ap (λ b. cond b (Some s) None) (apart_back x who q)) (r.rest x o (sym same ∙ gone))
    by x o gone false b p q =
        let same : start_of (with_start who op info d.rewards) x o ≡ start_of d.rewards x o = start_put d.rewards who op x o info ∙ ap (λ b. cond b (Some info) (start_of d.rewards x o)) (λ i. p i && same_addr x who) in
        ap (λ es. span_of x es None) (history_elsewhere o op l (log.started who shares v.tokens v.shares stake) [] (apart_back o op p)) ∙ r.rest x o (sym same ∙ gone)

-- ---- a withdrawal, and the records of a validator

gone_kept : (d : Shared) (purses : Purses) (l : Log) (who op payee : List ℕ) (full outstanding : Money) → RunFromStarts d l
    → RunFromStarts (record d { rewards = without_start who op d.rewards; purses = purses }) (l ++ (op, log.withdrawn who payee full outstanding) ∷ [])
gone_kept d purses l who op payee full outstanding r = record {
  rest = λ x o gone. by x o gone (same_addr op o) (same_addr who x) refl refl;
  made = made_with l op (log.withdrawn who payee full outstanding) tt r.made;
}
  where
    all : Log
    all = l ++ (op, log.withdrawn who payee full outstanding) ∷ []

    ends : Rests who op all
    ends =
        let es : List LogEntry = history_of op l [] in
        let entry : LogEntry = log.withdrawn who payee full outstanding in
        let history : history_of op (l ++ (op, entry) ∷ []) [] ≡ es ++ entry ∷ [] = history_behind op l entry [] in
        ap (λ x. span_of who x None) history ∙ now_is who es entry (span_of who es None) refl ∙ ap (λ b. cond b None (span_of who es None)) (own_addr who)

    none_left : (b : Bool) → Path (Option Span) (cond b None None) None
    none_left true = refl
    none_left false = refl

    other : (x o : List ℕ) → start_of (without_start who op d.rewards) x o ≡ None → (same_addr op o && same_addr who x) ≡ false → Rests x o all
    other x o gone apart =
        let same : start_of (without_start who op d.rewards) x o ≡ start_of d.rewards x o =
        taken_elsewhere (is_at (pair_cmp (op, who))) (is_at (pair_cmp (o, x))) (λ k h. pair_elsewhere who op x o k apart h) d.rewards.starts in
        rests_with x o op l (log.withdrawn who payee full outstanding) (λ is. none_left (same_addr who x)) (r.rest x o (sym same ∙ gone))

    by : (x o : List ℕ) → start_of (without_start who op d.rewards) x o ≡ None → (a b : Bool) → same_addr op o ≡ a → same_addr who x ≡ b → Rests x o all
    by x o gone true true p q = subst (λ y. Rests y o all) (addr_is who x q) (subst (λ y. Rests who y all) (addr_is op o p) ends)
    by x o gone true false p q = other x o gone (λ i. p i && q i)
    by x o gone false b p q = other x o gone (λ i. p i && same_addr who x)

pub made_kept : (v : Validator) (d : Shared) (l : Log) → ((who : List ℕ) → start_of d.rewards who v.operator ≡ None) → RunFromStarts d l → RunFromStarts (records_made v d) (l ++ (v.operator, log.made) ∷ [])
made_kept v d l none r = plain_kept (records_made v d) l v.operator log.made (λ who. refl) (λ who. r.rest who v.operator (none who)) (starts_kept d (records_made v d) l refl r)

-- ---- all rules

plain_starts : (e : LogEntry) → IsPlain e → (who : List ℕ) → span_with who e None ≡ None
plain_starts log.made p who = absurd p
plain_starts (log.allocated share rest tokens) p who = refl
plain_starts (log.ended period increment tokens) p who = refl
plain_starts (log.started other shares tokens all stake) p who = absurd p
plain_starts (log.slashed burn tokens fraction) p who = refl
plain_starts log.left p who = refl
plain_starts (log.withdrawn other payee full outstanding) p who = absurd p
plain_starts (log.commission coins) p who = refl

plain_rests : (l : Log) (op : List ℕ) (e : LogEntry) → IsPlain e → IsMadeAtRest l op e
plain_rests l op log.made p = absurd p
plain_rests l op (log.allocated share rest tokens) p = tt
plain_rests l op (log.ended period increment tokens) p = tt
plain_rests l op (log.started other shares tokens all stake) p = tt
plain_rests l op (log.slashed burn tokens fraction) p = tt
plain_rests l op log.left p = tt
plain_rests l op (log.withdrawn other payee full outstanding) p = tt
plain_rests l op (log.commission coins) p = tt

pub starts_carried : IsCarried RunFromStarts
starts_carried = record {
  plain = λ d l op e p r. plain_kept d l op e (plain_starts e p) (plain_rests l op e p) r;
  same = λ d c l starts payees r. starts_kept d c l starts r;
  starts = started_kept;
  goes = λ d purses l who op full outstanding r. gone_kept d purses l who op (payee_of d who) full outstanding r;
  makes = made_kept;
}

pub payee_started : (who : List ℕ) (to : Holder) (w : State) → AreStarted w → IfOk (set_withdraw_address who to w) AreStarted
payee_started who (account.Module m) w r = tt
payee_started who (account.User to) w r =
    let d : Shared = record w.hooks.0 { withdraw = with addr_cmp w.hooks.0.withdraw who to } in
    on_then (payee_set who (account.User to) w.view.ctx.params w.hooks.0) _ (λ x. RunFromStarts x (w.log ++ [])) _
    (on_stop (not w.view.ctx.params.withdraw_addr_enabled) WithdrawFixed _ _ (λ a. nothing_logged RunFromStarts starts_carried d w.log (starts_kept w.hooks.0 d w.log refl r)))
    (λ x k. k)

-- ---- all steps

kept_by : {E : Type 0} (w : State) (q : Result State E) → (AreStarted w → IfOk q AreStarted) → IfOk q (StartedStays w)
kept_by w (Ok new) h = λ r. h r
kept_by w (Err e) h = tt

pub messages_keep_started : MessagesKeepStarted
messages_keep_started = record {
  fees = λ payer fee m w sound. kept_by w (fee_paid payer fee w) (fee_carried RunFromStarts starts_carried payer fee w);
  sends = λ from to coins m w sound. kept_by w (send from to coins w) (send_carried RunFromStarts starts_carried from to coins w);
  creates = λ m w sound. kept_by w (create_validator m w) (create_carried RunFromStarts starts_carried m w sound);
  edits = λ m w sound. kept_by w (edit_validator m w) (edit_carried RunFromStarts starts_carried m w);
  delegates = λ who operator coin w sound. kept_by w (delegate who operator coin w) (delegate_carried RunFromStarts starts_carried who operator coin w);
  undelegates = λ who operator coin w sound whole. kept_by w (undelegate who operator coin w) (undelegate_carried RunFromStarts starts_carried who operator coin w);
  redelegates = λ who source target coin w sound. kept_by w (begin_redelegate who source target coin w) (redelegate_carried RunFromStarts starts_carried who source target coin w);
  cancels = λ who operator coin height w sound. kept_by w (cancel_unbonding who operator coin height w) (cancel_carried RunFromStarts starts_carried who operator coin height w);
  unjails = λ operator w sound. kept_by w (unjail operator w) (unjail_carried RunFromStarts starts_carried operator w);
  withdraws = λ who operator w sound. kept_by w (withdraw_reward who operator w) (reward_carried RunFromStarts starts_carried who operator w);
  commissions = λ operator w sound. kept_by w (withdraw_commission operator w) (commission_carried RunFromStarts starts_carried operator w);
  payees = λ who to w sound. kept_by w (set_withdraw_address who to w) (payee_started who to w);
  funds = λ who coins m w sound. kept_by w (fund_community_pool who coins w) (fund_carried RunFromStarts starts_carried who coins w);
  spends = λ authority to coins m w sound. kept_by w (community_pool_spend authority to coins w) (spend_carried RunFromStarts starts_carried authority to coins w);
  updates = λ authority p w sound. kept_by w (update_params authority p w) (update_carried RunFromStarts starts_carried authority p w);
}

pub blocks_keep_started : BlocksKeepStarted
blocks_keep_started = record {
  next = λ height time w sound later few since before r. r;
  allocates = λ votes w sound known. kept_by w (allocation_step votes w) (allocation_carried RunFromStarts starts_carried votes w);
  votes = λ t w sound power fewer. kept_by w (vote_step t w) (vote_carried RunFromStarts starts_carried t w);
  evidence = λ e w sound power least below before. kept_by w (evidence_step e w) (evidence_carried RunFromStarts starts_carried e w);
  sets = λ w sound. kept_by w (set_step w) (set_carried RunFromStarts starts_carried w);
  matures = λ w sound. kept_by w (maturing_step w) (maturing_carried RunFromStarts starts_carried w);
  pays = λ w sound. kept_by w (unbondings_step w) (unbondings_carried RunFromStarts starts_carried w);
  ends = λ w sound. kept_by w (redelegations_step w) (redelegations_carried RunFromStarts starts_carried w);
}

-- ---- sound states

pub none_runs_without_validator : NoneRunsWithoutValidator
none_runs_without_validator = λ w who operator sound r none.
    r.rest who operator (none_of (start_of w.hooks.0.rewards who operator) (sound.stands.starts who operator ∙ ap is_some (nobody_has w who operator sound none)))

run_where_held : (w : State) (who operator : List ℕ) → IsSound w → AreReached w → AreStarted w → (o : Option ℕ) → delegation w.mine.staked who operator ≡ o
    → is_some (span_of who (history_of operator w.log []) None) ≡ is_some o
run_where_held w who operator sound reached r None held =
    ap is_some (r.rest who operator (none_of (start_of w.hooks.0.rewards who operator) (sound.stands.starts who operator ∙ ap is_some held)))
run_where_held w who operator sound reached r (Some shares) held = by (validator_at w.mine.staked operator) refl
  where
    by : (v : Option Validator) → validator_at w.mine.staked operator ≡ v → is_some (span_of who (history_of operator w.log []) None) ≡ true
    by None none = absurd (some_none shares (sym held ∙ nobody_has w who operator sound none))
    by (Some v) found =
        let own : operator ≡ v.operator = under_own w operator v sound found in
        let there : is_some (span_of who (history_of v.operator w.log []) None) ≡ is_some (delegation w.mine.staked who v.operator) =
        runs_where_held w who v (ready_in w v.operator sound) reached (ap (validator_at w.mine.staked) (sym own) ∙ found) in
        subst (λ o. is_some (span_of who (history_of o w.log []) None) ≡ is_some (delegation w.mine.staked who o)) (sym own) there ∙ ap is_some held

pub rewards_run_exactly_where_held : RewardsRunExactlyWhereHeld
rewards_run_exactly_where_held = λ w sound reached r who operator. run_where_held w who operator sound reached r (delegation w.mine.staked who operator) refl
