-- Messages that touch no rewards keep accounts reached; the payment of commission is its deed.
use Rattle.std.proofs.Common.{◌≡◌, ℕ, ◌-◌, ◌*◌, ◌/◌, ◌^◌, ◌≤◌, Bool, true, false, List, [], ◌∷◌, ◌++◌, refl, arith, sym, ap, subst, ◌∙◌, Some, Result, Ok, min, append-nil, unwrap_or, IfSome, not}
use Rattle.std.{specs.{Prelude.⊤, BTreeMap.is_at}, proofs.lemmas.Map.Entries.All-lookup}
use Rattle.base_types.specs.{declared.{account.{Account.{Account as Holder}}}, Orders.addr_cmp}
use Rattle.base_types.specs.declared.account.Account.TheVariants as account
use Rattle.base_types.specs.declared.account.Module.TheVariants as holder
use Rattle.base_decimals.specs.{declared.over.Over.Over, Decimals.trunc_of}
use Rattle.base_coins.{specs.Coins.{Money, amount_of, coins_added, whole_coins}, proofs.Order.rises_from_money}
use Rattle.base_coins.proofs.{Amounts.amount-all, Parts.whole_is_money}
use Rattle.base_roles.specs.declared.{entities.{Purse.Purse, Validator.Validator}, refusal.Refusal.Refusal}
use Rattle.base_roles.specs.declared.refusal.Refusal.TheVariants.{FeeUnpaid, NoCommission, NonPositive, InsufficientFunds, Overflow, ModuleRecipient, NotAuthority, PoolTooSmall, WithdrawFixed}
use Rattle.base_roles.specs.{Entries.{at, with}, Holdings.is_short, Items.no_purse, Log.Log, Orders.same_addr}
use Rattle.base_roles.specs.{Flow.{◌>>=◌, ◌>>◌, stop_if, or_stop, stopping}, World.{View, sent, over_view, noted}}
use Rattle.base_roles.specs.declared.facts.Fact.TheVariants as fact
use Rattle.base_roles.specs.Log as log
pub use Rattle.rule_modules.proofs.GoingLemmas.{same_ok}
use Rattle.rule_modules.proofs.{PartLemmas.amount_in_units, ParameterLemmas.on_update}
use Rattle.rule_modules.specs.{Amounts.{in_units, is_empty, over_facts}, Chain.{State, with_shared}}
use Rattle.rule_modules.specs.Distribution.{Shared, payee_of, paid_to}
use Rattle.rule_modules.specs.Effects.{coins_sent, send, withdraw_commission, set_withdraw_address, fund_community_pool, community_pool_spend, fee_paid}
use Rattle.rule_modules.specs.{Ideal.history_of, Periods.periods_of}
use Rattle.rule_modules.specs.Purses.{Purses, purse_of, with_purse, pool_joined, pooled_told, pool_lowered, is_above_pool, commission_due, commission_paid}
use Rattle.rule_modules.specs.Sound.{IsSound, PurseIsSound}
use Rattle.rule_modules.specs.Withdrawals.{is_module, commission_withdrawn, payee_set, pool_funded, pool_spent}
use Rattle.law_rewards.specs.{Account.{Account, IsReached, account_after}, States.{starts_in, account_in}}
use Rattle.law_rewards.{specs.StateLaws.{ReachedStays, QuietMessagesKeepReached}, proofs.Rounding.floor_low}
use Rattle.law_rewards.proofs.{Following.{own_addr, other_addr}, Denominations.step_parts}
use Rattle.law_rewards.proofs.Entries.{addr_is, put_there, put_elsewhere, history_behind, history_elsewhere}
use Rattle.law_rewards.proofs.{Reached.deeds_lead_on, Endings.same_account, Beginnings.{found_is, went_on, if_ok}}
use Rattle.law_rewards.specs.Account as deed

-- ---- steps that went on

pub passed : {A E : Type 0} (b : Bool) (e : E) (r : Result A E) (a : A) → (stop_if b e >> r) ≡ Ok a → r ≡ Ok a
passed true e r a h = absurd cc
passed false e r a h = h

-- ---- where rewards, purses and history stay

pub quiet_reached : (w : State) (s : Shared) (u : View) → s.rewards ≡ w.hooks.0.rewards → s.purses.purses ≡ w.hooks.0.purses.purses → u.ctx.height ≡ w.view.ctx.height → ReachedStays w (with_shared s u [] w)
quiet_reached w s u rewards purses height reached d v found =
    let op : List ℕ = v.operator in
    let a : Account = account_in d (with_shared s u [] w) v in
    let b : Account = account_in d w v in
    subst (λ x. IsReached d x) (sym (same_account v.tokens v.shares a.height b.height a.current b.current a.commission b.commission a.outstanding b.outstanding a.periods b.periods a.starts b.starts a.history b.history
    height
    (ap (λ es. amount_of (unwrap_or (at addr_cmp es op) no_purse).current d) purses)
    (ap (λ es. amount_of (unwrap_or (at addr_cmp es op) no_purse).commission d) purses)
    (ap (λ es. amount_of (unwrap_or (at addr_cmp es op) no_purse).outstanding d) purses)
    (ap (λ r. periods_of r op) rewards)
    (ap (λ r. starts_in w.mine.staked r op) rewards)
    (ap (λ l. history_of op l []) (append-nil w.log)))) (reached d v found)

pub viewed_reached : (w : State) (u : View) → u.ctx.height ≡ w.view.ctx.height → ReachedStays w (over_view (λ x. u) w)
viewed_reached w u height reached d v found =
    let a : Account = account_in d w v in
    subst (λ n. IsReached d (record a { height = n })) (sym height) (reached d v found)

-- ---- fees and sends

fee_reached : (payer : List ℕ) (fee : Money) (w new : State) → fee_paid payer fee w ≡ Ok new → ReachedStays w new
fee_reached payer fee w new e =
    let u : View = sent (account.User payer) (account.Module holder.FeeCollector) fee w.view in
    let is : over_view (λ x. u) w ≡ new = same_ok (over_view (λ x. u) w) new (passed (is_short w.view.bank (account.User payer) fee) FeeUnpaid (Ok (over_view (λ x. u) w)) new e) in
    subst (ReachedStays w) is (viewed_reached w u refl)

-- ---- payees

payee_rewards : (who : List ℕ) (to : Holder) (w : State) (s : Shared) → payee_set who to w.view.ctx.params w.hooks.0 ≡ Ok s → (s.rewards ≡ w.hooks.0.rewards) × (s.purses.purses ≡ w.hooks.0.purses.purses)
payee_rewards who (account.Module m) w s e = absurd cc
payee_rewards who (account.User to) w s e =
    let is : record w.hooks.0 { withdraw = with addr_cmp w.hooks.0.withdraw who to } ≡ s =
    same_ok (record w.hooks.0 { withdraw = with addr_cmp w.hooks.0.withdraw who to }) s
    (passed (not w.view.ctx.params.withdraw_addr_enabled) WithdrawFixed (Ok (record w.hooks.0 { withdraw = with addr_cmp w.hooks.0.withdraw who to })) s e) in
    (ap (λ x. x.rewards) (sym is), ap (λ x. x.purses.purses) (sym is))

payee_reached : (who : List ℕ) (to : Holder) (w new : State) → set_withdraw_address who to w ≡ Ok new → ReachedStays w new
payee_reached who to w new e =
    let one : (s : Shared) × (payee_set who to w.view.ctx.params w.hooks.0 ≡ Ok s) × (Path (Result State Refusal) (Ok (with_shared s w.view [] w)) (Ok new)) =
    step_parts (payee_set who to w.view.ctx.params w.hooks.0) (λ s. Ok (with_shared s w.view [] w)) new e in
    let kept : (one.0.rewards ≡ w.hooks.0.rewards) × (one.0.purses.purses ≡ w.hooks.0.purses.purses) = payee_rewards who to w one.0 one.1 in
    subst (ReachedStays w) (same_ok (with_shared one.0 w.view [] w) new one.2) (quiet_reached w one.0 w.view kept.0 kept.1 refl)

-- ---- sends

send_reached : (from : List ℕ) (to : Holder) (coins : Money) (w new : State) → send from to coins w ≡ Ok new → ReachedStays w new
send_reached from to coins w new e =
    let u : View = sent (account.User from) to coins w.view in
    let one : (x : View) × (coins_sent from to coins w.view ≡ Ok x) × (Path (Result State Refusal) (Ok (over_view (λ y. x) w)) (Ok new)) =
    step_parts (coins_sent from to coins w.view) (λ x. Ok (over_view (λ y. x) w)) new e in
    let is : u ≡ one.0 =
    same_ok u one.0 (passed (is_short w.view.bank (account.User from) coins) InsufficientFunds (Ok u) one.0
    (passed (is_module to) ModuleRecipient (stop_if (is_short w.view.bank (account.User from) coins) InsufficientFunds >> Ok u) one.0
    (passed (is_empty coins) NonPositive (stop_if (is_module to) ModuleRecipient >> (stop_if (is_short w.view.bank (account.User from) coins) InsufficientFunds >> Ok u)) one.0 one.1))) in
    subst (ReachedStays w) (same_ok (over_view (λ y. one.0) w) new one.2) (viewed_reached w one.0 (ap (λ x. x.ctx.height) (sym is)))

-- ---- the pool

pub joined_purses : (coins : Money) (p q : Purses) → pool_joined coins p ≡ Ok q → q.purses ≡ p.purses
joined_purses coins p q e =
    let one : (pool : Money) × (coins_added p.pool coins ≡ Ok pool) × (Path (Result Purses Over) (Ok (record p { pool = pool })) (Ok q)) = step_parts (coins_added p.pool coins) (λ pool. Ok (record p { pool = pool })) q e in
    ap (λ x. x.purses) (sym (same_ok (record p { pool = one.0 }) q one.2))

abbrev funded_with : List ℕ → Money → Shared → View → Purses → ⊤ × Shared × View
funded_with who coins s u p = (tt, record s { purses = p }, over_facts (pooled_told (in_units coins)) (sent (account.User who) (account.Module holder.Distribution) coins u))

fund_reached : (who : List ℕ) (coins : Money) (w new : State) → fund_community_pool who coins w ≡ Ok new → ReachedStays w new
fund_reached who coins w new e =
    let s : Shared = w.hooks.0 in
    let u : View = w.view in
    let one : (x : ⊤ × Shared × View) × (pool_funded who coins s u ≡ Ok x) × (Path (Result State Refusal) (Ok (with_shared x.1 x.2 [] w)) (Ok new)) =
    step_parts (pool_funded who coins s u) (λ x. Ok (with_shared x.1 x.2 [] w)) new e in
    let rest : Result (⊤ × Shared × View) Refusal = stopping Overflow (pool_joined (in_units coins) s.purses) >>= λ p. Ok (funded_with who coins s u p) in
    let went : rest ≡ Ok one.0 =
    passed (is_short u.bank (account.User who) coins) InsufficientFunds rest one.0 (passed (is_empty coins) NonPositive (stop_if (is_short u.bank (account.User who) coins) InsufficientFunds >> rest) one.0 one.1) in
    let two : (p : Purses) × (stopping Overflow (pool_joined (in_units coins) s.purses) ≡ Ok p) × (Path (Result (⊤ × Shared × View) Refusal) (Ok (funded_with who coins s u p)) (Ok one.0)) =
    step_parts (stopping Overflow (pool_joined (in_units coins) s.purses)) (λ p. Ok (funded_with who coins s u p)) one.0 went in
    let is : funded_with who coins s u two.0 ≡ one.0 = same_ok (funded_with who coins s u two.0) one.0 two.2 in
    let purses : two.0.purses ≡ s.purses.purses = joined_purses (in_units coins) s.purses two.0 (went_on Overflow (pool_joined (in_units coins) s.purses) two.0 two.1) in
    subst (ReachedStays w) (same_ok (with_shared one.0.1 one.0.2 [] w) new one.2)
    (quiet_reached w one.0.1 one.0.2 (ap (λ x. x.1.rewards) (sym is)) (ap (λ x. x.1.purses.purses) (sym is) ∙ purses) (ap (λ x. x.2.ctx.height) (sym is)))

spend_reached : (authority : List ℕ) (to : Holder) (coins : Money) (w new : State) → community_pool_spend authority to coins w ≡ Ok new → ReachedStays w new
spend_reached authority to coins w new e =
    let s : Shared = w.hooks.0 in
    let u : View = w.view in
    let one : (x : ⊤ × Shared × View) × (pool_spent authority to coins s u ≡ Ok x) × (Path (Result State Refusal) (Ok (with_shared x.1 x.2 [] w)) (Ok new)) =
    step_parts (pool_spent authority to coins s u) (λ x. Ok (with_shared x.1 x.2 [] w)) new e in
    let out : ⊤ × Shared × View = (tt, record s { purses = pool_lowered coins s.purses }, sent (account.Module holder.Distribution) to coins u) in
    let last : Result (⊤ × Shared × View) Refusal = Ok out in
    let went : last ≡ Ok one.0 =
    passed (is_above_pool coins s.purses) PoolTooSmall last one.0
    (passed (is_module to) ModuleRecipient (stop_if (is_above_pool coins s.purses) PoolTooSmall >> last) one.0
    (passed (is_empty coins) NonPositive (stop_if (is_module to) ModuleRecipient >> (stop_if (is_above_pool coins s.purses) PoolTooSmall >> last)) one.0
    (passed (not (same_addr authority u.ctx.params.authority)) NotAuthority (stop_if (is_empty coins) NonPositive >> (stop_if (is_module to) ModuleRecipient >> (stop_if (is_above_pool coins s.purses) PoolTooSmall >> last))) one.0 one.1))) in
    let is : out ≡ one.0 = same_ok out one.0 went in
    subst (ReachedStays w) (same_ok (with_shared one.0.1 one.0.2 [] w) new one.2)
    (quiet_reached w one.0.1 one.0.2 (ap (λ x. x.1.rewards) (sym is)) (ap (λ x. x.1.purses.purses) (sym is)) (ap (λ x. x.2.ctx.height) (sym is)))

-- ---- commission

-- what leaves is within both
record IsDue (d : List ℕ) (p : Purse) : Type 0 where
  from_commission : amount_of (commission_paid p).commission d ≡ amount_of p.commission d - amount_of (in_units (commission_due p)) d
  from_outstanding : amount_of (commission_paid p).outstanding d ≡ amount_of p.outstanding d - amount_of (in_units (commission_due p)) d
  within_commission : amount_of (in_units (commission_due p)) d ≤ amount_of p.commission d
  within_outstanding : amount_of (in_units (commission_due p)) d ≤ amount_of p.outstanding d

smaller_within : (c o n : ℕ) → n ≡ min (c / 10 ^ 18) (o / 10 ^ 18) * 10 ^ 18 → (n ≤ c) × (n ≤ o)
smaller_within c o n e = (omega (arith, floor_low c (10 ^ 18)), omega (arith, floor_low o (10 ^ 18)))

due_is : (d : List ℕ) (p : Purse) → PurseIsSound p → IsDue d p
due_is d p sound =
    let paid : Money = in_units (commission_due p) in
    let whole_c : amount_of (whole_coins p.commission) d ≡ amount_of p.commission d / 10 ^ 18 = amount-all (λ e n. trunc_of n) (λ e. refl) p.commission d (rises_from_money p.commission sound.commission) in
    let whole_o : amount_of (whole_coins p.outstanding) d ≡ amount_of p.outstanding d / 10 ^ 18 = amount-all (λ e n. trunc_of n) (λ e. refl) p.outstanding d (rises_from_money p.outstanding sound.outstanding) in
    let due : amount_of (commission_due p) d ≡ min (amount_of (whole_coins p.commission) d) (amount_of (whole_coins p.outstanding) d) =
    amount-all (λ e n. min n (amount_of (whole_coins p.outstanding) e)) (λ e. omega arith) (whole_coins p.commission) d (rises_from_money (whole_coins p.commission) (whole_is_money p.commission sound.commission)) in
    let units : amount_of paid d ≡ min (amount_of p.commission d / 10 ^ 18) (amount_of p.outstanding d / 10 ^ 18) * 10 ^ 18 =
    amount_in_units d (commission_due p) ∙ ap (λ n. n * 10 ^ 18) due ∙ ap (λ n. min n (amount_of (whole_coins p.outstanding) d) * 10 ^ 18) whole_c ∙ ap (λ n. min (amount_of p.commission d / 10 ^ 18) n * 10 ^ 18) whole_o in
    let within : (amount_of paid d ≤ amount_of p.commission d) × (amount_of paid d ≤ amount_of p.outstanding d) = smaller_within (amount_of p.commission d) (amount_of p.outstanding d) (amount_of paid d) units in record {
      from_commission = amount-all (λ e n. n - amount_of paid e) (λ e. omega arith) p.commission d (rises_from_money p.commission sound.commission);
      from_outstanding = amount-all (λ e n. n - amount_of paid e) (λ e. omega arith) p.outstanding d (rises_from_money p.outstanding sound.outstanding);
      within_commission = within.0;
      within_outstanding = within.1;
    }

abbrev commission_state : State → List ℕ → Purse → View → State
commission_state w operator purse u = with_shared (record w.hooks.0 { purses = with_purse operator (commission_paid purse) w.hooks.0.purses }) u ((operator, log.commission (in_units (commission_due purse))) ∷ []) w

commission_after : (d : List ℕ) (w : State) (operator : List ℕ) (purse : Purse) (u : View) (v : Validator) → u.ctx.height ≡ w.view.ctx.height → at addr_cmp w.hooks.0.purses.purses operator ≡ Some purse → PurseIsSound purse
    → IsReached d (account_in d w v) → (b : Bool) → same_addr v.operator operator ≡ b → IsReached d (account_in d (commission_state w operator purse u) v)
commission_after d w operator purse u v height there sound reached true is =
    let own : v.operator ≡ operator = addr_is v.operator operator is in
    let i : IsDue d purse = due_is d purse sound in
    let a : Account = account_in d (commission_state w operator purse u) v in
    let b : Account = account_in d w v in
    let paid : Money = in_units (commission_due purse) in
    let c : Account = account_after d b (deed.commission_payment paid) in
    let old : purse_of w.hooks.0.purses v.operator ≡ purse = ap (λ o. unwrap_or (at addr_cmp w.hooks.0.purses.purses o) no_purse) own ∙ ap (λ o. unwrap_or o no_purse) there in
    let new : purse_of (with_purse operator (commission_paid purse) w.hooks.0.purses) v.operator ≡ commission_paid purse =
    ap (λ o. unwrap_or (at addr_cmp (with addr_cmp w.hooks.0.purses.purses operator (commission_paid purse)) o) no_purse) own ∙ ap (λ o. unwrap_or o no_purse) (put_there operator (commission_paid purse) w.hooks.0.purses.purses) in
    let equal : a ≡ c =
    same_account v.tokens v.shares a.height c.height a.current c.current a.commission c.commission a.outstanding c.outstanding a.periods c.periods a.starts c.starts a.history c.history
    height
    (ap (λ q. amount_of q.current d) new ∙ ap (λ q. amount_of q.current d) (sym old))
    (ap (λ q. amount_of q.commission d) new ∙ i.from_commission ∙ ap (λ q. amount_of q.commission d - amount_of paid d) (sym old))
    (ap (λ q. amount_of q.outstanding d) new ∙ i.from_outstanding ∙ ap (λ q. amount_of q.outstanding d - amount_of paid d) (sym old))
    refl refl
    (ap (λ o. history_of v.operator (w.log ++ (o, log.commission paid) ∷ []) []) (sym own) ∙ history_behind v.operator w.log (log.commission paid) []) in
    let within : (amount_of paid d ≤ b.commission) × (amount_of paid d ≤ b.outstanding) =
    (subst (λ q. amount_of paid d ≤ amount_of q.commission d) (sym old) i.within_commission, subst (λ q. amount_of paid d ≤ amount_of q.outstanding d) (sym old) i.within_outstanding) in
    subst (λ x. IsReached d x) (sym equal) (deeds_lead_on d b (deed.commission_payment paid ∷ []) reached (within, tt))
commission_after d w operator purse u v height there sound reached false is =
    let a : Account = account_in d (commission_state w operator purse u) v in
    let b : Account = account_in d w v in
    let same : purse_of (with_purse operator (commission_paid purse) w.hooks.0.purses) v.operator ≡ purse_of w.hooks.0.purses v.operator =
    ap (λ o. unwrap_or o no_purse) (put_elsewhere operator v.operator (commission_paid purse) w.hooks.0.purses.purses is) in
    subst (λ x. IsReached d x) (sym (same_account v.tokens v.shares a.height b.height a.current b.current a.commission b.commission a.outstanding b.outstanding a.periods b.periods a.starts b.starts a.history b.history
    height
    (ap (λ q. amount_of q.current d) same)
    (ap (λ q. amount_of q.commission d) same)
    (ap (λ q. amount_of q.outstanding d) same)
    refl refl
    (history_elsewhere v.operator operator w.log (log.commission (in_units (commission_due purse))) [] (other_addr operator v.operator (λ h. true_not_false (sym (own_addr v.operator) ∙ ap (same_addr v.operator) (sym h) ∙ is)))))) reached
  where
    true_not_false : true ≡ false → ⊥
    true_not_false h = cc

purse_sound : (w : State) (operator : List ℕ) (purse : Purse) → IsSound w → at addr_cmp w.hooks.0.purses.purses operator ≡ Some purse → PurseIsSound purse
purse_sound w operator purse sound there = subst (λ o. IfSome o PurseIsSound) there (All-lookup PurseIsSound (is_at (addr_cmp operator)) w.hooks.0.purses.purses sound.purses.purses)

abbrev commission_out : State → List ℕ → Purse → Money × Shared × View × Log
commission_out w operator purse =
    let coins = commission_due purse in
    let to = payee_of w.hooks.0 operator in
    (coins, record w.hooks.0 { purses = with_purse operator (commission_paid purse) w.hooks.0.purses }, noted (fact.Commission operator to coins) (paid_to to coins w.view), (operator, log.commission (in_units coins)) ∷ [])

commission_reached : (operator : List ℕ) (w new : State) → IsSound w → withdraw_commission operator w ≡ Ok new → ReachedStays w new
commission_reached operator w new sound e =
    let one : (x : Money × Shared × View × Log) × (commission_withdrawn operator w.hooks.0 w.view ≡ Ok x) × (Path (Result State Refusal) (Ok (with_shared x.1 x.2 x.3 w)) (Ok new)) =
    step_parts (commission_withdrawn operator w.hooks.0 w.view) (λ x. Ok (with_shared x.1 x.2 x.3 w)) new e in
    let two : (purse : Purse) × (or_stop (at addr_cmp w.hooks.0.purses.purses operator) NoCommission ≡ Ok purse) × ((stop_if (is_empty purse.commission) NoCommission >> Ok (commission_out w operator purse)) ≡ Ok one.0) =
    step_parts (or_stop (at addr_cmp w.hooks.0.purses.purses operator) NoCommission) (λ purse. stop_if (is_empty purse.commission) NoCommission >> Ok (commission_out w operator purse)) one.0 one.1 in
    let purse : Purse = two.0 in
    let there : at addr_cmp w.hooks.0.purses.purses operator ≡ Some purse = found_is (at addr_cmp w.hooks.0.purses.purses operator) NoCommission purse two.1 in
    let is : commission_out w operator purse ≡ one.0 = same_ok (commission_out w operator purse) one.0 (passed (is_empty purse.commission) NoCommission (Ok (commission_out w operator purse)) one.0 two.2) in
    let own : ReachedStays w (with_shared (commission_out w operator purse).1 (commission_out w operator purse).2 (commission_out w operator purse).3 w) =
    λ reached d v found. commission_after d w operator purse (commission_out w operator purse).2 v refl there (purse_sound w operator purse sound there) (reached d v found) (same_addr v.operator operator) refl in
    subst (ReachedStays w) (same_ok (with_shared one.0.1 one.0.2 one.0.3 w) new one.2) (subst (λ x. ReachedStays w (with_shared x.1 x.2 x.3 w)) is own)

pub quiet_messages_keep_reached : QuietMessagesKeepReached
quiet_messages_keep_reached = record {
  fees = λ payer fee w sound. if_ok (ReachedStays w) (fee_paid payer fee w) (λ new e. fee_reached payer fee w new e);
  sends = λ from to coins w sound. if_ok (ReachedStays w) (send from to coins w) (λ new e. send_reached from to coins w new e);
  payees = λ who to w sound. if_ok (ReachedStays w) (set_withdraw_address who to w) (λ new e. payee_reached who to w new e);
  funds = λ who coins w sound. if_ok (ReachedStays w) (fund_community_pool who coins w) (λ new e. fund_reached who coins w new e);
  spends = λ authority to coins w sound. if_ok (ReachedStays w) (community_pool_spend authority to coins w) (λ new e. spend_reached authority to coins w new e);
  commissions = λ operator w sound. if_ok (ReachedStays w) (withdraw_commission operator w) (λ new e. commission_reached operator w new sound e);
  updates = λ authority p w sound. on_update authority p w (ReachedStays w) (λ range fixed reached d v found. reached d v found);
}
