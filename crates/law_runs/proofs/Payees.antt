-- Each payment of a reward that a block of a run tells goes to the payee of the moment, and each reward that is asked for is told.
use Rattle.std.proofs.Common.{◌≡◌, ◌∙◌, ℕ, suc, ◌+◌, ◌^◌, ◌<◌, ◌≤◌, inl, inr, Bool, true, false, cond, List, [], ◌∷◌, ◌++◌, length, Result, Ok, Err, refl, sym, ap, subst, arith, append-nil, append_assoc, All, IfOk, Contains, unwrap_or, ◌⊎◌}
use Rattle.std.{specs.Prelude.⊤, proofs.lemmas.List.append_cancel_left}
use Rattle.std.proofs.lemmas.List.Elements.{All-append, All-cons, All-contains, All-contains_itself, All-head, All-nil, All-push, All-tail, Contains-append_cases, Contains-append_right}
use Rattle.base_types.specs.{declared.{account.{Account.{Account as Holder}}}, Orders.addr_cmp}
use Rattle.base_types.specs.declared.account.Account.TheVariants as account
use Rattle.base_types.specs.declared.account.Module.TheVariants as holder
use Rattle.base_coins.specs.Coins.{Money}
use Rattle.base_shares.specs.Shares.{value_cut_of}
use Rattle.base_roles.specs.declared.{facts.Fact.Fact, params.Ctx.Ctx}
use Rattle.base_roles.specs.{declared.{refusal.{Refusal.{TheVariants.{FeeUnpaid as Unpaid}}}}, Entries.at}
use Rattle.base_roles.specs.{Holdings.{is_short, transfer_told}, Log.{Log, LogEntry}}
use Rattle.base_roles.specs.declared.facts.Fact.TheVariants as fact
use Rattle.base_roles.specs.Log as log
use Rattle.base_messages.specs.declared.{block.{Block.Block, Tx.Tx}, faults.BlockFault.BlockFault}
use Rattle.base_messages.specs.declared.{faults.BlockFault.TheVariants.RatioLimit, message.Msg.Msg}
use Rattle.base_messages.specs.declared.report.Outcome.{Outcome, TheVariants.{Accepted, FeeUnpaid, Refused}}
use Rattle.base_messages.specs.declared.message.Msg.TheVariants as msg
use Rattle.rule_machine.{proofs.EndLemmas.transactions_end_by, specs.GenesisState.{chain_started, without_facts}}
use Rattle.rule_machine.specs.{Machine.{Step, TxStep, block_checked, step, tx_applied, txs_applied}, Messages.effect_of}
use Rattle.rule_machine.specs.Promises.{AreCarriedOut, EndsSo, MessageHasCoins, TxHasCoins}
use Rattle.rule_modules.proofs.GoingLemmas.{if_ok, on_bind, on_lifted, on_next, on_stop}
use Rattle.rule_modules.specs.Chain.{State, begin_block, end_block, shared_in}
use Rattle.rule_modules.specs.Distribution.{Shared, payee_of, records_made, started}
use Rattle.rule_modules.specs.{Effects.{fee_paid, set_withdraw_address}, Laws.next_block, Periods.without_start}
use Rattle.rule_modules.specs.{Sound.IsSound, Withdrawals.payee_set}
use Rattle.law_soundness.proofs.{Burns.total_in, Moves.fee_fits}
use Rattle.law_soundness.proofs.Points.{MessageLeft, StateFits, StateLeft, at_moment, to_fits}
use Rattle.law_soundness.proofs.Running.{HaveCoins, StepFits, block_fits}
use Rattle.law_soundness.proofs.Starting.{IsWellStarted, room, started_well}
use Rattle.law_soundness.proofs.Steps.{and_also, from_if, on_lifted_then, weaker_if}
use Rattle.law_soundness.proofs.Transactions.{WholeFits, fits_on, message_fits, tx_fits, whole_without}
use Rattle.law_soundness.specs.Kept.{InTurn, begun_by}
use Rattle.law_rewards.proofs.{Carried.{IsCarried, IsPlain}, Paying.Pays, Staking.PaysIn}
use Rattle.law_rewards.{proofs.{Together.messages_keep_reached, Told.rewards_are_told}, specs.States.AreReached}
use Rattle.law_rewards.specs.{WithdrawalLaws.TellsPayment, Withdrawals.{is_payment, paid_by, payments_in, payments_of}}
use Rattle.law_runs.specs.Payees.{BlockPaysPayees, IsToldByMessage, IsToPayee, NothingTellsNoReward, PayeesAreOfTheMoment, RunPaysPayees, TellInTurn, TellsItsPart, TxPaysPayees, TxTellsRewards}
use Rattle.law_runs.proofs.Carrying.{begin_carried, end_carried, message_carried}
use Rattle.law_runs.proofs.Running.{block_reached, both_if, kept_at, message_kept, sound_at, tx_reached}
use Rattle.law_runs.proofs.{Saying.{HasPaid, begun_paid, end_paid, message_paid}, Starts.genesis_is_reached}

-- ---- what is logged

-- to whom payments go
abbrev Payees : Type 0
Payees = List (List ℕ × List ℕ)

-- a withdrawal among entries goes to its payee
abbrev IsEntryTo : Payees → LogEntry → Type 0
IsEntryTo t (log.withdrawn who payee full outstanding) = payee ≡ unwrap_or (at addr_cmp t who) who
IsEntryTo t _ = Unit {0}

-- the payees stay, and each withdrawal behind a log goes to them
record KeepPayees (t : Payees) (first : Log) (d : Shared) (l : Log) : Type 0 where
  list : d.withdraw ≡ t
  more : Log
  log_is : l ≡ first ++ more
  payees : All (λ e. IsEntryTo t e.1) more

nothing_kept : (d : Shared) (l : Log) → KeepPayees d.withdraw l d l
nothing_kept d l = record { list = refl; more = []; log_is = sym (append-nil l); payees = All-nil (λ e. IsEntryTo d.withdraw e.1) }

one_more : (t : Payees) (first : Log) (d c : Shared) (l : Log) (op : List ℕ) (e : LogEntry) → c.withdraw ≡ d.withdraw → IsEntryTo t e → KeepPayees t first d l → KeepPayees t first c (l ++ (op, e) ∷ [])
one_more t first d c l op e same to r = record {
  list = same ∙ r.list;
  more = r.more ++ (op, e) ∷ [];
  log_is = ap (λ x. x ++ (op, e) ∷ []) r.log_is ∙ append_assoc first r.more ((op, e) ∷ []);
  payees = All-push (λ x. IsEntryTo t x.1) r.more (op, e) r.payees to;
}

plain_to : (t : Payees) (e : LogEntry) → IsPlain e → IsEntryTo t e
plain_to t (log.withdrawn who payee full outstanding) p = absurd p
plain_to t e p = tt

payees_carried : (t : Payees) (first : Log) → IsCarried (KeepPayees t first)
payees_carried t first = record {
  plain = λ d l op e p r. one_more t first d d l op e refl (plain_to t e p) r;
  same = λ d c l starts payees r. record { list = payees ∙ r.list; more = r.more; log_is = r.log_is; payees = r.payees };
  starts = λ v who shares d u l r.
      one_more t first d (started v who shares d u).0 l v.operator (log.started who shares v.tokens v.shares (value_cut_of v.tokens v.shares shares)) refl tt r;
  goes = λ d purses l who op full outstanding r.
      one_more t first d (record d { rewards = without_start who op d.rewards; purses = purses }) l op (log.withdrawn who (payee_of d who) full outstanding) refl
      (ap (λ x. unwrap_or (at addr_cmp x who) who) r.list) r;
  makes = λ v d l none r. one_more t first d (records_made v d) l v.operator log.made refl tt r;
}

-- ---- what is told

-- what holds of each payment among facts holds of all, where it says nothing of others
lifted : (P : Fact → Type 0) → ((f : Fact) → is_payment f ≡ false → P f) → (fs : List Fact) → All P (payments_in fs) → All P fs
lifted P others [] h = All-nil P
lifted P others (f ∷ fs) h = by (is_payment f) refl h (lifted P others fs)
  where
    by : (b : Bool) → is_payment f ≡ b → All P (cond b (f ∷ payments_in fs) (payments_in fs)) → (All P (payments_in fs) → All P fs) → All P (f ∷ fs)
    by true e k rest = All-cons P f fs (All-head P f (payments_in fs) k) (rest (All-tail P f (payments_in fs) k))
    by false e k rest = All-cons P f fs (others f e) (rest k)

other_to : (w : State) (f : Fact) → is_payment f ≡ false → IsToPayee w f
other_to w (fact.Paid who operator to reward coins) e = absurd cc
other_to w f e = tt

paid_to_payee : (w : State) (op : List ℕ) (e : LogEntry) → IsEntryTo (shared_in w).withdraw e → All (IsToPayee w) (paid_by op e)
paid_to_payee w op (log.withdrawn who payee full outstanding) h = All-cons (IsToPayee w) _ [] h (All-nil (IsToPayee w))
paid_to_payee w op e h = All-nil (IsToPayee w)

logged_to_payees : (w : State) (l : Log) → All (λ e. IsEntryTo (shared_in w).withdraw e.1) l → All (IsToPayee w) (payments_of l)
logged_to_payees w [] h = All-nil (IsToPayee w)
logged_to_payees w (e ∷ l) h =
    let P : List ℕ × LogEntry → Type 0 = λ x. IsEntryTo (shared_in w).withdraw x.1 in
    All-append (IsToPayee w) (paid_by e.0 e.1) (payments_of l) (paid_to_payee w e.0 e.1 (All-head P e l h)) (logged_to_payees w l (All-tail P e l h))

-- the payments that are told are those that are logged
told_to_payees : (w : State) (l k : Log) (fs gs : List Fact) (d : Shared) (p : Pays l fs k gs) → KeepPayees (shared_in w).withdraw l d k → All (IsToPayee w) p.told
told_to_payees w l k fs gs d p q =
    let same : q.more ≡ p.more = append_cancel_left l q.more p.more (sym q.log_is ∙ p.log_is) in
    let entries : All (λ e. IsEntryTo (shared_in w).withdraw e.1) p.more = subst (All (λ e. IsEntryTo (shared_in w).withdraw e.1)) same q.payees in
    lifted (IsToPayee w) (other_to w) p.told (subst (All (IsToPayee w)) (sym p.payments) (logged_to_payees w p.more entries))

-- a step adds facts, and its payments go to the payees of before it
record PaysPayees (old new : State) : Type 0 where
  told : List Fact
  facts_are : new.view.facts ≡ old.view.facts ++ told
  payees : All (IsToPayee old) told

pays_payees : (w x : State) → PaysIn w x → KeepPayees (shared_in w).withdraw w.log x.hooks.0 x.log → PaysPayees w x
pays_payees w x p q = record { told = p.told; facts_are = p.facts_are; payees = told_to_payees w w.log x.log w.view.facts x.view.facts x.hooks.0 p q }

-- ---- messages

named_payee : (who : List ℕ) (to : Holder) (w : State) → IfOk (set_withdraw_address who to w) (PaysPayees w)
named_payee who to w =
    on_bind (payee_set who to w.view.ctx.params w.hooks.0) _ _ (λ d e. record { told = []; facts_are = sym (append-nil w.view.facts); payees = All-nil (IsToPayee w) })

message_payees : (m : Msg) (w : State) → MessageHasCoins m → IsSound w → AreReached w → IfOk (effect_of m w) (PaysPayees w)
message_payees (msg.SetWithdrawAddress m) w c s r = named_payee m.delegator m.withdraw w
message_payees m w c s r =
    let t : Payees = (shared_in w).withdraw in
    weaker_if (effect_of m w) (λ x. PaysIn w x × KeepPayees t w.log x.hooks.0 x.log) (PaysPayees w)
    (both_if (effect_of m w) (PaysIn w) (λ x. KeepPayees t w.log x.hooks.0 x.log) (message_paid m w c s r)
    (message_carried (KeepPayees t w.log) (payees_carried t w.log) m w tt s (nothing_kept w.hooks.0 w.log))) (λ x k. pays_payees w x k.0 k.1)

-- what a message tells that asks for a reward has its payment
payment_among : (who operator : List ℕ) (w x : State) (k : TellsPayment who operator w x)
    → (reward : Money) × (coins : Money) × Contains k.told (fact.Paid who operator (payee_of (shared_in w) who) reward coins)
payment_among who operator w x k =
    let f : Fact = fact.Paid who operator (payee_of (shared_in w) who) k.reward k.coins in
    let start : List Fact = fact.Started who operator k.period k.stake ∷ [] in
    (k.reward, k.coins, subst (λ fs. Contains fs f) (sym k.told_is) (Contains-append_right k.before (f ∷ start) f (first_among f start)))
  where
    first_among : (f : Fact) (fs : List Fact) → Contains (f ∷ fs) f
    first_among f fs = All-head (Contains (f ∷ fs)) f fs (All-contains_itself (f ∷ fs))

-- each message that is carried out tells its part
message_tells : (m : Msg) (w x : State) → IsSound w → effect_of m w ≡ Ok x → PaysPayees w x → TellsItsPart m w x
message_tells (msg.WithdrawReward m) w x s e k =
    let t : TellsPayment m.delegator m.validator w x = from_if (TellsPayment m.delegator m.validator w) (effect_of (msg.WithdrawReward m) w) x e (rewards_are_told m.delegator m.validator w s) in
    record { told = t.told; facts_are = t.facts_are; reward = payment_among m.delegator m.validator w x t }
message_tells (msg.Send m) w x s e k = record { told = k.told; facts_are = k.facts_are; reward = tt }
message_tells (msg.CreateValidator m) w x s e k = record { told = k.told; facts_are = k.facts_are; reward = tt }
message_tells (msg.EditValidator m) w x s e k = record { told = k.told; facts_are = k.facts_are; reward = tt }
message_tells (msg.Delegate m) w x s e k = record { told = k.told; facts_are = k.facts_are; reward = tt }
message_tells (msg.Undelegate m) w x s e k = record { told = k.told; facts_are = k.facts_are; reward = tt }
message_tells (msg.BeginRedelegate m) w x s e k = record { told = k.told; facts_are = k.facts_are; reward = tt }
message_tells (msg.CancelUnbonding m) w x s e k = record { told = k.told; facts_are = k.facts_are; reward = tt }
message_tells (msg.Unjail m) w x s e k = record { told = k.told; facts_are = k.facts_are; reward = tt }
message_tells (msg.WithdrawCommission m) w x s e k = record { told = k.told; facts_are = k.facts_are; reward = tt }
message_tells (msg.SetWithdrawAddress m) w x s e k = record { told = k.told; facts_are = k.facts_are; reward = tt }
message_tells (msg.FundCommunityPool m) w x s e k = record { told = k.told; facts_are = k.facts_are; reward = tt }
message_tells (msg.CommunityPoolSpend m) w x s e k = record { told = k.told; facts_are = k.facts_are; reward = tt }
message_tells (msg.UpdateParams m) w x s e k = record { told = k.told; facts_are = k.facts_are; reward = tt }

-- so it is with each message in turn, from the state before it
abbrev PayInTurn : List Msg → State → Type 0
PayInTurn [] w = Unit {0}
PayInTurn (m ∷ ms) w = IfOk (effect_of m w) (λ x. (PaysPayees w x × TellsItsPart m w x) × PayInTurn ms x)

-- messages that are carried out tell their parts in turn
told_in_turn : (ms : List Msg) (w end : State) → PayInTurn ms w → AreCarriedOut effect_of ms w end → TellInTurn ms w end
told_in_turn [] w end p e = e
told_in_turn (m ∷ ms) w end p e =
    let x : State = e.0 in
    let k : (PaysPayees w x × TellsItsPart m w x) × PayInTurn ms x = from_if (λ y. (PaysPayees w y × TellsItsPart m w y) × PayInTurn ms y) (effect_of m w) x e.1 p in
    (x, e.1, k.0.1, told_in_turn ms x end k.1 e.2)

-- a message tells a fact, from the state that those before it led to
record IsToldAmong (ms : List Msg) (w : State) (f : Fact) : Type 0 where
  before : List Msg
  message : Msg
  after : List Msg
  messages_are : ms ≡ before ++ message ∷ after
  middle : State
  carried_out : AreCarriedOut effect_of before w middle
  next : State
  effect : effect_of message middle ≡ Ok next
  told : List Fact
  facts_are : next.view.facts ≡ middle.view.facts ++ told
  among : Contains told f
  payee : IsToPayee middle f

later_told : (m : Msg) (ms : List Msg) (w x : State) (f : Fact) → effect_of m w ≡ Ok x → IsToldAmong ms x f → IsToldAmong (m ∷ ms) w f
later_told m ms w x f e k = record {
  before = m ∷ k.before;
  message = k.message;
  after = k.after;
  messages_are = ap (λ xs. m ∷ xs) k.messages_are;
  middle = k.middle;
  carried_out = (x, e, k.carried_out);
  next = k.next;
  effect = k.effect;
  told = k.told;
  facts_are = k.facts_are;
  among = k.among;
  payee = k.payee;
}

-- each fact behind messages that are carried out stood before them, or one of them told it
told_among : (ms : List Msg) (w end : State) (f : Fact) → PayInTurn ms w → AreCarriedOut effect_of ms w end → Contains end.view.facts f → Contains w.view.facts f ⊎ IsToldAmong ms w f
told_among [] w end f p e h = inl (subst (λ x. Contains x.view.facts f) e h)
told_among (m ∷ ms) w end f p e h =
    let x : State = e.0 in
    let k : (PaysPayees w x × TellsItsPart m w x) × PayInTurn ms x = from_if (λ y. (PaysPayees w y × TellsItsPart m w y) × PayInTurn ms y) (effect_of m w) x e.1 p in
    by x e.1 k.0.0 (told_among ms x end f k.1 e.2 h)
  where
    here : (x : State) → effect_of m w ≡ Ok x → (k : PaysPayees w x) → Contains w.view.facts f ⊎ Contains k.told f → Contains w.view.facts f ⊎ IsToldAmong (m ∷ ms) w f
    here x e k (inl old) = inl old
    here x e k (inr new) = inr (record {
      before = [];
      message = m;
      after = ms;
      messages_are = refl;
      middle = w;
      carried_out = refl;
      next = x;
      effect = e;
      told = k.told;
      facts_are = k.facts_are;
      among = new;
      payee = All-contains (IsToPayee w) k.told f k.payees new;
    })

    by : (x : State) → effect_of m w ≡ Ok x → PaysPayees w x → Contains x.view.facts f ⊎ IsToldAmong ms x f → Contains w.view.facts f ⊎ IsToldAmong (m ∷ ms) w f
    by x e k (inl there) = here x e k (Contains-append_cases w.view.facts k.told f (subst (λ fs. Contains fs f) k.facts_are there))
    by x e k (inr later) = inr (later_told m ms w x f e later)

-- ---- the fee

-- a fact that is no payment of a reward
abbrev IsNoPayment : Fact → Type 0
IsNoPayment (fact.Paid who operator to reward coins) = ⊥
IsNoPayment _ = Unit {0}

transfer_only : (from to : Holder) (coins : Money) → All IsNoPayment (transfer_told from to coins [])
transfer_only from to [] = All-nil IsNoPayment
transfer_only from to (c ∷ cs) = All-cons IsNoPayment _ [] tt (All-nil IsNoPayment)

fee_only : (payer : List ℕ) (fee : Money) (w : State) → IfOk (fee_paid payer fee (without_facts w)) (λ x. All IsNoPayment x.view.facts)
fee_only payer fee w = on_stop (is_short w.view.bank (account.User payer) fee) Unpaid _ _ (λ a. transfer_only (account.User payer) (account.Module holder.FeeCollector) fee)

-- ---- transactions

module _ (some : List (List ℕ)) (few : length some ≤ 1_000_000) where
  abbrev P : List ℕ → Type 0
  P = Contains some

  messages_payees : (T : List ℕ → ℕ) (c : Ctx) (ms : List Msg) (w : State) → All MessageHasCoins ms → WholeFits P T c w → AreReached w → PayInTurn ms w
  messages_payees T c [] w a h r = tt
  messages_payees T c (m ∷ ms) w a h r =
      let first : MessageHasCoins m = All-head MessageHasCoins m ms a in
      let sound : IsSound w = sound_at some few T w h.fits in
      if_ok (λ x. (PaysPayees w x × TellsItsPart m w x) × PayInTurn ms x) (effect_of m w) (λ x e.
      let k = from_if (λ y. (MessageLeft P T w y × AreReached y) × PaysPayees w y) (effect_of m w) x e
      (both_if (effect_of m w) (λ y. MessageLeft P T w y × AreReached y) (PaysPayees w)
      (both_if (effect_of m w) (MessageLeft P T w) AreReached (message_fits P T m w first h.fits h.whole) (kept_at (effect_of m w) w r (message_kept m w first sound))) (message_payees m w first sound r)) in
      and_also (and_also k.1 (message_tells m w x sound e k.1)) (messages_payees T c ms x (All-tail MessageHasCoins m ms a) (fits_on P T c w x h k.0.0) k.0.1))

  -- the messages of a transaction do, from what the fee left
  paid_turn : (T : List ℕ → ℕ) (c : Ctx) (tx : Tx) (w paid : State) → TxHasCoins tx → WholeFits P T c w → AreReached w → fee_paid tx.payer tx.fee (without_facts w) ≡ Ok paid → PayInTurn tx.msgs paid
  paid_turn T c tx w paid a h r e =
      let w0 : State = without_facts w in
      let there : List ℕ → ℕ = total_in w0.view in
      let anew : WholeFits P there c w0 = whole_without P T c w h in
      let r0 : AreReached w0 = (λ d u found. r d u found) in
      let k = from_if (StateLeft P there w0) (fee_paid tx.payer tx.fee w0) paid e (fee_fits P there tx.payer tx.fee a.fee w0 anew.fits) in
      let reached : AreReached paid = from_if AreReached (fee_paid tx.payer tx.fee w0) paid e
      (kept_at (fee_paid tx.payer tx.fee w0) w0 r0 (messages_keep_reached.fees tx.payer tx.fee a.fee w0 (sound_at some few there w0 anew.fits))) in
      messages_payees there c tx.msgs paid a.messages (fits_on P there c w0 paid anew (at_moment P there w0 paid k)) reached

  tx_tells : (T : List ℕ → ℕ) (c : Ctx) (tx : Tx) (w : State) → TxHasCoins tx → WholeFits P T c w → AreReached w → TxTellsRewards tx w
  tx_tells T c tx w a h r accepted =
      let end : TxStep = tx_applied tx w in
      let k = by end.report.outcome end.report.facts end.state accepted (transactions_end_by effect_of tx w) in
      record { paid = k.0; fee = k.1; messages = k.2; facts_are = k.3 }
    where
      by : (o : Outcome) (facts : List Fact) (end : State) → o ≡ Accepted → EndsSo effect_of tx w o facts end
          → (paid : State) × (fee_paid tx.payer tx.fee (without_facts w) ≡ Ok paid) × TellInTurn tx.msgs paid end × (facts ≡ end.view.facts)
      by Accepted facts end q e = (e.0, e.1, told_in_turn tx.msgs e.0 end (paid_turn T c tx w e.0 a h r e.1) e.2, e.3)
      by FeeUnpaid facts end q e = absurd cc
      by (Refused place why) facts end q e = absurd cc

  tx_payees : (T : List ℕ → ℕ) (c : Ctx) (tx : Tx) (w : State) → TxHasCoins tx → WholeFits P T c w → AreReached w → TxPaysPayees tx w
  tx_payees T c tx w a h r who operator to reward coins there =
      let end : TxStep = tx_applied tx w in
      by end.report.outcome end.report.facts end.state (transactions_end_by effect_of tx w) there
    where
      f : Fact
      f = fact.Paid who operator to reward coins

      w0 : State
      w0 = without_facts w

      -- the fee tells no payment
      no_fee : (paid : State) → fee_paid tx.payer tx.fee w0 ≡ Ok paid → Contains paid.view.facts f → ⊥
      no_fee paid e h = All-contains IsNoPayment paid.view.facts f (from_if (λ x. All IsNoPayment x.view.facts) (fee_paid tx.payer tx.fee w0) paid e (fee_only tx.payer tx.fee w)) h

      behind : (paid : State) → fee_paid tx.payer tx.fee w0 ≡ Ok paid → Contains paid.view.facts f ⊎ IsToldAmong tx.msgs paid f → IsToldByMessage tx w f
      behind paid e (inl fee) = absurd (no_fee paid e fee)
      behind paid e (inr k) = record {
        paid = paid;
        fee = e;
        before = k.before;
        message = k.message;
        after = k.after;
        messages_are = k.messages_are;
        middle = k.middle;
        carried_out = k.carried_out;
        next = k.next;
        effect = k.effect;
        told = k.told;
        facts_are = k.facts_are;
        among = k.among;
        payee = k.payee;
      }

      by : (o : Outcome) (facts : List Fact) (end : State) → EndsSo effect_of tx w o facts end → Contains facts f → IsToldByMessage tx w f
      by Accepted facts end e found = behind e.0 e.1 (told_among tx.msgs e.0 end f (paid_turn T c tx w e.0 a h r e.1) e.2 (subst (λ fs. Contains fs f) e.3 found))
      by FeeUnpaid facts end e found = absurd (All-contains IsNoPayment [] f (All-nil IsNoPayment) (subst (λ fs. Contains fs f) e.2 found))
      by (Refused place why) facts end e found = absurd (no_fee e.0 e.1 (subst (λ fs. Contains fs f) e.4 found))

  txs_payees : (T : List ℕ → ℕ) (c : Ctx) (txs : List Tx) (w : State) → All TxHasCoins txs → WholeFits P T c w → AreReached w → InTurn TxPaysPayees txs w × InTurn TxTellsRewards txs w
  txs_payees T c [] w a h r = and_also tt tt
  txs_payees T c (tx ∷ txs) w a h r =
      let first : TxHasCoins tx = All-head TxHasCoins tx txs a in
      let rest = txs_payees (total_in (without_facts w).view) c txs (tx_applied tx w).state (All-tail TxHasCoins tx txs a) (tx_fits P T c tx w first h) (tx_reached some few T c tx w first h r) in
      and_also (and_also (tx_payees T c tx w first h r) rest.0) (and_also (tx_tells T c tx w first h r) rest.1)

-- ---- a block

-- what is told from no facts on
all_told : (w : State) (l k : Log) (gs : List Fact) (d : Shared) → Pays l [] k gs → KeepPayees (shared_in w).withdraw l d k → All (IsToPayee w) gs
all_told w l k gs d p q = subst (All (IsToPayee w)) (sym p.facts_are) (told_to_payees w l k [] gs d p q)

end_payees : (w : State) → IfOk (end_block (without_facts w)) (λ x. All (IsToPayee w) x.view.facts)
end_payees w =
    let w2 : State = without_facts w in
    let t : Payees = (shared_in w).withdraw in
    weaker_if (end_block w2) (λ x. PaysIn w2 x × KeepPayees t w.log x.hooks.0 x.log) (λ x. All (IsToPayee w) x.view.facts)
    (both_if (end_block w2) (PaysIn w2) (λ x. KeepPayees t w.log x.hooks.0 x.log) (end_paid w2) (end_carried (KeepPayees t w.log) (payees_carried t w.log) w2 (nothing_kept w.hooks.0 w.log)))
    (λ x k. all_told w w.log x.log x.view.facts x.hooks.0 k.0 k.1)

module _ (some : List (List ℕ)) (few : length some ≤ 1_000_000) where
  begun_payees : (b : Block) (w : State) → IfOk (begun_by b w) (HasPaid some few b w) → IfOk (begun_by b w) (λ x. HasPaid some few b w x × All (IsToPayee w) x.view.facts)
  begun_payees b w h =
      let w1 : State = without_facts (next_block b.height b.time w) in
      let t : Payees = (shared_in w).withdraw in
      weaker_if (begun_by b w) (λ x. HasPaid some few b w x × KeepPayees t w.log x.hooks.0 x.log) (λ x. HasPaid some few b w x × All (IsToPayee w) x.view.facts)
      (both_if (begun_by b w) (HasPaid some few b w) (λ x. KeepPayees t w.log x.hooks.0 x.log) h
      (begin_carried (KeepPayees t w.log) (payees_carried t w.log) b.votes b.evidence w1 (nothing_kept w.hooks.0 w.log)))
      (λ x k. (k.0, all_told w w.log x.log x.view.facts x.hooks.0 k.0.pays k.1))

  pub block_payees : (b : Block) (T : List ℕ → ℕ) (w : State) → All TxHasCoins b.txs → StateFits (Contains some) T w → AreReached w → w.view.ctx.height + 1 < 2 ^ 63 → IfOk (step b w) (BlockPaysPayees b w)
  block_payees b T w coins h r space =
      on_next (block_checked b w) _ _ (λ t e.
      let w1 : State = without_facts (next_block b.height b.time w) in
      on_lifted RatioLimit (begin_block b.votes b.evidence w1) _ _ (λ begun g.
      let k = from_if (λ x. HasPaid some few b w x × All (IsToPayee w) x.view.facts) (begun_by b w) begun g (begun_payees b w (begun_paid some few b T w h r space (same_tt t e))) in
      let done : State = (txs_applied b.txs begun).state in
      let told = txs_payees some few (total_in w1.view) w1.view.ctx b.txs begun coins k.0.begun_is.fits k.0.reached in
      on_lifted_then RatioLimit (end_block (without_facts done)) _ (λ x. All (IsToPayee done) x.view.facts) _ (end_payees done) (λ ended j. record {
        begun = begun;
        begins = g;
        parts = (refl, refl, refl);
        first = k.1;
        txs = told.0;
        asked = told.1;
        last = j;
      })))
    where
      same_tt : (t : ⊤) → block_checked b w ≡ Ok t → block_checked b w ≡ Ok tt
      same_tt t e = e

  -- ---- runs

  run_payees : (blocks : List Block) (T : List ℕ → ℕ) (w : State) → HaveCoins blocks → StateFits (Contains some) T w → AreReached w → w.view.ctx.height + length blocks < 2 ^ 63 → RunPaysPayees blocks w
  run_payees [] T w c h r space = tt
  run_payees (b ∷ blocks) T w c h r space =
      by (step b w) (block_fits (Contains some) b T w coins h (one (length blocks) space)) (block_reached some few b T w coins h r (one (length blocks) space)) (block_payees b T w coins h r (one (length blocks) space))
      (λ u k q e. run_payees blocks (total_in u.view) u (All-tail (λ (x : Block). All TxHasCoins x.txs) b blocks c) k q (fewer (length blocks) u.view.ctx.height space e))
    where
      coins : All TxHasCoins b.txs
      coins = All-head (λ (x : Block). All TxHasCoins x.txs) b blocks c

      one : (n : ℕ) → w.view.ctx.height + suc n < 2 ^ 63 → w.view.ctx.height + 1 < 2 ^ 63
      one n l = omega (arith, l)

      fewer : (n x : ℕ) → w.view.ctx.height + suc n < 2 ^ 63 → x ≡ w.view.ctx.height + 1 → x + n < 2 ^ 63
      fewer n x l e = omega (arith, l, e)

      by : (q : Result Step BlockFault) → IfOk q (StepFits (Contains some) w) → IfOk q (λ s. AreReached s.state) → IfOk q (BlockPaysPayees b w)
          → ((u : State) → StateFits (Contains some) (total_in u.view) u → AreReached u → u.view.ctx.height ≡ w.view.ctx.height + 1 → RunPaysPayees blocks u) → IfOk q (λ s. BlockPaysPayees b w s × RunPaysPayees blocks s.state)
      by (Ok s) k p g rest = (g, rest s.state k.fits p k.height)
      by (Err fault) k p g rest = tt

pub payees_are_of_the_moment : PayeesAreOfTheMoment
payees_are_of_the_moment = λ r.
    let s : IsWellStarted r.start = started_well r in
    let reached : AreReached r.start.state = from_if (λ x. AreReached x.state) (chain_started r.genesis) r.start r.started (genesis_is_reached r.genesis r.good) in
    run_payees s.sound.few.some s.sound.few.few r.blocks (total_in r.start.state.view) r.start.state r.input.coins (to_fits r.start.state s.sound) reached
    (room r.start.state.view.ctx.height (length r.blocks) s.height r.input.few)

-- ---- what tells no payment

pub none_in : {A : Type 0} (x : A) (xs : List A) → xs ≡ [] → Contains xs x → ⊥
none_in x xs e c = All-contains (λ y. ⊥) [] x (All-nil (λ y. ⊥)) (subst (λ ys. Contains ys x) e c)

pub nothing_tells_no_reward : NothingTellsNoReward
nothing_tells_no_reward m w t = none_in (fact.Paid m.delegator m.validator (payee_of (shared_in w) m.delegator) t.reward.0 t.reward.1) t.told (sym (append_cancel_left w.view.facts [] t.told (append-nil w.view.facts ∙ t.facts_are))) t.reward.2
