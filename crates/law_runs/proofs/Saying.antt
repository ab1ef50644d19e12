-- Each withdrawal that a block logs is fair by the log up to it, and it tells the payments that it logs; and so in runs.
use Rattle.std.proofs.Common.{◌≡◌, ◌∙◌, ℕ, suc, ◌+◌, ◌^◌, ◌<◌, ◌≤◌, Bool, true, false, List, [], ◌∷◌, ◌++◌, length, map, Result, Ok, Err, refl, sym, ap, subst, arith, append-nil, append_assoc, All, IfOk, Contains, if◌then◌else◌}
use Rattle.std.{specs.Prelude.⊤, proofs.lemmas.List.Elements.{All-head, All-tail}}
use Rattle.base_types.specs.declared.account.Account.{Account as Holder}
use Rattle.base_types.specs.declared.account.Account.TheVariants as account
use Rattle.base_types.specs.declared.account.Module.TheVariants as holder
use Rattle.base_coins.specs.Coins.{Money, fractions}
use Rattle.base_roles.specs.declared.{facts.Fact.Fact, messages.{Evidence.Evidence, Vote.Vote}, params.Ctx.Ctx}
use Rattle.base_roles.specs.{declared.refusal.Refusal.Refusal, Holdings.transfer_told, Log.Log}
use Rattle.base_roles.specs.Flow.{◌>>=◌, ◌>>◌, each}
use Rattle.base_roles.specs.declared.facts.Fact.TheVariants as fact
use Rattle.base_messages.specs.declared.{block.{Block.Block, Tx.Tx}, faults.BlockFault.BlockFault}
use Rattle.base_messages.specs.declared.{faults.BlockFault.TheVariants.RatioLimit, message.Msg.Msg}
use Rattle.base_messages.specs.declared.report.TxReport.{TxReport}
use Rattle.base_messages.specs.declared.message.Msg.TheVariants as msg
use Rattle.rule_machine.{proofs.DueLemmas.{IsDue, is_due}, specs.Blocks.block_fault}
use Rattle.rule_machine.specs.GenesisState.{chain_started, without_facts}
use Rattle.rule_machine.specs.Machine.{Step, TxSteps, votes_checked, evidence_checked, block_checked, stop_at, step, tx_applied, txs_applied, reported_as}
use Rattle.rule_machine.specs.{Messages.effect_of, Promises.{MessageHasCoins, TxHasCoins, facts_of}}
use Rattle.rule_modules.specs.Amounts.{is_empty}
use Rattle.rule_modules.specs.Chain.{State, allocation_step, begin_block, end_block, evidence_step, maturing_step, redelegations_step, set_step, unbondings_step, vote_step}
use Rattle.rule_modules.specs.{Effects.{after_fee, effects_of, fee_paid, stands_or_fee}, Laws.next_block}
use Rattle.rule_modules.{specs.{Purses.pooled_told, Sound.IsSound}, proofs.GoingLemmas.on_next}
use Rattle.law_soundness.proofs.{Burns.total_in, Following.next_fits, Moves.fee_fits}
use Rattle.law_soundness.proofs.Points.{MessageLeft, StateFits, StateLeft, at_moment, to_fits}
use Rattle.law_soundness.proofs.Running.{AreKnown, AreDistinct, CountBelow, HasBegun, HaveCoins, AllocatedLeft, StepFits, next_ok, first_ok, votes_are, counts_on, allocated_left, begun_fits, block_fits}
use Rattle.law_soundness.proofs.Starting.{IsWellStarted, room, started_well}
use Rattle.law_soundness.proofs.Steps.{from_if, on_lifted_then, on_then, weaker_if}
use Rattle.law_soundness.proofs.Transactions.{WholeFits, fits_on, message_fits, tx_fits, whole_without, without_facts_fits}
use Rattle.law_soundness.proofs.Voting.{EvidenceLeft, VoteLeft, evidence_fits, own_record, vote_fits}
use Rattle.law_soundness.specs.Kept.{begun_by}
use Rattle.law_rewards.specs.{States.AreReached, StateLaws.NoneStartedHere}
use Rattle.law_rewards.specs.Withdrawals.{AreFair, payments_in, payments_of, IsSent, AreSent}
use Rattle.law_rewards.{specs.WithdrawalLaws.{PaysFairly, PaysWhereReached}, proofs.Allocating.none_started_in_next}
use Rattle.law_rewards.proofs.Closing.{allocation_pays, maturing_pays, redelegations_pay, set_pays, unbondings_pay}
use Rattle.law_rewards.proofs.{Endings.next_block_keeps_reached, Hitting.{votes_pay_fairly, evidence_pays_fairly}}
use Rattle.law_rewards.proofs.Paying.{Pays, pays_then, pays_nothing, fair_joined, payments_joined, sent_joined}
use Rattle.law_rewards.proofs.{Punishing.{votes_keep_reached, evidence_keeps_reached}, Staking.PaysIn}
use Rattle.law_rewards.proofs.{Telling.{messages_pay_fairly, undelegate_pays}, Together.messages_keep_reached}
use Rattle.law_runs.specs.{Runs.SaysFairly, RunLaws.{RunSaysFairly, BlocksSayFairly, RunsSayFairly}}
use Rattle.law_runs.proofs.Running.{kept_at, both_if, message_kept, sound_at, tx_reached, votes_reached, allocation_reached, begin_reached, same_counts, block_reached}
use Rattle.law_runs.proofs.Starts.{genesis_is_reached}

-- what is told from no facts on
told_all : (l k : Log) (gs : List Fact) (p : Pays l [] k gs) → payments_in gs ≡ payments_of p.more
told_all l k gs p = ap payments_in p.facts_are ∙ p.payments

sent_all : (l k : Log) (gs : List Fact) (p : Pays l [] k gs) → AreSent [] gs
sent_all l k gs p = subst (λ fs. AreSent [] fs) (sym p.facts_are) p.sent

-- ---- facts behind others are sent as before

transfer_behind : (first fs : List Fact) (from to : Holder) (coins : Money) → first ++ transfer_told from to coins fs ≡ transfer_told from to coins (first ++ fs)
transfer_behind first fs from to [] = refl
transfer_behind first fs from to (c ∷ cs) = sym (append_assoc first fs (fact.Transfer from to (c ∷ cs) ∷ []))

pooled_behind : (first fs : List Fact) (coins : Money) → first ++ pooled_told coins fs ≡ pooled_told coins (first ++ fs)
pooled_behind first fs coins = by (is_empty coins)
  where
    by : (b : Bool) → Path (List Fact) (first ++ (if b then fs else fs ++ fact.Pooled coins ∷ [])) (if b then first ++ fs else (first ++ fs) ++ fact.Pooled coins ∷ [])
    by true = refl
    by false = sym (append_assoc first fs (fact.Pooled coins ∷ []))

one_behind : (first before : List Fact) (f : Fact) → IsSent before f → IsSent (first ++ before) f
one_behind first before (fact.Paid who op to reward coins) h =
    let from : Holder = account.Module holder.Distribution in (
      first ++ h.0,
      ap (λ fs. first ++ fs) h.1 ∙ pooled_behind first (transfer_told from (account.User to) coins h.0) (fractions reward)
          ∙ ap (λ fs. pooled_told (fractions reward) fs) (transfer_behind first h.0 from (account.User to) coins),
    )
one_behind first before f h = tt

sent_behind : (first before fs : List Fact) → AreSent before fs → AreSent (first ++ before) fs
sent_behind first before [] h = tt
sent_behind first before (f ∷ fs) h =
    (one_behind first before f h.0, subst (λ m. AreSent m fs) (sym (append_assoc first before (f ∷ []))) (sent_behind first (before ++ f ∷ []) fs h.1))

pub both_sent : (fs gs : List Fact) → AreSent [] fs → AreSent [] gs → AreSent [] (fs ++ gs)
both_sent fs gs h k = sent_joined [] fs gs h (subst (λ m. AreSent m gs) (append-nil fs) (sent_behind fs [] gs k))

-- ---- steps

in_parts : (w x : State) → PaysFairly w x → PaysIn w x
in_parts w x p = record { more = p.more; log_is = p.log_is; told = p.told; facts_are = p.facts_are; fair = p.fair; payments = p.payments; sent = p.sent }

paid_at : {E : Type 0} (r : Result State E) (w : State) → AreReached w → IfOk r (PaysWhereReached w) → IfOk r (PaysIn w)
paid_at (Ok x) w reached h = in_parts w x (h reached)
paid_at (Err e) w reached h = tt

pays_on : {E : Type 0} (r : Result State E) (w x : State) → PaysIn w x → IfOk r (PaysIn x) → IfOk r (PaysIn w)
pays_on (Ok y) w x p h = pays_then w.log x.log y.log w.view.facts x.view.facts y.view.facts p h
pays_on (Err e) w x p h = tt

-- ---- messages

pub message_paid : (m : Msg) (w : State) → MessageHasCoins m → IsSound w → AreReached w → IfOk (effect_of m w) (PaysIn w)
message_paid (msg.Send m) w c s r = paid_at (effect_of (msg.Send m) w) w r (messages_pay_fairly.sends m.from m.to m.coins c w s)
message_paid (msg.CreateValidator m) w c s r = paid_at (effect_of (msg.CreateValidator m) w) w r (messages_pay_fairly.creates m w s)
message_paid (msg.EditValidator m) w c s r = paid_at (effect_of (msg.EditValidator m) w) w r (messages_pay_fairly.edits m w s)
message_paid (msg.Delegate m) w c s r = paid_at (effect_of (msg.Delegate m) w) w r (messages_pay_fairly.delegates m.delegator m.validator m.amount w s)
message_paid (msg.Undelegate m) w c s r = undelegate_pays m.delegator m.validator m.amount w s r
message_paid (msg.BeginRedelegate m) w c s r = paid_at (effect_of (msg.BeginRedelegate m) w) w r (messages_pay_fairly.redelegates m.delegator m.source m.target m.amount w s)
message_paid (msg.CancelUnbonding m) w c s r = paid_at (effect_of (msg.CancelUnbonding m) w) w r (messages_pay_fairly.cancels m.delegator m.validator m.amount m.creation_height w s)
message_paid (msg.Unjail m) w c s r = paid_at (effect_of (msg.Unjail m) w) w r (messages_pay_fairly.unjails m.validator w s)
message_paid (msg.WithdrawReward m) w c s r = paid_at (effect_of (msg.WithdrawReward m) w) w r (messages_pay_fairly.withdraws m.delegator m.validator w s)
message_paid (msg.WithdrawCommission m) w c s r = paid_at (effect_of (msg.WithdrawCommission m) w) w r (messages_pay_fairly.commissions m.validator w s)
message_paid (msg.SetWithdrawAddress m) w c s r = paid_at (effect_of (msg.SetWithdrawAddress m) w) w r (messages_pay_fairly.payees m.delegator m.withdraw w s)
message_paid (msg.FundCommunityPool m) w c s r = paid_at (effect_of (msg.FundCommunityPool m) w) w r (messages_pay_fairly.funds m.depositor m.coins c w s)
message_paid (msg.CommunityPoolSpend m) w c s r = paid_at (effect_of (msg.CommunityPoolSpend m) w) w r (messages_pay_fairly.spends m.authority m.recipient m.coins c w s)
message_paid (msg.UpdateParams m) w c s r = paid_at (effect_of (msg.UpdateParams m) w) w r (messages_pay_fairly.updates m.authority m.params w s)

-- the payments among the facts of transactions, one after the other, are those of a log
abbrev ToldInTurn : List TxReport → Log → Type 0
ToldInTurn ts l =
    (g : List TxReport → List Fact) → g [] ≡ [] → ((t : TxReport) (us : List TxReport) → g (t ∷ us) ≡ t.facts ++ g us) → payments_in (g ts) ≡ payments_of l

-- and each is sent
abbrev SentInTurn : List TxReport → Type 0
SentInTurn ts =
    (g : List TxReport → List Fact) → g [] ≡ [] → ((t : TxReport) (us : List TxReport) → g (t ∷ us) ≡ t.facts ++ g us) → AreSent [] (g ts)

-- what transactions say
record TxsSay (w : State) (x : TxSteps) : Type 0 where
  more : Log
  log_is : x.state.log ≡ w.log ++ more
  fair : AreFair w.log more
  payments : ToldInTurn x.reports more
  sent : SentInTurn x.reports

-- the facts of a block's beginning, of its transactions and of its end
payments_by_parts : (begun ended : List Fact) (g : List TxReport → List Fact) → g [] ≡ [] → ((t : TxReport) (us : List TxReport) → g (t ∷ us) ≡ t.facts ++ g us) → (ts : List TxReport) (a b c : Log)
    → payments_in begun ≡ payments_of a → ToldInTurn ts b → payments_in ended ≡ payments_of c → payments_in (begun ++ g ts ++ ended) ≡ payments_of ((a ++ b) ++ c)
payments_by_parts begun ended g none more ts a b c h k e = payments_joined (begun ++ g ts) ended (a ++ b) c (payments_joined begun (g ts) a b h (k g none more)) e

payments_by_block : (height time : ℕ) (begun ended : List Fact) (ts : List TxReport) (a b c : Log) → payments_in begun ≡ payments_of a → ToldInTurn ts b → payments_in ended ≡ payments_of c
    → payments_in (facts_of (record { height = height; time = time; begun = begun; txs = ts; ended = ended })) ≡ payments_of ((a ++ b) ++ c)
payments_by_block height time begun ended = payments_by_parts begun ended _ refl (λ t us. refl)

sent_by_parts : (begun ended : List Fact) (g : List TxReport → List Fact) → g [] ≡ [] → ((t : TxReport) (us : List TxReport) → g (t ∷ us) ≡ t.facts ++ g us) → (ts : List TxReport)
    → AreSent [] begun → SentInTurn ts → AreSent [] ended → AreSent [] (begun ++ g ts ++ ended)
sent_by_parts begun ended g none more ts h k e = both_sent (begun ++ g ts) ended (both_sent begun (g ts) h (k g none more)) e

sent_by_block : (height time : ℕ) (begun ended : List Fact) (ts : List TxReport) → AreSent [] begun → SentInTurn ts → AreSent [] ended
    → AreSent [] (facts_of (record { height = height; time = time; begun = begun; txs = ts; ended = ended }))
sent_by_block height time begun ended = sent_by_parts begun ended _ refl (λ t us. refl)

module _ (some : List (List ℕ)) (few : length some ≤ 1_000_000) where
  abbrev P : List ℕ → Type 0
  P = Contains some

  messages_paid : (T : List ℕ → ℕ) (c : Ctx) (place : ℕ) (ms : List Msg) (w : State) → All MessageHasCoins ms → WholeFits P T c w → AreReached w → IfOk (effects_of place (map effect_of ms) w) (PaysIn w)
  messages_paid T c place [] w a h r = pays_nothing w.log w.view.facts
  messages_paid T c place (m ∷ ms) w a h r =
      let first : MessageHasCoins m = All-head MessageHasCoins m ms a in
      let sound : IsSound w = sound_at some few T w h.fits in
      on_lifted_then (λ why. (place, why)) (effect_of m w) _ (λ x. (MessageLeft P T w x × AreReached x) × PaysIn w x) _
      (both_if (effect_of m w) (λ x. MessageLeft P T w x × AreReached x) (PaysIn w)
      (both_if (effect_of m w) (MessageLeft P T w) AreReached (message_fits P T m w first h.fits h.whole) (kept_at (effect_of m w) w r (message_kept m w first sound))) (message_paid m w first sound r))
      (λ x k. pays_on (effects_of (place + 1) (map effect_of ms) x) w x k.1
      (messages_paid T c (place + 1) ms x (All-tail MessageHasCoins m ms a) (fits_on P T c w x h k.0.0) k.0.1))

  ends_paid : (w paid : State) (r : Result State (ℕ × Refusal)) → PaysIn w paid → IfOk r (PaysIn w) → PaysIn w (reported_as (stands_or_fee paid r)).state
  ends_paid w paid (Ok x) p q = q
  ends_paid w paid (Err stop) p q = p

  tx_paid : (T : List ℕ → ℕ) (c : Ctx) (tx : Tx) (w : State) → TxHasCoins tx → WholeFits P T c w → AreReached w → PaysIn (without_facts w) (tx_applied tx w).state
  tx_paid T c tx w a h r =
      by (fee_paid tx.payer tx.fee w0) (fee_fits P T0 tx.payer tx.fee a.fee w0 h0.fits)
      (kept_at (fee_paid tx.payer tx.fee w0) w0 r0 (messages_keep_reached.fees tx.payer tx.fee a.fee w0 (sound_at some few T0 w0 h0.fits)))
      (paid_at (fee_paid tx.payer tx.fee w0) w0 r0 (messages_pay_fairly.fees tx.payer tx.fee a.fee w0 (sound_at some few T0 w0 h0.fits)))
    where
      w0 : State
      w0 = without_facts w

      T0 : List ℕ → ℕ
      T0 = total_in w0.view

      h0 : WholeFits P T0 c w0
      h0 = whole_without P T c w h

      r0 : AreReached w0
      r0 = λ d u there. r d u there

      by : (q : Result State Refusal) → IfOk q (StateLeft P T0 w0) → IfOk q AreReached → IfOk q (PaysIn w0) → PaysIn w0 (reported_as (after_fee (map effect_of tx.msgs) w0 q)).state
      by (Ok paid) k p g =
          ends_paid w0 paid (effects_of 0 (map effect_of tx.msgs) paid) g
          (pays_on (effects_of 0 (map effect_of tx.msgs) paid) w0 paid g (messages_paid T0 c 0 tx.msgs paid a.messages (fits_on P T0 c w0 paid h0 (at_moment P T0 w0 paid k)) p))
      by (Err why) k p g = pays_nothing w0.log w0.view.facts

  txs_paid : (T : List ℕ → ℕ) (c : Ctx) (txs : List Tx) (w : State) → All TxHasCoins txs → WholeFits P T c w → AreReached w → TxsSay w (txs_applied txs w)
  txs_paid T c [] w a h r = record { more = []; log_is = sym (append-nil w.log); fair = tt; payments = λ g none more. ap payments_in none; sent = λ g none more. subst (λ fs. AreSent [] fs) (sym none) tt }
  txs_paid T c (tx ∷ txs) w a h r =
      let first : TxHasCoins tx = All-head TxHasCoins tx txs a in
      let next : State = (tx_applied tx w).state in
      let one : PaysIn (without_facts w) next = tx_paid T c tx w first h r in
      let rest : TxsSay next (txs_applied txs next) = txs_paid (total_in (without_facts w).view) c txs next (All-tail TxHasCoins tx txs a) (tx_fits P T c tx w first h) (tx_reached some few T c tx w first h r) in
      record {
        more = one.more ++ rest.more;
        log_is = rest.log_is ∙ ap (λ l. l ++ rest.more) one.log_is ∙ append_assoc w.log one.more rest.more;
        fair = fair_joined w.log one.more rest.more one.fair (subst (λ l. AreFair l rest.more) one.log_is rest.fair);
        payments = λ g none more. ap payments_in (more (tx_applied tx w).report (txs_applied txs next).reports)
            ∙ payments_joined next.view.facts (g (txs_applied txs next).reports) one.more rest.more (told_all w.log next.log next.view.facts one) (rest.payments g none more);
        sent = λ g none more. subst (λ fs. AreSent [] fs) (sym (more (tx_applied tx w).report (txs_applied txs next).reports))
            (both_sent next.view.facts (g (txs_applied txs next).reports) (sent_all w.log next.log next.view.facts one) (rest.sent g none more));
      }

  -- ---- the beginning and the end of a block

  votes_paid : (T : List ℕ → ℕ) (ts : List Vote) (w : State) → StateFits P T w → AreReached w → AreDistinct ts → CountBelow w ts → IfOk (each vote_step ts w) (PaysIn w)
  votes_paid T [] w h r d c = pays_nothing w.log w.view.facts
  votes_paid T (t ∷ ts) w h r d c =
      let sound : IsSound w = sound_at some few T w h in
      on_then {B = State} (vote_step t w) (λ x. each vote_step ts x) (λ x. (VoteLeft P T t.cons w x × AreReached x) × PaysIn w x) (PaysIn w)
      (both_if (vote_step t w) (λ x. VoteLeft P T t.cons w x × AreReached x) (PaysIn w)
      (both_if (vote_step t w) (VoteLeft P T t.cons w) AreReached (vote_fits P T t w h c.0) (kept_at (vote_step t w) w r (votes_keep_reached t w sound))) (paid_at (vote_step t w) w r (votes_pay_fairly t w sound)))
      (λ x k. pays_on (each vote_step ts x) w x k.1 (votes_paid T ts x k.0.0.fits k.0.1 d.1 (counts_on P T w x t ts k.0.0.ctx k.0.0.others d.0 c.1)))

  evidence_paid : (T : List ℕ → ℕ) (es : List Evidence) (w : State) → StateFits P T w → AreReached w → IfOk (each evidence_step es w) (PaysIn w)
  evidence_paid T [] w h r = pays_nothing w.log w.view.facts
  evidence_paid T (e ∷ es) w h r =
      let sound : IsSound w = sound_at some few T w h in
      on_then {B = State} (evidence_step e w) (λ x. each evidence_step es x) (λ x. (EvidenceLeft P T w x × AreReached x) × PaysIn w x) (PaysIn w)
      (both_if (evidence_step e w) (λ x. EvidenceLeft P T w x × AreReached x) (PaysIn w)
      (both_if (evidence_step e w) (EvidenceLeft P T w) AreReached (evidence_fits P T e w h) (kept_at (evidence_step e w) w r (evidence_keeps_reached e w sound))) (paid_at (evidence_step e w) w r (evidence_pays_fairly e w sound)))
      (λ x k. pays_on (each evidence_step es x) w x k.1 (evidence_paid T es x k.0.0.fits k.0.1))

  begin_paid : (T : List ℕ → ℕ) (votes : List Vote) (evidence : List Evidence) (w : State) → StateFits P T w → IfOk (allocation_step votes w) AreReached → AreKnown w.mine.staked votes → AreDistinct votes → CountBelow w votes
      → IfOk (begin_block votes evidence w) (PaysIn w)
  begin_paid T votes evidence w h allocated known distinct below =
      on_then {B = State} (allocation_step votes w) (λ x. each vote_step votes x >>= λ y. each evidence_step evidence y) (λ x. (AllocatedLeft P T w x × AreReached x) × PaysIn w x) (PaysIn w)
      (both_if (allocation_step votes w) (λ x. AllocatedLeft P T w x × AreReached x) (PaysIn w) (both_if (allocation_step votes w) (AllocatedLeft P T w) AreReached (allocated_left P T votes w h known) allocated) (allocation_pays votes w))
      (λ x k.
      let counts : CountBelow x votes = same_counts some few w x k.0.0.left.ctx k.0.0.window votes below in
      on_then {B = State} (each vote_step votes x) (λ y. each evidence_step evidence y) (λ y. (StateFits P T y × AreReached y) × PaysIn w y) (PaysIn w)
      (both_if (each vote_step votes x) (λ y. StateFits P T y × AreReached y) (PaysIn w) (votes_reached some few T votes x k.0.0.left.fits k.0.1 distinct counts)
      (pays_on (each vote_step votes x) w x k.1 (votes_paid T votes x k.0.0.left.fits k.0.1 distinct counts)))
      (λ y j. pays_on (each evidence_step evidence y) w y j.1 (evidence_paid T evidence y j.0.0 j.0.1)))

-- the end of a block pays no reward
pub end_paid : (w : State) → IfOk (end_block w) (PaysIn w)
end_paid w =
    on_then {B = State} (set_step w) (λ a. maturing_step a >>= λ b. unbondings_step b >>= λ c. redelegations_step c) (PaysIn w) (PaysIn w) (set_pays w) (λ a ka.
    on_then {B = State} (maturing_step a) (λ b. unbondings_step b >>= λ c. redelegations_step c) (PaysIn w) (PaysIn w) (pays_on (maturing_step a) w a ka (maturing_pays a)) (λ b kb.
    on_then {B = State} (unbondings_step b) (λ c. redelegations_step c) (PaysIn w) (PaysIn w) (pays_on (unbondings_step b) w b kb (unbondings_pay b)) (λ c kc.
    pays_on (redelegations_step c) w c kc (redelegations_pay c))))

-- ---- a block

-- three parts of a log, and what was told in them
record Parts (w : State) (k1 k2 k3 : Log) (begun : List Fact) (reports : List TxReport) (ended : List Fact) : Type 0 where
  first : Pays w.log [] k1 begun
  more : Log
  log_is : k2 ≡ k1 ++ more
  fair : AreFair k1 more
  payments : ToldInTurn reports more
  sent : SentInTurn reports
  last : Pays k2 [] k3 ended

said : (w : State) (height time : ℕ) (k1 k2 : Log) (begun ended : List Fact) (reports : List TxReport) (x : State) → Parts w k1 k2 x.log begun reports ended
    → SaysFairly w (record { report = record { height = height; time = time; begun = begun; txs = reports; ended = ended }; state = without_facts x })
said w height time k1 k2 begun ended reports x p =
    let a : Log = p.first.more in
    let b : Log = p.more in
    let c : Log = p.last.more in
    let all : Log = (a ++ b) ++ c in
    let behind : k2 ≡ w.log ++ (a ++ b) = p.log_is ∙ ap (λ l. l ++ b) p.first.log_is ∙ append_assoc w.log a b in
    record {
      more = all;
      log_is = p.last.log_is ∙ ap (λ l. l ++ c) behind ∙ append_assoc w.log (a ++ b) c;
      fair = fair_joined w.log (a ++ b) c (fair_joined w.log a b p.first.fair (subst (λ l. AreFair l b) p.first.log_is p.fair)) (subst (λ l. AreFair l c) behind p.last.fair);
      payments = payments_by_block height time begun ended reports a b c (told_all w.log k1 begun p.first) p.payments (told_all k2 x.log ended p.last);
      sent = sent_by_block height time begun ended reports (sent_all w.log k1 begun p.first) p.sent (sent_all k2 x.log ended p.last);
    }

module _ (some : List (List ℕ)) (few : length some ≤ 1_000_000) where
  -- what a block's beginning leaves and pays
  pub record HasPaid (b : Block) (w begun : State) : Type 0 where
    pub begun_is : HasBegun (Contains some) b w begun
    pub reached : AreReached begun
    pub pays : PaysIn (without_facts (next_block b.height b.time w)) begun

  -- where the block may follow
  pub begun_paid : (b : Block) (T : List ℕ → ℕ) (w : State) → StateFits (Contains some) T w → AreReached w → w.view.ctx.height + 1 < 2 ^ 63 → block_checked b w ≡ Ok tt → IfOk (begun_by b w) (HasPaid b w)
  begun_paid b T w h r space e =
      let due : IsDue b w = is_due b w e in
      let checks = next_ok (stop_at (block_fault w.view.ctx.height w.view.ctx.time b)) (votes_checked w.mine.staked w.view.ctx.params.power_reduction [] b.votes >> evidence_checked b w.view.ctx.params.power_reduction 0 b.evidence) tt e in
      let first = first_ok (votes_checked w.mine.staked w.view.ctx.params.power_reduction [] b.votes) (evidence_checked b w.view.ctx.params.power_reduction 0 b.evidence) tt checks in
      let votes = votes_are w.mine.staked w.view.ctx.params.power_reduction b.votes [] first.1 in
      let w1 : State = without_facts (next_block b.height b.time w) in
      let there : List ℕ → ℕ = total_in w1.view in
      let later : w.view.ctx.height < b.height = above b.height w.view.ctx.height due.height in
      let fits1 : StateFits (Contains some) there w1 =
      without_facts_fits (Contains some) T (next_block b.height b.time w) (next_fits (Contains some) T b.height b.time w h (at_least b.height w.view.ctx.height due.height) (at_height b.height w.view.ctx.height due.height space) due.before_end) in
      let next : AreReached (next_block b.height b.time w) = next_block_keeps_reached w b.height b.time later r in
      let reached1 : AreReached w1 = λ d u found. next d u found in
      let none : NoneStartedHere w1 = none_started_in_next w b.height b.time (sound_at some few T w h) later in
      let allocated : IfOk (allocation_step b.votes w1) AreReached = allocation_reached some few there b.votes w1 fits1 reached1 none in
      weaker_if (begin_block b.votes b.evidence w1) (λ x. (HasBegun (Contains some) b w x × AreReached x) × PaysIn w1 x) (HasPaid b w)
      (both_if (begin_block b.votes b.evidence w1) (λ x. HasBegun (Contains some) b w x × AreReached x) (PaysIn w1)
      (both_if (begin_block b.votes b.evidence w1) (HasBegun (Contains some) b w) AreReached (begun_fits (Contains some) b T w h space e)
      (begin_reached some few there b.votes b.evidence w1 fits1 reached1 none votes.0 votes.1 (below b.votes due.height)))
      (begin_paid some few there b.votes b.evidence w1 fits1 allocated votes.0 votes.1 (below b.votes due.height)))
      (λ x k. record { begun_is = k.0.0; reached = k.0.1; pays = k.1 })
    where
      at_least : (a n : ℕ) → a ≡ n + 1 → n ≤ a
      at_least a n e = omega (arith, e)

      above : (a n : ℕ) → a ≡ n + 1 → n < a
      above a n e = omega (arith, e)

      at_height : (a n : ℕ) → a ≡ n + 1 → n + 1 < 2 ^ 63 → a < 2 ^ 63
      at_height a n e l = omega (arith, e, l)

      below : (ts : List Vote) → b.height ≡ w.view.ctx.height + 1 → CountBelow (without_facts (next_block b.height b.time w)) ts
      below [] e = tt
      below (t ∷ ts) e = (λ s f. let own = own_record w.view.ctx.height t.cons s w.hooks.1 h.stake.window f in let counted = own.counted in omega (arith, counted, e), below ts e)

  pub block_paid : (b : Block) (T : List ℕ → ℕ) (w : State) → All TxHasCoins b.txs → StateFits (Contains some) T w → AreReached w → w.view.ctx.height + 1 < 2 ^ 63 → IfOk (step b w) (SaysFairly w)
  block_paid b T w coins h r space =
      on_next (block_checked b w) _ _ (λ t e.
      let w1 : State = without_facts (next_block b.height b.time w) in
      on_lifted_then RatioLimit (begin_block b.votes b.evidence w1) _ (HasPaid b w) _ (begun_paid b T w h r space (same_tt t e)) (λ begun k.
      let done : TxSteps = txs_applied b.txs begun in
      let txs : TxsSay begun done = txs_paid some few (total_in w1.view) w1.view.ctx b.txs begun coins k.begun_is.fits k.reached in
      let w2 : State = without_facts done.state in
      on_lifted_then RatioLimit (end_block w2) _ (PaysIn w2) _ (end_paid w2) (λ ended j.
      said w b.height b.time begun.log done.state.log begun.view.facts ended.view.facts done.reports ended (record { first = k.pays; more = txs.more; log_is = txs.log_is; fair = txs.fair; payments = txs.payments; sent = txs.sent; last = j }))))
    where
      same_tt : (t : ⊤) → block_checked b w ≡ Ok t → block_checked b w ≡ Ok tt
      same_tt t e = e

  -- ---- runs

  run_paid : (blocks : List Block) (T : List ℕ → ℕ) (w : State) → HaveCoins blocks → StateFits (Contains some) T w → AreReached w → w.view.ctx.height + length blocks < 2 ^ 63 → RunSaysFairly blocks w
  run_paid [] T w c h r space = tt
  run_paid (b ∷ blocks) T w c h r space =
      by (step b w) (block_fits (Contains some) b T w coins h (one (length blocks) space)) (block_reached some few b T w coins h r (one (length blocks) space)) (block_paid b T w coins h r (one (length blocks) space))
      (λ u k q e. run_paid blocks (total_in u.view) u (All-tail (λ (x : Block). All TxHasCoins x.txs) b blocks c) k q (fewer (length blocks) u.view.ctx.height space e))
    where
      coins : All TxHasCoins b.txs
      coins = All-head (λ (x : Block). All TxHasCoins x.txs) b blocks c

      one : (n : ℕ) → w.view.ctx.height + suc n < 2 ^ 63 → w.view.ctx.height + 1 < 2 ^ 63
      one n l = omega (arith, l)

      fewer : (n x : ℕ) → w.view.ctx.height + suc n < 2 ^ 63 → x ≡ w.view.ctx.height + 1 → x + n < 2 ^ 63
      fewer n x l e = omega (arith, l, e)

      by : (q : Result Step BlockFault) → IfOk q (StepFits (Contains some) w) → IfOk q (λ s. AreReached s.state) → IfOk q (SaysFairly w)
          → ((u : State) → StateFits (Contains some) (total_in u.view) u → AreReached u → u.view.ctx.height ≡ w.view.ctx.height + 1 → RunSaysFairly blocks u) → IfOk q (λ s. SaysFairly w s × RunSaysFairly blocks s.state)
      by (Ok s) k p g rest = (g, rest s.state k.fits p k.height)
      by (Err fault) k p g rest = tt

pub blocks_say_fairly : BlocksSayFairly
blocks_say_fairly = λ b w coins s reached space. block_paid s.few.some s.few.few b (total_in w.view) w coins (to_fits w s) reached space

pub runs_say_fairly : RunsSayFairly
runs_say_fairly = λ r.
    let s : IsWellStarted r.start = started_well r in
    let reached : AreReached r.start.state = from_if (λ x. AreReached x.state) (chain_started r.genesis) r.start r.started (genesis_is_reached r.genesis r.good) in
    run_paid s.sound.few.some s.sound.few.few r.blocks (total_in r.start.state.view) r.start.state r.input.coins (to_fits r.start.state s.sound) reached
    (room r.start.state.view.ctx.height (length r.blocks) s.height r.input.few)
