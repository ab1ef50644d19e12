-- Blocks keep accounts reached, and so do runs of them: each step is from a sound state.
use Rattle.std.proofs.Common.{◌≡◌, ◌∙◌, ℕ, suc, ◌+◌, ◌^◌, ◌<◌, ◌≤◌, false, List, [], ◌∷◌, length, map, Result, Ok, Err, sym, ap, subst, arith, All, IfOk, Contains}
use Rattle.std.{specs.{Prelude.⊤, List.AllByRecursion}, proofs.lemmas.List.Elements.{All-head, All-tail}}
use Rattle.base_types.specs.declared.account.Account.{Account}
use Rattle.base_types.specs.declared.account.Account.TheVariants as account
use Rattle.base_types.specs.declared.account.Module.TheVariants as holder
use Rattle.base_coins.{specs.Coins.{Money, IsMoney, amount_of}, proofs.Order.{Rises, money_from_rises}}
use Rattle.base_roles.specs.declared.{messages.{Evidence.Evidence, Vote.Vote}, params.Ctx.Ctx}
use Rattle.base_roles.specs.{Holdings.{balance_of, coins_of, is_short}, Flow.{◌>>=◌, ◌>>◌, each}}
use Rattle.base_roles.{specs.declared.refusal.Refusal.Refusal, proofs.MomentLemmas.same_moment}
use Rattle.base_messages.specs.declared.{block.{Block.Block, Tx.Tx}, faults.BlockFault.BlockFault}
use Rattle.base_messages.specs.declared.{faults.BlockFault.TheVariants.RatioLimit, message.Msg.Msg}
use Rattle.base_messages.specs.declared.message.Msg.TheVariants as msg
use Rattle.rule_machine.proofs.{DueLemmas.{IsDue, is_due}, PurseLemmas.{coins-amount, coins-rise}}
use Rattle.rule_machine.specs.{Blocks.block_fault, GenesisState.without_facts}
use Rattle.rule_machine.specs.Machine.{Step, TxSteps, votes_checked, evidence_checked, block_checked, stop_at, step, going_on, run_of, tx_applied, txs_applied, reported_as}
use Rattle.rule_machine.specs.{Messages.effect_of, Promises.{MessageHasCoins, TxHasCoins}}
use Rattle.rule_modules.specs.Amounts.{in_units}
use Rattle.rule_modules.specs.Chain.{State, allocation_step, begin_block, end_block, evidence_step, maturing_step, redelegations_step, set_step, unbondings_step, vote_step}
use Rattle.rule_modules.specs.{Effects.{after_fee, effects_of, fee_paid, stands_or_fee}, Laws.next_block, Sound.IsSound}
use Rattle.rule_modules.{specs.Window.signing_of, proofs.GoingLemmas.on_next}
use Rattle.law_soundness.proofs.{Bank.each_within, Bonding.set_step_fits, Burns.total_in, Ending.unbondings_fit}
use Rattle.law_soundness.proofs.{Entries.to_pairs, Following.next_fits, Maturing.maturing_fits, Moves.fee_fits}
use Rattle.law_soundness.proofs.Names.{AreNamed, units_known}
use Rattle.law_soundness.proofs.Points.{AreAllWhole, MessageLeft, StateFits, StateLeft, WholeEntries, at_moment, from_fits, to_fits}
use Rattle.law_soundness.proofs.Purses.{enough_held}
use Rattle.law_soundness.proofs.Running.{AreKnown, AreDistinct, CountBelow, HaveCoins, BegunLeft, AllocatedLeft, StepFits, next_ok, first_ok, votes_are, counts_on, allocated_left, begin_fits, older_whole, block_fits}
use Rattle.law_soundness.proofs.Steps.{on_lifted_then, on_then}
use Rattle.law_soundness.proofs.Transactions.{TxsFit, WholeFits, fits_on, message_fits, tx_fits, txs_fit, whole_without, without_facts_fits}
use Rattle.law_soundness.proofs.Voting.{EvidenceLeft, VoteLeft, evidence_fits, own_record, vote_fits}
use Rattle.law_rewards.specs.{States.AreReached, StateLaws.{ReachedStays, NoneStartedHere}}
use Rattle.law_rewards.proofs.Allocating.{none_started_in_next, allocation_keeps_reached}
use Rattle.law_rewards.proofs.Bonding.{bonded_set_keeps_reached}
use Rattle.law_rewards.proofs.Delegating.{unbondings_step_keeps_reached, redelegations_step_keeps_reached}
use Rattle.law_rewards.proofs.{Endings.next_block_keeps_reached, Maturing.maturing_keeps_reached}
use Rattle.law_rewards.proofs.{Punishing.{votes_keep_reached, evidence_keeps_reached}, Together.messages_keep_reached}
use Rattle.law_rewards.proofs.Undelegating.{undelegating_keeps_reached}
use Rattle.law_runs.specs.RunLaws.{RunsKeepReached}

-- ---- the fees of a block are coins

named_so : (c : Money) → AreNamed (λ d. Unit {0}) c
named_so [] = tt
named_so (e ∷ c) = (tt, named_so c)

pub fees_are_coins : (w : State) → IsSound w → IsMoney (in_units (coins_of w.view.bank (account.Module holder.FeeCollector)))
fees_are_coins w sound =
    let from : Account = account.Module holder.FeeCollector in
    let fees : Money = coins_of w.view.bank from in
    let rises : Rises fees = coins-rise w.view.bank from sound.ground.bank in
    let short : is_short w.view.bank from fees ≡ false = enough_held fees w.view.bank from rises (λ x. same_most (amount_of fees x) (balance_of w.view.bank from x) (coins-amount w.view.bank from x)) in
    (units_known (λ d. Unit {0}) fees (each_within fees w.view.bank from short sound.ground.bank) (record { money = money_from_rises fees rises; named = named_so fees })).money
  where
    same_most : (a b : ℕ) → a ≡ b → a ≤ b
    same_most a b e = omega (arith, e)

-- ---- one step after another

pub kept_at : {E : Type 0} (r : Result State E) (w : State) → AreReached w → IfOk r (ReachedStays w) → IfOk r AreReached
kept_at (Ok x) w reached h = h reached
kept_at (Err e) w reached h = tt

pub both_if : {A E : Type 0} (r : Result A E) (Q R : A → Type 0) → IfOk r Q → IfOk r R → IfOk r (λ a. Q a × R a)
both_if (Ok a) Q R p q = (p, q)
both_if (Err e) Q R p q = tt

-- ---- messages

pub message_kept : (m : Msg) (w : State) → MessageHasCoins m → IsSound w → IfOk (effect_of m w) (ReachedStays w)
message_kept (msg.Send m) w c s = messages_keep_reached.sends m.from m.to m.coins c w s
message_kept (msg.CreateValidator m) w c s = messages_keep_reached.creates m w s
message_kept (msg.EditValidator m) w c s = messages_keep_reached.edits m w s
message_kept (msg.Delegate m) w c s = messages_keep_reached.delegates m.delegator m.validator m.amount w s
message_kept (msg.Undelegate m) w c s = undelegating_keeps_reached m.delegator m.validator m.amount w s
message_kept (msg.BeginRedelegate m) w c s = messages_keep_reached.redelegates m.delegator m.source m.target m.amount w s
message_kept (msg.CancelUnbonding m) w c s = messages_keep_reached.cancels m.delegator m.validator m.amount m.creation_height w s
message_kept (msg.Unjail m) w c s = messages_keep_reached.unjails m.validator w s
message_kept (msg.WithdrawReward m) w c s = messages_keep_reached.withdraws m.delegator m.validator w s
message_kept (msg.WithdrawCommission m) w c s = messages_keep_reached.commissions m.validator w s
message_kept (msg.SetWithdrawAddress m) w c s = messages_keep_reached.payees m.delegator m.withdraw w s
message_kept (msg.FundCommunityPool m) w c s = messages_keep_reached.funds m.depositor m.coins c w s
message_kept (msg.CommunityPoolSpend m) w c s = messages_keep_reached.spends m.authority m.recipient m.coins c w s
message_kept (msg.UpdateParams m) w c s = messages_keep_reached.updates m.authority m.params w s

module _ (some : List (List ℕ)) (few : length some ≤ 1_000_000) where
  abbrev P : List ℕ → Type 0
  P = Contains some

  pub sound_at : (T : List ℕ → ℕ) (w : State) → StateFits P T w → IsSound w
  sound_at T w h = from_fits w some T few h

  pub messages_reached : (T : List ℕ → ℕ) (c : Ctx) (place : ℕ) (ms : List Msg) (w : State) → All MessageHasCoins ms → WholeFits P T c w → AreReached w → IfOk (effects_of place (map effect_of ms) w) AreReached
  messages_reached T c place [] w a h r = r
  messages_reached T c place (m ∷ ms) w a h r =
      on_lifted_then (λ why. (place, why)) (effect_of m w) _ (λ x. MessageLeft P T w x × AreReached x) _
      (both_if (effect_of m w) (MessageLeft P T w) AreReached (message_fits P T m w (All-head MessageHasCoins m ms a) h.fits h.whole) (kept_at (effect_of m w) w r (message_kept m w (All-head MessageHasCoins m ms a) (sound_at T w h.fits))))
      (λ x k. messages_reached T c (place + 1) ms x (All-tail MessageHasCoins m ms a) (fits_on P T c w x h k.0) k.1)

  -- ---- transactions

  ends_reached : (paid : State) (r : Result State (ℕ × Refusal)) → AreReached paid → IfOk r AreReached → AreReached (reported_as (stands_or_fee paid r)).state
  ends_reached paid (Ok x) p q = q
  ends_reached paid (Err stop) p q = p

  pub tx_reached : (T : List ℕ → ℕ) (c : Ctx) (tx : Tx) (w : State) → TxHasCoins tx → WholeFits P T c w → AreReached w → AreReached (tx_applied tx w).state
  tx_reached T c tx w a h r =
      by (fee_paid tx.payer tx.fee w0) (fee_fits P T0 tx.payer tx.fee a.fee w0 h0.fits)
      (kept_at (fee_paid tx.payer tx.fee w0) w0 r0 (messages_keep_reached.fees tx.payer tx.fee a.fee w0 (sound_at T0 w0 h0.fits)))
    where
      w0 : State
      w0 = without_facts w

      T0 : List ℕ → ℕ
      T0 = total_in w0.view

      h0 : WholeFits P T0 c w0
      h0 = whole_without P T c w h

      r0 : AreReached w0
      r0 = λ d u there. r d u there

      by : (q : Result State Refusal) → IfOk q (StateLeft P T0 w0) → IfOk q AreReached → AreReached (reported_as (after_fee (map effect_of tx.msgs) w0 q)).state
      by (Ok paid) k p = ends_reached paid (effects_of 0 (map effect_of tx.msgs) paid) p (messages_reached T0 c 0 tx.msgs paid a.messages (fits_on P T0 c w0 paid h0 (at_moment P T0 w0 paid k)) p)
      by (Err why) k p = r0

  pub txs_reached : (T : List ℕ → ℕ) (c : Ctx) (txs : List Tx) (w : State) → All TxHasCoins txs → WholeFits P T c w → AreReached w → AreReached (txs_applied txs w).state
  txs_reached T c [] w a h r = r
  txs_reached T c (tx ∷ txs) w a h r =
      txs_reached (total_in (without_facts w).view) c txs (tx_applied tx w).state (All-tail TxHasCoins tx txs a) (tx_fits P T c tx w (All-head TxHasCoins tx txs a) h) (tx_reached T c tx w (All-head TxHasCoins tx txs a) h r)

  -- ---- the beginning and the end of a block

  pub votes_reached : (T : List ℕ → ℕ) (ts : List Vote) (w : State) → StateFits P T w → AreReached w → AreDistinct ts → CountBelow w ts → IfOk (each vote_step ts w) (λ x. StateFits P T x × AreReached x)
  votes_reached T [] w h r d c = (h, r)
  votes_reached T (t ∷ ts) w h r d c =
      on_then {B = State} (vote_step t w) (λ x. each vote_step ts x) (λ x. VoteLeft P T t.cons w x × AreReached x) (λ x. StateFits P T x × AreReached x)
      (both_if (vote_step t w) (VoteLeft P T t.cons w) AreReached (vote_fits P T t w h c.0) (kept_at (vote_step t w) w r (votes_keep_reached t w (sound_at T w h))))
      (λ x k. votes_reached T ts x k.0.fits k.1 d.1 (counts_on P T w x t ts k.0.ctx k.0.others d.0 c.1))

  pub evidence_reached : (T : List ℕ → ℕ) (es : List Evidence) (w : State) → StateFits P T w → AreReached w → IfOk (each evidence_step es w) AreReached
  evidence_reached T [] w h r = r
  evidence_reached T (e ∷ es) w h r =
      on_then {B = State} (evidence_step e w) (λ x. each evidence_step es x) (λ x. EvidenceLeft P T w x × AreReached x) AreReached
      (both_if (evidence_step e w) (EvidenceLeft P T w) AreReached (evidence_fits P T e w h) (kept_at (evidence_step e w) w r (evidence_keeps_reached e w (sound_at T w h))))
      (λ x k. evidence_reached T es x k.0.fits k.1)

  pub same_counts : (w x : State) → x.view.ctx ≡ w.view.ctx → x.hooks.1 ≡ w.hooks.1 → (ts : List Vote) → CountBelow w ts → CountBelow x ts
  same_counts w x ctx window [] c = tt
  same_counts w x ctx window (t ∷ ts) c = (λ s f. subst (λ (k : Ctx). length s.votes < k.height) (sym ctx) (c.0 s (ap (λ i. signing_of i t.cons) (sym window) ∙ f)), same_counts w x ctx window ts c.1)

  pub allocation_reached : (T : List ℕ → ℕ) (votes : List Vote) (w : State) → StateFits P T w → AreReached w → NoneStartedHere w → IfOk (allocation_step votes w) AreReached
  allocation_reached T votes w h r none = kept_at (allocation_step votes w) w r (allocation_keeps_reached votes w (sound_at T w h) none (fees_are_coins w (sound_at T w h)))

  pub begin_reached : (T : List ℕ → ℕ) (votes : List Vote) (evidence : List Evidence) (w : State) → StateFits P T w → AreReached w → NoneStartedHere w → AreKnown w.mine.staked votes → AreDistinct votes → CountBelow w votes
      → IfOk (begin_block votes evidence w) AreReached
  begin_reached T votes evidence w h r none known distinct below =
      on_then {B = State} (allocation_step votes w) (λ x. each vote_step votes x >>= λ y. each evidence_step evidence y) (λ x. AllocatedLeft P T w x × AreReached x) AreReached
      (both_if (allocation_step votes w) (AllocatedLeft P T w) AreReached (allocated_left P T votes w h known) (allocation_reached T votes w h r none))
      (λ x k. on_then {B = State} (each vote_step votes x) (λ y. each evidence_step evidence y) (λ y. StateFits P T y × AreReached y) AreReached
      (votes_reached T votes x k.0.left.fits k.1 distinct (same_counts w x k.0.left.ctx k.0.window votes below))
      (λ y j. evidence_reached T evidence y j.0 j.1))

  end_reached : (T : List ℕ → ℕ) (w : State) → StateFits P T w → AreReached w → IfOk (end_block w) AreReached
  end_reached T w h r =
      on_then {B = State} (set_step w) (λ a. maturing_step a >>= λ b. unbondings_step b >>= λ c. redelegations_step c) (λ a. StateLeft P T w a × AreReached a) AreReached
      (both_if (set_step w) (StateLeft P T w) AreReached (set_step_fits P T w h) (kept_at (set_step w) w r (bonded_set_keeps_reached w (sound_at T w h)))) (λ a ka.
      on_then {B = State} (maturing_step a) (λ b. unbondings_step b >>= λ c. redelegations_step c) (λ b. StateLeft P T a b × AreReached b) AreReached
      (both_if (maturing_step a) (StateLeft P T a) AreReached (maturing_fits P T a ka.0.fits) (kept_at (maturing_step a) a ka.1 (maturing_keeps_reached a (sound_at T a ka.0.fits)))) (λ b kb.
      on_then {B = State} (unbondings_step b) (λ c. redelegations_step c) (λ c. (StateFits P T c × (c.view.ctx ≡ b.view.ctx)) × AreReached c) AreReached
      (both_if (unbondings_step b) (λ c. StateFits P T c × (c.view.ctx ≡ b.view.ctx)) AreReached (unbondings_fit P T b kb.0.fits) (kept_at (unbondings_step b) b kb.1 (unbondings_step_keeps_reached b (sound_at T b kb.0.fits)))) (λ c kc.
      kept_at (redelegations_step c) c kc.1 (redelegations_step_keeps_reached c (sound_at T c kc.0.0)))))

  -- ---- a block

  pub block_reached : (b : Block) (T : List ℕ → ℕ) (w : State) → All TxHasCoins b.txs → StateFits P T w → AreReached w → w.view.ctx.height + 1 < 2 ^ 63 → IfOk (step b w) (λ s. AreReached s.state)
  block_reached b T w coins h r room =
      on_next (block_checked b w) _ _ (λ t e.
      let due : IsDue b w = is_due b w (same_tt t e) in
      let checks = next_ok (stop_at (block_fault w.view.ctx.height w.view.ctx.time b)) (votes_checked w.mine.staked w.view.ctx.params.power_reduction [] b.votes >> evidence_checked b w.view.ctx.params.power_reduction 0 b.evidence) tt (same_tt t e) in
      let first = first_ok (votes_checked w.mine.staked w.view.ctx.params.power_reduction [] b.votes) (evidence_checked b w.view.ctx.params.power_reduction 0 b.evidence) tt checks in
      let votes = votes_are w.mine.staked w.view.ctx.params.power_reduction b.votes [] first.1 in
      let w1 : State = without_facts (next_block b.height b.time w) in
      let there : List ℕ → ℕ = total_in w1.view in
      let later : w.view.ctx.height < b.height = above b.height w.view.ctx.height due.height in
      let fits1 : StateFits P there w1 = without_facts_fits P T (next_block b.height b.time w) (next_fits P T b.height b.time w h (at_least b.height w.view.ctx.height due.height) (at_height b.height w.view.ctx.height due.height room) due.before_end) in
      let next : AreReached (next_block b.height b.time w) = next_block_keeps_reached w b.height b.time later r in
      let none : NoneStartedHere w1 = none_started_in_next w b.height b.time (sound_at T w h) later in
      on_lifted_then RatioLimit (begin_block b.votes b.evidence w1) _ (λ x. BegunLeft P there w1 x × AreReached x) _
      (both_if (begin_block b.votes b.evidence w1) (BegunLeft P there w1) AreReached (begin_fits P there b.votes b.evidence w1 fits1 votes.0 votes.1 (below b.votes due.height))
      (begin_reached there b.votes b.evidence w1 fits1 (λ d u found. next d u found) none votes.0 votes.1 (below b.votes due.height))) (λ begun k.
      let whole : AreAllWhole begun = subst (λ (c : Ctx). AllByRecursion (λ p. WholeEntries c.height p.1) begun.mine.unbondings) (sym k.0.ctx)
      (older_whole w.view.ctx.height b.height begun.mine.unbondings later (k.0.pairs w.view.ctx.height (to_pairs w.view.ctx.height w.mine.unbondings h.unbondings))) in
      let done : TxSteps = txs_applied b.txs begun in
      let all : WholeFits P there w1.view.ctx begun = record { fits = k.0.fits; whole = whole; moment = same_moment w1.view.ctx begun.view.ctx k.0.ctx } in
      let txs : TxsFit P w1.view.ctx begun done = txs_fit P there w1.view.ctx b.txs begun coins all in
      let reached : AreReached done.state = txs_reached there w1.view.ctx b.txs begun coins all k.1 in
      let w2 : State = without_facts done.state in
      let left : List ℕ → ℕ = total_in w2.view in
      on_lifted_then RatioLimit (end_block w2) _ AreReached _ (end_reached left w2 (without_facts_fits P (total_in done.state.view) done.state txs.fits.fits) (λ d u found. reached d u found)) (λ ended j. λ d u found. j d u found)))
    where
      same_tt : (t : ⊤) → block_checked b w ≡ Ok t → block_checked b w ≡ Ok tt
      same_tt t e = e

      at_least : (a n : ℕ) → a ≡ n + 1 → n ≤ a
      at_least a n e = omega (arith, e)

      above : (a n : ℕ) → a ≡ n + 1 → n < a
      above a n e = omega (arith, e)

      at_height : (a n : ℕ) → a ≡ n + 1 → n + 1 < 2 ^ 63 → a < 2 ^ 63
      at_height a n e l = omega (arith, e, l)

      below : (ts : List Vote) → b.height ≡ w.view.ctx.height + 1 → CountBelow (without_facts (next_block b.height b.time w)) ts
      below [] e = tt
      below (t ∷ ts) e = (λ s f. let own = own_record w.view.ctx.height t.cons s w.hooks.1 h.stake.window f in let counted = own.counted in omega (arith, counted, e), below ts e)

  -- ---- runs

  run_reached : (blocks : List Block) (T : List ℕ → ℕ) (w : State) → HaveCoins blocks → StateFits P T w → AreReached w → w.view.ctx.height + length blocks < 2 ^ 63 → AreReached (run_of blocks w).state
  run_reached [] T w c h r room = r
  run_reached (b ∷ blocks) T w c h r room =
      by (step b w) (block_fits P b T w (All-head (λ (x : Block). All TxHasCoins x.txs) b blocks c) h (one (length blocks) room)) (block_reached b T w (All-head (λ (x : Block). All TxHasCoins x.txs) b blocks c) h r (one (length blocks) room))
      (λ u k q e. run_reached blocks (total_in u.view) u (All-tail (λ (x : Block). All TxHasCoins x.txs) b blocks c) k q (fewer (length blocks) u.view.ctx.height room e))
    where
      one : (n : ℕ) → w.view.ctx.height + suc n < 2 ^ 63 → w.view.ctx.height + 1 < 2 ^ 63
      one n l = omega (arith, l)

      fewer : (n x : ℕ) → w.view.ctx.height + suc n < 2 ^ 63 → x ≡ w.view.ctx.height + 1 → x + n < 2 ^ 63
      fewer n x l e = omega (arith, l, e)

      by : (q : Result Step BlockFault) → IfOk q (StepFits P w) → IfOk q (λ s. AreReached s.state)
          → ((u : State) → StateFits P (total_in u.view) u → AreReached u → u.view.ctx.height ≡ w.view.ctx.height + 1 → AreReached (run_of blocks u).state) → AreReached (going_on w q (λ u. run_of blocks u)).state
      by (Ok s) k p rest = rest s.state k.fits p k.height
      by (Err fault) k p rest = r

pub runs_keep_reached : RunsKeepReached
runs_keep_reached = λ blocks w input s reached room. run_reached s.few.some s.few.few blocks (total_in w.view) w input.coins (to_fits w s) reached room
