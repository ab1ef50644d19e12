-- Each message, and each transaction, keeps a state sound, whether it is refused or not.
use Rattle.std.proofs.Common.{ℕ, ◌+◌, List, [], ◌∷◌, map, Result, Ok, Err, refl, ◌≡◌, arith, All, Contains, IfOk, sum}
use Rattle.std.proofs.lemmas.List.{Elements.{All-head, All-tail}, Sums.sum_by-cons}
use Rattle.base_roles.specs.{declared.{params.Ctx.Ctx, refusal.Refusal.Refusal}, Ground.SameMoment, Holdings.supply_of}
use Rattle.base_roles.proofs.MomentLemmas.{same_moment, same_moment_twice}
use Rattle.base_messages.specs.declared.{block.Tx.Tx, message.Msg.Msg, report.TxReport.TxReport}
use Rattle.base_messages.specs.declared.message.Msg.TheVariants as msg
use Rattle.rule_machine.specs.{GenesisState.without_facts, Machine.{TxSteps, reported_as, tx_applied, txs_applied}}
use Rattle.rule_machine.specs.{Messages.effect_of, Promises.{MessageHasCoins, TxHasCoins}}
use Rattle.law_soundness.proofs.{Burns.total_in, Creating.create_fits, Delegating.delegate_fits}
use Rattle.law_soundness.proofs.Leaving.{cancel_fits, to_whole, undelegate_fits}
use Rattle.law_soundness.proofs.Moves.{fee_fits, payee_fits, send_fits}
use Rattle.law_soundness.proofs.Points.{AreAllWhole, MessageLeft, StateFits, StateLeft, at_moment, from_fits, to_fits}
use Rattle.law_soundness.proofs.{Pool.{commission_fits, fund_fits, spend_fits}, Redelegating.redelegate_fits}
use Rattle.law_soundness.proofs.{Rewards.reward_fits, Standing.{edit_fits, unjail_fits}}
use Rattle.law_soundness.proofs.{Steps.{on_lifted_then, weaker_if}, Updating.update_fits}
use Rattle.law_soundness.specs.StepLaws.{IsSoundAfter, MessagesKeepSoundness, TransactionsKeepSoundness}
use Rattle.rule_modules.specs.{Chain.State, Laws.burned_in, Effects.{after_fee, effects_of, fee_paid, stands_or_fee}}

module _ (P : List ℕ → Type 0) (T : List ℕ → ℕ) where
  -- a state that fits, where no entry of this block has lost anything
  pub record WholeFits (c : Ctx) (w : State) : Type 0 where
    pub fits : StateFits P T w
    pub whole : AreAllWhole w
    pub moment : SameMoment c w.view.ctx

  pub fits_on : (c : Ctx) (w x : State) → WholeFits c w → MessageLeft P T w x → WholeFits c x
  fits_on c w x h k = record { fits = k.fits; whole = k.whole h.whole; moment = same_moment_twice c w.view.ctx x.view.ctx h.moment k.moment }

  left_by : {E : Type 0} (r : Result State E) (w : State) → IfOk r (StateLeft P T w) → IfOk r (MessageLeft P T w)
  left_by (Ok x) w k = at_moment P T w x k
  left_by (Err e) w k = tt

  pub message_fits : (m : Msg) (w : State) → MessageHasCoins m → StateFits P T w → AreAllWhole w → IfOk (effect_of m w) (MessageLeft P T w)
  message_fits (msg.Send m) w c h k = left_by (effect_of (msg.Send m) w) w (send_fits P T m.from m.to m.coins c w h)
  message_fits (msg.CreateValidator m) w c h k = left_by (effect_of (msg.CreateValidator m) w) w (create_fits P T m w h)
  message_fits (msg.EditValidator m) w c h k = left_by (effect_of (msg.EditValidator m) w) w (edit_fits P T m w h)
  message_fits (msg.Delegate m) w c h k = left_by (effect_of (msg.Delegate m) w) w (delegate_fits P T m.delegator m.validator m.amount w h)
  message_fits (msg.Undelegate m) w c h k = left_by (effect_of (msg.Undelegate m) w) w (undelegate_fits P T m.delegator m.validator m.amount w h k)
  message_fits (msg.BeginRedelegate m) w c h k = left_by (effect_of (msg.BeginRedelegate m) w) w (redelegate_fits P T m.delegator m.source m.target m.amount w h)
  message_fits (msg.CancelUnbonding m) w c h k = left_by (effect_of (msg.CancelUnbonding m) w) w (cancel_fits P T m.delegator m.validator m.amount m.creation_height w h)
  message_fits (msg.Unjail m) w c h k = left_by (effect_of (msg.Unjail m) w) w (unjail_fits P T m.validator w h)
  message_fits (msg.WithdrawReward m) w c h k = left_by (effect_of (msg.WithdrawReward m) w) w (reward_fits P T m.delegator m.validator w h)
  message_fits (msg.WithdrawCommission m) w c h k = left_by (effect_of (msg.WithdrawCommission m) w) w (commission_fits P T m.validator w h)
  message_fits (msg.SetWithdrawAddress m) w c h k = left_by (effect_of (msg.SetWithdrawAddress m) w) w (payee_fits P T m.delegator m.withdraw w h)
  message_fits (msg.FundCommunityPool m) w c h k = left_by (effect_of (msg.FundCommunityPool m) w) w (fund_fits P T m.depositor m.coins c w h)
  message_fits (msg.CommunityPoolSpend m) w c h k = left_by (effect_of (msg.CommunityPoolSpend m) w) w (spend_fits P T m.authority m.recipient m.coins c w h)
  message_fits (msg.UpdateParams m) w c h k = update_fits P T m.authority m.params w h

  messages_fit : (c : Ctx) (place : ℕ) (ms : List Msg) (w : State) → All MessageHasCoins ms → WholeFits c w → IfOk (effects_of place (map effect_of ms) w) (WholeFits c)
  messages_fit c place [] w a h = h
  messages_fit c place (m ∷ ms) w a h =
      on_lifted_then (λ why. (place, why)) (effect_of m w) _ (MessageLeft P T w) _ (message_fits m w (All-head MessageHasCoins m ms a) h.fits h.whole)
      (λ x k. messages_fit c (place + 1) ms x (All-tail MessageHasCoins m ms a) (fits_on c w x h k))

  -- what is there and what was burned is what it is
  pub renewed : (w : State) → StateFits P T w → StateFits P (total_in w.view) w
  renewed w h =
      let s = h.stake in
      record {
        stake = record {
          ground = record { order = s.ground.order; held = s.ground.held; total = λ d. refl };
          staked = s.staked;
          bonded = s.bonded;
          not_bonded = s.not_bonded;
          owed = s.owed;
          shared = s.shared;
          window = s.window;
          recorded = s.recorded;
        };
        unbondings = h.unbondings;
        redelegations = h.redelegations;
      }

  -- facts are forgotten, so that of each denomination there is what is there
  pub without_facts_fits : (w : State) → StateFits P T w → StateFits P (total_in (without_facts w).view) (without_facts w)
  without_facts_fits w h =
      let s = h.stake in
      record {
        stake = record {
          ground = record { order = record { params = s.ground.order.params; time = s.ground.order.time; height = s.ground.order.height; bank = s.ground.order.bank }; held = s.ground.held; total = λ d. refl };
          staked = s.staked;
          bonded = s.bonded;
          not_bonded = s.not_bonded;
          owed = s.owed;
          shared = s.shared;
          window = s.window;
          recorded = s.recorded;
        };
        unbondings = h.unbondings;
        redelegations = h.redelegations;
      }

  ends_fit : (c : Ctx) (paid : State) (r : Result State (ℕ × Refusal)) → WholeFits c paid → IfOk r (WholeFits c) → WholeFits c (reported_as (stands_or_fee paid r)).state
  ends_fit c paid (Ok x) h k = k
  ends_fit c paid (Err stop) h k = h

  -- a transaction on a state whose facts are forgotten
  from_there : (c : Ctx) (tx : Tx) (w : State) → TxHasCoins tx → WholeFits c w → WholeFits c (reported_as (after_fee (map effect_of tx.msgs) w (fee_paid tx.payer tx.fee w))).state
  from_there c tx w a h =
      by (fee_paid tx.payer tx.fee w) (fee_fits P T tx.payer tx.fee a.fee w h.fits) h
    where
      by : (r : Result State Refusal) → IfOk r (StateLeft P T w) → WholeFits c w → WholeFits c (reported_as (after_fee (map effect_of tx.msgs) w r)).state
      by (Ok paid) k old =
          let fits : WholeFits c paid = fits_on c w paid old (at_moment P T w paid k) in
          ends_fit c paid (effects_of 0 (map effect_of tx.msgs) paid) fits (messages_fit c 0 tx.msgs paid a.messages fits)
      by (Err why) k old = old

-- what transactions say was burned of a denomination
abbrev pub burned_by : List ℕ → List TxReport → ℕ
burned_by d reports = sum (map (λ t. burned_in d t.facts) reports)

module _ (P : List ℕ → Type 0) where
  pub whole_without : (T : List ℕ → ℕ) (c : Ctx) (w : State) → WholeFits P T c w → WholeFits P (total_in (without_facts w).view) c (without_facts w)
  whole_without T c w h = record { fits = without_facts_fits P T w h.fits; whole = h.whole; moment = h.moment }

  -- a transaction's facts are of it alone
  pub tx_fits : (T : List ℕ → ℕ) (c : Ctx) (tx : Tx) (w : State) → TxHasCoins tx → WholeFits P T c w → WholeFits P (total_in (without_facts w).view) c (tx_applied tx w).state
  tx_fits T c tx w a h = from_there P (total_in (without_facts w).view) c tx (without_facts w) a (whole_without T c w h)

  -- transactions leave a state that fits, and each supply less by what they say was burned
  pub record TxsFit (c : Ctx) (w : State) (x : TxSteps) : Type 0 where
    pub fits : WholeFits P (total_in x.state.view) c x.state
    pub burns : (d : List ℕ) → supply_of x.state.view.bank d + burned_by d x.reports ≡ supply_of w.view.bank d

  own_total : (T : List ℕ → ℕ) (c : Ctx) (w : State) → WholeFits P T c w → WholeFits P (total_in w.view) c w
  own_total T c w h = record { fits = renewed P T w h.fits; whole = h.whole; moment = h.moment }

  pub txs_fit : (T : List ℕ → ℕ) (c : Ctx) (txs : List Tx) (w : State) → All TxHasCoins txs → WholeFits P T c w → TxsFit c w (txs_applied txs w)
  txs_fit T c [] w a h = record { fits = own_total T c w h; burns = λ d. none (supply_of w.view.bank d) }
    where
      none : (n : ℕ) → n + 0 ≡ n
      none n = omega arith
  txs_fit T c (tx ∷ txs) w a h =
      let one : WholeFits P (total_in (without_facts w).view) c (tx_applied tx w).state = tx_fits T c tx w (All-head TxHasCoins tx txs a) h in
      let next : State = (tx_applied tx w).state in
      let rest : TxsFit c next (txs_applied txs next) = txs_fit (total_in (without_facts w).view) c txs next (All-tail TxHasCoins tx txs a) one in
      record {
        fits = rest.fits;
        burns = λ d. summed (supply_of (txs_applied txs next).state.view.bank d) (burned_by d (txs_applied txs next).reports) (supply_of next.view.bank d) (burned_in d (tx_applied tx w).report.facts) (supply_of w.view.bank d) _
            (rest.burns d) (one.fits.stake.ground.total d) (burned_more d (tx_applied tx w).report (txs_applied txs next).reports);
      }
    where
      burned_more : (d : List ℕ) (t : TxReport) (ts : List TxReport) → burned_by d (t ∷ ts) ≡ burned_in d t.facts + burned_by d ts
      burned_more d t ts = sum_by-cons (λ n. n) (burned_in d t.facts) (map (λ u. burned_in d u.facts) ts)

      summed : (x r y b s a : ℕ) → x + r ≡ y → y + b ≡ s + 0 → a ≡ b + r → x + a ≡ s
      summed x r y b s a p q e = omega (arith, p, q, e)

pub messages_keep_soundness : MessagesKeepSoundness
messages_keep_soundness m c w s whole =
    let P : List ℕ → Type 0 = Contains s.few.some in
    let T : List ℕ → ℕ = total_in w.view in
    weaker_if (effect_of m w) (MessageLeft P T w) (IsSoundAfter w) (message_fits P T m w c (to_fits w s) (to_whole w whole)) (λ x k. from_fits x s.few.some T s.few.few k.fits)

pub transactions_keep_soundness : TransactionsKeepSoundness
transactions_keep_soundness tx c w s whole =
    let P : List ℕ → Type 0 = Contains s.few.some in
    let T : List ℕ → ℕ = total_in w.view in
    let k = tx_fits P T w.view.ctx tx w c (record { fits = to_fits w s; whole = to_whole w whole; moment = same_moment w.view.ctx w.view.ctx refl }) in
    from_fits (tx_applied tx w).state s.few.some (total_in (without_facts w).view) s.few.few k.fits
