-- Each transaction ends in one of three ways, whatever messages do, and seven kinds of messages name a condition.
use Rattle.std.proofs.Common.{◌≡◌, ℕ, ◌+◌, Bool, true, false, List, [], ◌∷◌, Result, Ok, Err, refl, sym, ap, subst, arith, map}
use Rattle.base_roles.specs.{declared.refusal.Refusal.Refusal, Flow.{◌>>=◌, ◌>>◌, stop_if, stopping}}
use Rattle.base_roles.specs.declared.refusal.Refusal.TheVariants as refused
use Rattle.base_messages.specs.declared.{block.Tx.Tx, message.Msg.Msg}
use Rattle.base_messages.specs.declared.message.Msg.TheVariants as msg
use Rattle.rule_modules.specs.{Chain.State, Effects.{Effect, fee_paid, effects_of, after_fee, stands_or_fee}}
use Rattle.rule_modules.specs.RefusalOrder.{AreRefusedAnywhere}
use Rattle.rule_machine.specs.{GenesisState.without_facts, Machine.{TxStep, reported_as}}
use Rattle.rule_machine.specs.Promises.{AreCarriedOut, IsStoppedAt, EndsSo, TransactionsEndBy, PlainMessagesNameConditions}

-- a fee is not paid for one reason
one_reason : {A : Type 0} (b : Bool) (a : A) (why : Refusal) → (stop_if b refused.FeeUnpaid >> Ok a) ≡ Err why → refused.FeeUnpaid ≡ why
one_reason true a why e = cc
one_reason false a why e = absurd cc

module _ (effect : Msg → Effect) where
  -- the messages were carried out, or the one so far behind the first place was refused
  abbrev pub MessagesEnd : ℕ → List Msg → State → Result State (ℕ × Refusal) → Type 0
  MessagesEnd place msgs w (Ok end) = AreCarriedOut effect msgs w end
  MessagesEnd place msgs w (Err stop) = (n : ℕ) × (stop.0 ≡ place + n) × IsStoppedAt effect n stop.1 msgs w

  end_on : (place : ℕ) (m : Msg) (ms : List Msg) (w next : State) (r : Result State (ℕ × Refusal)) → effect m w ≡ Ok next → MessagesEnd (place + 1) ms next r → MessagesEnd place (m ∷ ms) w r
  end_on place m ms w next (Ok end) e rest = (next, e, rest)
  end_on place m ms w next (Err stop) e rest =
      let at : IsStoppedAt effect rest.0 stop.1 ms next = rest.2 in (
        rest.0 + 1,
        omega (arith, rest.1),
        record {
          before = m ∷ at.before;
          message = at.message;
          after = at.after;
          middle = at.middle;
          messages_are = ap (λ l. m ∷ l) at.messages_are;
          place_is = omega (arith, at.place_is);
          carried_out = (next, e, at.carried_out);
          refused = at.refused;
        },
      )

  messages_end : (place : ℕ) (msgs : List Msg) (w : State) → MessagesEnd place msgs w (effects_of place (map effect msgs) w)
  messages_end place [] w = refl
  messages_end place (m ∷ ms) w = by (effect m w) refl (λ next. messages_end (place + 1) ms next)
    where
      by : (r : Result State Refusal) → effect m w ≡ r → ((next : State) → MessagesEnd (place + 1) ms next (effects_of (place + 1) (map effect ms) next))
          → MessagesEnd place (m ∷ ms) w (stopping (λ why. (place, why)) r >>= λ u. effects_of (place + 1) (map effect ms) u)
      by (Ok next) e rest = end_on place m ms w next (effects_of (place + 1) (map effect ms) next) e (rest next)
      by (Err why) e rest = (
        0,
        omega arith,
        record {
          before = [];
          message = m;
          after = ms;
          middle = w;
          messages_are = refl;
          place_is = refl;
          carried_out = refl;
          refused = e;
        },
      )

  -- a step ends so
  abbrev pub StepEnds : Tx → State → TxStep → Type 0
  StepEnds tx w end = EndsSo effect tx w end.report.outcome end.report.facts end.state

  paid_ends : (tx : Tx) (w paid : State) (r : Result State (ℕ × Refusal)) → fee_paid tx.payer tx.fee (without_facts w) ≡ Ok paid → MessagesEnd 0 tx.msgs paid r → StepEnds tx w (reported_as (stands_or_fee paid r))
  paid_ends tx w paid (Ok end) e all = (paid, e, all, refl)
  paid_ends tx w paid (Err stop) e all =
      let same : all.0 ≡ stop.0 = omega (arith, all.1) in
      (paid, e, subst (λ n. IsStoppedAt effect n stop.1 tx.msgs paid) same all.2, refl, refl)

  pub transactions_end_by : TransactionsEndBy effect
  transactions_end_by tx w = by (fee_paid tx.payer tx.fee (without_facts w)) refl
    where
      by : (r : Result State Refusal) → fee_paid tx.payer tx.fee (without_facts w) ≡ r → StepEnds tx w (reported_as (after_fee (map effect tx.msgs) (without_facts w) r))
      by (Ok paid) e = paid_ends tx w paid (effects_of 0 (map effect tx.msgs) paid) e (messages_end 0 tx.msgs paid)
      by (Err why) e = (subst (λ x. fee_paid tx.payer tx.fee (without_facts w) ≡ Err x) (sym (one_reason _ _ why e)) e, refl, refl)

-- ---- refusals

pub plain_messages_name_conditions : AreRefusedAnywhere → PlainMessagesNameConditions
plain_messages_name_conditions all (msg.Send m) w h = all.sends m.from m.to m.coins w
plain_messages_name_conditions all (msg.EditValidator m) w h = all.edits m w
plain_messages_name_conditions all (msg.Unjail m) w h = all.unjails m.validator w
plain_messages_name_conditions all (msg.WithdrawCommission m) w h = all.commissions m.validator w
plain_messages_name_conditions all (msg.SetWithdrawAddress m) w h = all.payees m.delegator m.withdraw w
plain_messages_name_conditions all (msg.CommunityPoolSpend m) w h = all.spends m.authority m.recipient m.coins w
plain_messages_name_conditions all (msg.UpdateParams m) w h = all.updates m.authority m.params w
plain_messages_name_conditions all (msg.CreateValidator m) w h = absurd cc
plain_messages_name_conditions all (msg.Delegate m) w h = absurd cc
plain_messages_name_conditions all (msg.Undelegate m) w h = absurd cc
plain_messages_name_conditions all (msg.BeginRedelegate m) w h = absurd cc
plain_messages_name_conditions all (msg.CancelUnbonding m) w h = absurd cc
plain_messages_name_conditions all (msg.WithdrawReward m) w h = absurd cc
plain_messages_name_conditions all (msg.FundCommunityPool m) w h = absurd cc
