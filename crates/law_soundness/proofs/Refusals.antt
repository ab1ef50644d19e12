-- Each message of a run that is carried out met a sound state of which none of its conditions held, and each that is refused is by
-- the first of its conditions that held.
use Rattle.std.proofs.Common.{◌≡◌, ◌∙◌, ℕ, suc, ◌+◌, ◌^◌, ◌<◌, ◌≤◌, ◌==◌, List, [], ◌∷◌, ◌++◌, length, Option, Some, None, Ok, refl, sym, ap, subst, arith, All, Contains}
use Rattle.std.{specs.Prelude.⊤, proofs.lemmas.List.Elements.{All-head, All-tail}}
use Rattle.base_roles.specs.declared.{facts.Fact.Fact, params.Ctx.Ctx, refusal.Refusal.Refusal}
use Rattle.base_roles.specs.declared.refusal.Refusal.TheVariants.{NonPositive, NoValidator, NoDelegation, NoTokens, TooManyShares, WrongDenom, UnbondingsFull}
use Rattle.base_messages.specs.declared.{block.{Block.Block, Tx.Tx}, message.Msg.Msg, report.Outcome.Outcome}
use Rattle.base_messages.specs.declared.report.Outcome.TheVariants.{Accepted, FeeUnpaid, Refused}
use Rattle.rule_machine.{proofs.EndLemmas.transactions_end_by, specs.GenesisState.without_facts}
use Rattle.rule_machine.specs.{Machine.{block_checked, step, tx_applied}, Messages.effect_of}
use Rattle.rule_machine.specs.Promises.{AreCarriedOut, EndsSo, IsStoppedAt, MessageHasCoins, TxHasCoins}
use Rattle.law_soundness.proofs.{Burns.total_in, Lists.{all_left, all_right}, Moves.fee_fits}
use Rattle.law_soundness.proofs.Named.{messages_name_conditions}
use Rattle.law_soundness.proofs.Points.{MessageLeft, StateFits, StateLeft, at_moment, from_fits, to_fits}
use Rattle.law_soundness.proofs.Running.{HasBegun, HaveCoins, StepFits, begun_fits, block_fits, first_ok}
use Rattle.law_soundness.proofs.{Starting.{room, started_well}, Steps.{and_also, from_if}}
use Rattle.law_soundness.proofs.Transactions.{WholeFits, fits_on, message_fits, tx_fits, whole_without}
use Rattle.law_soundness.specs.Kept.{AreAllowed, FullListsTakeNoMore, InBlocks, InTurn, IsAllowed, IsJudged, IsNamedAt, RefusalsAreNamed, TxIsJudged, begun_by}
use Rattle.law_soundness.specs.StepLaws.{RunsNameConditions}
use Rattle.rule_modules.specs.Chain.{State}
use Rattle.rule_modules.specs.Conditions.{when, first_of, lacks_validator, lacks_delegation, has_no_tokens, asks_too_much, has_most_unbondings, reward_over}
use Rattle.rule_modules.specs.{Delegating.is_wrong, Effects.fee_paid, Laws.next_block, RefusalOrder.refused_in}
use Rattle.rule_modules.specs.Sound.{IsSound}

module _ (some : List (List ℕ)) (few : length some ≤ 1_000_000) where
  abbrev P : List ℕ → Type 0
  P = Contains some

  -- a message that is carried out in a state that fits may be
  allowed : (T : List ℕ → ℕ) (m : Msg) (w next : State) → MessageHasCoins m → StateFits P T w → effect_of m w ≡ Ok next → IsAllowed m w
  allowed T m w next c h e =
      let sound : IsSound w = from_fits w some T few h in
      record { sound = sound; none_holds = sym (messages_name_conditions m c w sound) ∙ ap refused_in e }

  -- messages that are carried out may be, and leave a state that fits
  carried_fits : (T : List ℕ → ℕ) (c : Ctx) (ms : List Msg) (w end : State) → All MessageHasCoins ms → WholeFits P T c w → AreCarriedOut effect_of ms w end → WholeFits P T c end × AreAllowed ms w end
  carried_fits T c [] w end a h e = and_also (subst (WholeFits P T c) (sym e) h) e
  carried_fits T c (m ∷ ms) w end a h e =
      let next : State = e.0 in
      let first : MessageHasCoins m = All-head MessageHasCoins m ms a in
      let k = from_if (MessageLeft P T w) (effect_of m w) next e.1 (message_fits P T m w first h.fits h.whole) in
      let rest = carried_fits T c ms next end (All-tail MessageHasCoins m ms a) (fits_on P T c w next h k) e.2 in
      and_also rest.0 (next, e.1, allowed T m w next first h.fits e.1, rest.1)

  -- a refusal, after the fee and the messages before it
  stopped_named : (T : List ℕ → ℕ) (c : Ctx) (place : ℕ) (why : Refusal) (msgs : List Msg) (paid : State) → All MessageHasCoins msgs → WholeFits P T c paid → IsStoppedAt effect_of place why msgs paid → IsNamedAt place why msgs paid
  stopped_named T c place why msgs paid a h s =
      let parts : All MessageHasCoins (s.before ++ s.message ∷ s.after) = subst (All MessageHasCoins) s.messages_are a in
      let here : All MessageHasCoins (s.message ∷ s.after) = all_right MessageHasCoins s.before (s.message ∷ s.after) parts in
      let k = carried_fits T c s.before paid s.middle (all_left MessageHasCoins s.before (s.message ∷ s.after) parts) h s.carried_out in
      let sound : IsSound s.middle = from_fits s.middle some T few k.0.fits in
      record {
        stopped = s;
        allowed = k.1;
        sound = sound;
        named = sym (messages_name_conditions s.message (All-head MessageHasCoins s.message s.after here) s.middle sound) ∙ ap refused_in s.refused;
      }

  tx_judged : (T : List ℕ → ℕ) (c : Ctx) (tx : Tx) (w : State) → TxHasCoins tx → WholeFits P T c w → TxIsJudged tx w
  tx_judged T c tx w a h =
      let end = tx_applied tx w in
      by end.report.outcome end.report.facts end.state (transactions_end_by effect_of tx w)
    where
      w0 : State
      w0 = without_facts w

      there : List ℕ → ℕ
      there = total_in w0.view

      anew : WholeFits P there c w0
      anew = whole_without P T c w h

      paid_fits : (paid : State) → fee_paid tx.payer tx.fee w0 ≡ Ok paid → WholeFits P there c paid
      paid_fits paid e =
          let k = from_if (StateLeft P there w0) (fee_paid tx.payer tx.fee w0) paid e (fee_fits P there tx.payer tx.fee a.fee w0 anew.fits) in
          fits_on P there c w0 paid anew (at_moment P there w0 paid k)

      by : (o : Outcome) (facts : List Fact) (end : State) → EndsSo effect_of tx w o facts end → IsJudged tx w o facts end
      by Accepted facts end e = (e.0, e.1, (carried_fits there c tx.msgs e.0 end a.messages (paid_fits e.0 e.1) e.2).1, e.3)
      by FeeUnpaid facts end e = e
      by (Refused place why) facts end e = (e.0, e.1, stopped_named there c place why tx.msgs e.0 a.messages (paid_fits e.0 e.1) e.2, e.3, e.4)

  txs_judged : (T : List ℕ → ℕ) (c : Ctx) (txs : List Tx) (w : State) → All TxHasCoins txs → WholeFits P T c w → InTurn TxIsJudged txs w
  txs_judged T c [] w a h = tt
  txs_judged T c (tx ∷ txs) w a h = (
    tx_judged T c tx w (All-head TxHasCoins tx txs a) h,
    txs_judged (total_in (without_facts w).view) c txs (tx_applied tx w).state (All-tail TxHasCoins tx txs a) (tx_fits P T c tx w (All-head TxHasCoins tx txs a) h),
  )

  blocks_judged : (blocks : List Block) (T : List ℕ → ℕ) (w : State) → HaveCoins blocks → StateFits P T w → w.view.ctx.height + length blocks < 2 ^ 63 → InBlocks TxIsJudged blocks w
  blocks_judged [] T w c h few = tt
  blocks_judged (b ∷ blocks) T w c h few =
      by (λ u k e. blocks_judged blocks (total_in u.view) u (All-tail (λ (x : Block). All TxHasCoins x.txs) b blocks c) k (fewer (length blocks) u.view.ctx.height few e))
    where
      coins : All TxHasCoins b.txs
      coins = All-head (λ (x : Block). All TxHasCoins x.txs) b blocks c

      same_tt : (t : ⊤) → block_checked b w ≡ Ok t → block_checked b w ≡ Ok tt
      same_tt t e = e

      room : (n : ℕ) → w.view.ctx.height + suc n < 2 ^ 63 → w.view.ctx.height + 1 < 2 ^ 63
      room n l = omega (arith, l)

      fewer : (n x : ℕ) → w.view.ctx.height + suc n < 2 ^ 63 → x ≡ w.view.ctx.height + 1 → x + n < 2 ^ 63
      fewer n x l e = omega (arith, l, e)

      by : ((u : State) → StateFits P (total_in u.view) u → u.view.ctx.height ≡ w.view.ctx.height + 1 → InBlocks TxIsJudged blocks u)
          → InBlocks TxIsJudged (b ∷ blocks) w
      by rest s e =
          let k = from_if (StepFits P w) (step b w) s e (block_fits P b T w coins h (room (length blocks) few)) in (
            λ begun f.
                let checked = first_ok (block_checked b w) _ s e in
                let first : HasBegun P b w begun = from_if (HasBegun P b w) (begun_by b w) begun f (begun_fits P b T w h (room (length blocks) few) (same_tt checked.0 checked.1)) in
                txs_judged (total_in (without_facts (next_block b.height b.time w)).view) (next_block b.height b.time w).view.ctx b.txs begun coins first.fits,
            rest s.state k.fits k.height,
          )

pub runs_name_conditions : RunsNameConditions
runs_name_conditions blocks w input s few = blocks_judged s.few.some s.few.few blocks (total_in w.view) w input.coins (to_fits w s) few

pub refusals_are_named : RefusalsAreNamed
refusals_are_named r =
    let s = started_well r in
    runs_name_conditions r.blocks r.start.state r.input s.sound (room r.start.state.view.ctx.height (length r.blocks) s.height r.input.few)

-- ---- what is never allowed

-- where no condition of a list holds, its first does not, nor does any behind it
none_behind : (c : Option Refusal) (rest : List (Option Refusal)) → first_of (c ∷ rest) ≡ None → (c ≡ None) × (first_of rest ≡ None)
none_behind None rest e = (refl, e)
none_behind (Some why) rest e = absurd cc

none_after : (before rest : List (Option Refusal)) → first_of (before ++ rest) ≡ None → first_of rest ≡ None
none_after [] rest e = e
none_after (c ∷ before) rest e = none_after before rest (none_behind c (before ++ rest) e).1

never_some : (why : Refusal) → Path (Option Refusal) (Some why) None → ⊥
never_some why e = cc

pub full_lists_take_no_more : FullListsTakeNoMore
full_lists_take_no_more m w full h =
    let coin = m.amount in
    let before : List (Option Refusal) =
    when (coin.amount == 0) NonPositive ∷ when (lacks_validator m.validator w) NoValidator ∷ when (lacks_delegation m.delegator m.validator w) NoDelegation
    ∷ when (has_no_tokens m.validator w) NoTokens ∷ when (asks_too_much m.delegator m.validator coin.amount w) TooManyShares ∷ when (is_wrong coin w.view) WrongDenom ∷ [] in
    let rest : List (Option Refusal) = when (has_most_unbondings m.delegator m.validator w) UnbondingsFull ∷ reward_over m.delegator m.validator w ∷ [] in
    let none : when (has_most_unbondings m.delegator m.validator w) UnbondingsFull ≡ None = (none_behind _ _ (none_after before rest h.none_holds)).0 in
    never_some UnbondingsFull (subst (λ b. when b UnbondingsFull ≡ None) full none)
