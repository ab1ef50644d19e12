use Rattle.std.proofs.Common.{◌∙◌, List, map, ap, subst, IfOk, OnOk}
use Rattle.base_roles.{specs.declared.refusal.Refusal.TheVariants.FeeUnpaid, proofs.StakeLemmas.on_ok}
use Rattle.rule_machine.specs.{Listening.{heard_in, hearing, messages_heard, stands_heard, unheard}, Messages.effect_of}
use Rattle.base_messages.specs.declared.message.Msg.{Msg}
use Rattle.rule_modules.specs.Effects.{fee_paid, effects_of, stands_or_fee}
use Rattle.chain_transactions.{specs.Answers.EndsAs, proofs.HearingLemmas.{paid_hears, unpaid_hears}}
use Rattle.chain_transactions.proofs.TransactionLemmas.{all_paid_ends}
use Rattle.chain_modules.specs.{Heard.Hears, Kept.{StandsWhole, kept_of}}
use Rattle.chain_transactions.proofs.transaction.pay_and_apply.Goals as goal

pub returns-then-branch-clause-ended : goal.returns-then-branch-clause-ended
returns-then-branch-clause-ended g c = λ p s.
    let tx = c.args.tx.now in
    let paid = c.in_ok-pay_fee.ensures.paid p s c.if-branch.true in
    let left = kept_of c.all_or_none.new.modules in
    all_paid_ends (map effect_of tx.msgs) p paid.0 (fee_paid tx.payer tx.fee p) c.all_or_none.result left paid.1
    (subst (λ (l : List Msg). IfOk c.all_or_none.result (λ outcome. EndsAs (stands_or_fee paid.0 (effects_of 0 (map effect_of l) paid.0)) outcome left)) c.as_slice.ensures (c.all_or_none.ensures.ended paid.0 paid.2))

pub returns-then-branch-clause-heard : goal.returns-then-branch-clause-heard
returns-then-branch-clause-heard g c = λ w s.
    let tx = c.args.tx.now in
    let paid = c.in_ok-pay_fee.ensures.paid (unheard w) s.0 c.if-branch.true in
    let first = hearing (heard_in w) paid.0 in
    let same = subst (λ (l : List Msg). OnOk c.all_or_none.result (Hears g.E.Extra.heard StandsWhole c.all_or_none.new.modules (stands_heard g.E.Extra.hears first (messages_heard g.E.Extra.hears l first)))) c.as_slice.ensures
    (c.all_or_none.ensures.heard first (paid.2, ap g.E.Extra.heard c.pay_fee.ensures.listener ∙ s.1)) in
    on_ok c.all_or_none.result (paid_hears g.E.Extra.heard g.E.Extra.hears tx.msgs c.all_or_none.new.modules w paid.0 (fee_paid tx.payer tx.fee (unheard w)) paid.1) same

pub returns-else-branch-clause-heard : goal.returns-else-branch-clause-heard
returns-else-branch-clause-heard g c = λ w s.
    let tx = c.args.tx.now in
    let ensures = c.in_ok-pay_fee.ensures in
    unpaid_hears g.E.Extra.heard g.E.Extra.hears tx.msgs c.args.modules.now c.pay_fee.new.modules w FeeUnpaid (fee_paid tx.payer tx.fee (unheard w)) (ensures.unpaid (unheard w) s.0 c.if-branch.false) (ensures.unchanged c.if-branch.false) c.pay_fee.ensures.listener s
