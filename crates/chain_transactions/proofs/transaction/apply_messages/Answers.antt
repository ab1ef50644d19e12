use Rattle.std.proofs.Common.{◌∙◌, ◌≤◌, length, refl, arith}
use Rattle.chain_transactions.proofs.HearLemmas.{all_heard, none_heard, one_heard}
use Rattle.chain_transactions.proofs.MessageLemmas.{drop_end, none_yet, one_more, one_refused, all_done}
use Rattle.chain_transactions.proofs.transaction.apply_messages.Goals as goal

pub loop-place-init : goal.loop-place-init
loop-place-init g c = (none_yet c.args.messages.now c.args.modules.now c.requires.steady, refl, none_heard g.E.Extra.heard g.E.Extra.hears c.args.messages.now c.args.modules.now)

pub loop-place-preserved : goal.loop-place-preserved
loop-place-preserved g c =
    let so =
    one_more c.args.messages.now c.loop-place.place c.index-messages-place.result c.args.modules.now c.loop-place.modules c.loop-place-test.true c.index-messages-place.is c.loop-place.invariant.0
    c.apply_message.new.modules c.in-Ok.ensures.ends c.in-Ok.ensures.steady c.apply_message.ensures.go_on in (
      so,
      c.apply_message.ensures.listener ∙ c.loop-place.invariant.1,
      one_heard g.E.Extra.heard g.E.Extra.hears c.args.messages.now c.loop-place.place c.index-messages-place.result c.args.modules.now c.loop-place.modules c.apply_message.new.modules c.loop-place-test.true c.index-messages-place.is c.loop-place.invariant.2 c.in-Ok.ensures.heard,
    )

pub returns-in-Err-Refused-clause-ends : goal.returns-in-Err-Refused-clause-ends
returns-in-Err-Refused-clause-ends g c = rw c.in-Err-Refused.why-is
    (one_refused c.args.messages.now c.loop-place.place c.index-messages-place.result c.args.modules.now c.loop-place.modules c.loop-place-test.true c.index-messages-place.is c.loop-place.invariant.0
    c.apply_message.new.modules c.in-Err-Refused.why (λ p s. rw c.in-Err-Refused.field-0-is at (c.in-Err-Refused.ensures.ends p s)))

pub returns-clause-ends : goal.returns-clause-ends
returns-clause-ends g c =
    let place = c.loop-place.place in
    let most : place ≤ length c.args.messages.now = omega (arith, c.loop-place.auto.place-end) in
    let least : length c.args.messages.now ≤ place = omega (arith, c.loop-place-test.false) in
    all_done c.args.messages.now place c.args.modules.now c.loop-place.modules (drop_end c.args.messages.now place most least) c.loop-place.invariant.0

pub returns-clause-heard : goal.returns-clause-heard
returns-clause-heard g c = λ w s none.
    let place = c.loop-place.place in
    let most : place ≤ length c.args.messages.now = omega (arith, c.loop-place.auto.place-end) in
    let least : length c.args.messages.now ≤ place = omega (arith, c.loop-place-test.false) in
    all_heard g.E.Extra.heard g.E.Extra.hears c.args.messages.now place c.args.modules.now c.loop-place.modules (drop_end c.args.messages.now place most least) c.loop-place.invariant.2 w s

pub returns-in-Err-Refused-clause-heard : goal.returns-in-Err-Refused-clause-heard
returns-in-Err-Refused-clause-heard g c = λ w s none. absurd cc
