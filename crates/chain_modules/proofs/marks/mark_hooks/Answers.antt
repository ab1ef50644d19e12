use Rattle.std.proofs.Common.{◌∙◌}
use Rattle.std.proofs.lemmas.Result.{err_from_is_err_and}
use Rattle.chain_modules.proofs.MarkLemmas.{forgotten, one_more_some}
use Rattle.chain_modules.proofs.marks.mark_hooks.Goals as goal

pub returns-in_err-mark_heard-clause-err : goal.returns-in_err-mark_heard-clause-err
returns-in_err-mark_heard-clause-err g c =
    let h = c.args.hooks.now in
    let r = err_from_is_err_and c.from_residual.result c.from_residual.ensures.1 in
    rw r.1 (λ i. record { shared = c.in_err-mark_heard.ensures.err i; signings = h.second.marks })

pub returns-in_err-mark_heard-clause-same : goal.returns-in_err-mark_heard-clause-same
returns-in_err-mark_heard-clause-same g c = let h = c.args.hooks.now in λ i. (c.mark_heard.ensures.same i, h.second.kept)

pub returns-in_err-mark_heard-clause-settled : goal.returns-in_err-mark_heard-clause-settled
returns-in_err-mark_heard-clause-settled g c = let h = c.args.hooks.now in λ i. (c.mark_heard.ensures.settled i, h.second.settled)

pub returns-in-Ok-clause-opened : goal.returns-in-Ok-clause-opened
returns-in-Ok-clause-opened g c = λ i. record { shared = c.in_ok-mark_heard.ensures.opened i; signings = c.in-Ok.ensures.opened i }

pub returns-in-Ok-clause-same : goal.returns-in-Ok-clause-same
returns-in-Ok-clause-same g c = λ i. (c.mark_heard.ensures.same i, c.mark.ensures.kept i)

pub returns-in-Ok-clause-settled : goal.returns-in-Ok-clause-settled
returns-in-Ok-clause-settled g c = λ i. (c.mark_heard.ensures.settled i, c.mark.ensures.settled i)

pub forget_heard-requires-clause-hooks : goal.forget_heard-requires-clause-hooks
forget_heard-requires-clause-hooks g c =
    let h = c.args.hooks.now.first.first in
    one_more_some h.marks c.mark_heard.new.heard.first.marks h.kept c.in_ok-mark_heard.ensures.opened

pub forget_heard-requires-clause-listener : goal.forget_heard-requires-clause-listener
forget_heard-requires-clause-listener g c = one_more_some _ _ _ c.in_ok-mark_heard.ensures.listener_opened

pub returns-in-Err-clause-err : goal.returns-in-Err-clause-err
returns-in-Err-clause-err g c =
    let h = c.args.hooks.now.first.first in
    let k = c.forget_heard.ensures.hooks in
    let left = forgotten h.marks c.mark_heard.new.heard.first.marks c.forget_heard.new.heard.first.marks h.kept k.0 c.in_ok-mark_heard.ensures.opened k.1 in
    λ i. record { shared = left i; signings = c.in-Err.ensures.err i }

pub returns-in-Err-clause-same : goal.returns-in-Err-clause-same
returns-in-Err-clause-same g c = λ i. ((c.forget_heard.ensures.same ∙ c.mark_heard.ensures.same) i, c.mark.ensures.kept i)

pub returns-in-Err-clause-settled : goal.returns-in-Err-clause-settled
returns-in-Err-clause-settled g c = λ i. ((c.forget_heard.ensures.settled ∙ c.mark_heard.ensures.settled) i, c.mark.ensures.settled i)

pub returns-in-Err-clause-listener_err : goal.returns-in-Err-clause-listener_err
returns-in-Err-clause-listener_err g c = let k = c.forget_heard.ensures.listener in forgotten _ _ _ _ k.0 c.in_ok-mark_heard.ensures.listener_opened k.1
