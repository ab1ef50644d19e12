use Rattle.std.proofs.Common.{◌∙◌}
use Rattle.std.proofs.lemmas.Result.{err_from_is_err_and}
use Rattle.chain_modules.specs.{Kept.stakes_kept, Marks.{hooks_marks, stakes_marks, stakes_settled}}
use Rattle.chain_modules.proofs.MarkLemmas.{forgotten, one_more_some}
use Rattle.chain_modules.proofs.modules.Modules.mark.Goals as goal

pub returns-in_err-mark-clause-err : goal.returns-in_err-mark-clause-err
returns-in_err-mark-clause-err g c =
    let m = c.args.self.now in
    let r = err_from_is_err_and c.from_residual.result c.from_residual.ensures.1 in
    rw r.1 (λ i. record { bank = c.in_err-mark.ensures.err i; stakes = stakes_marks m.stakes; hooks = hooks_marks m.hooks })

pub returns-in_err-mark-clause-same : goal.returns-in_err-mark-clause-same
returns-in_err-mark-clause-same g c =
    let m = c.args.self.now in
    λ i. record { stakes = stakes_kept m.stakes; shared = m.hooks.first.first.kept; signings = m.hooks.second.kept; view = record { bank = c.mark.ensures.kept i; ctx = m.ground.ctx; facts = m.ground.facts } }

pub returns-in_err-mark-clause-settled : goal.returns-in_err-mark-clause-settled
returns-in_err-mark-clause-settled g c =
    let m = c.args.self.now in
    λ i. record { bank = c.mark.ensures.settled i; stakes = stakes_settled m.stakes; shared = m.hooks.first.first.settled; signings = m.hooks.second.settled }

pub returns-in-Ok-clause-opened : goal.returns-in-Ok-clause-opened
returns-in-Ok-clause-opened g c = λ i. record { bank = c.in_ok-mark.ensures.opened i; stakes = c.in-Ok.ensures.stakes_opened i; hooks = c.in-Ok.ensures.hooks_opened i }

pub returns-in-Ok-clause-same : goal.returns-in-Ok-clause-same
returns-in-Ok-clause-same g c =
    let m = c.args.self.now in
    let e = c.mark_beside.ensures in
    λ i. record { stakes = e.stakes_same i; shared = (e.hooks_same i).0; signings = (e.hooks_same i).1; view = record { bank = c.mark.ensures.kept i; ctx = m.ground.ctx; facts = m.ground.facts } }

pub returns-in-Ok-clause-settled : goal.returns-in-Ok-clause-settled
returns-in-Ok-clause-settled g c =
    let e = c.mark_beside.ensures in
    λ i. record { bank = c.mark.ensures.settled i; stakes = e.stakes_settled i; shared = (e.hooks_settled i).0; signings = (e.hooks_settled i).1 }

pub forget-requires : goal.forget-requires
forget-requires g c = let b = c.args.self.now.ground.bank in one_more_some b.marks c.mark.new.self.marks b.holdings c.in_ok-mark.ensures.opened

pub returns-in-Err-clause-err : goal.returns-in-Err-clause-err
returns-in-Err-clause-err g c =
    let b = c.args.self.now.ground.bank in
    let k = c.forget.ensures.closed in
    let left = forgotten b.marks c.mark.new.self.marks c.forget.new.self.marks b.holdings k.0 c.in_ok-mark.ensures.opened k.1 in
    λ i. record { bank = left i; stakes = c.in-Err.ensures.stakes_err i; hooks = c.in-Err.ensures.hooks_err i }

pub returns-in-Err-clause-same : goal.returns-in-Err-clause-same
returns-in-Err-clause-same g c =
    let m = c.args.self.now in
    let e = c.mark_beside.ensures in
    let bank = c.forget.ensures.kept ∙ c.mark.ensures.kept in
    λ i. record { stakes = e.stakes_same i; shared = (e.hooks_same i).0; signings = (e.hooks_same i).1; view = record { bank = bank i; ctx = m.ground.ctx; facts = m.ground.facts } }

pub returns-in-Err-clause-settled : goal.returns-in-Err-clause-settled
returns-in-Err-clause-settled g c =
    let e = c.mark_beside.ensures in
    let bank = c.forget.ensures.settled ∙ c.mark.ensures.settled in
    λ i. record { bank = bank i; stakes = e.stakes_settled i; shared = (e.hooks_settled i).0; signings = (e.hooks_settled i).1 }
