use Rattle.std.proofs.Common.{◌≡◌, ◌∙◌, List, Err, sym, subst}
use Rattle.base_messages.specs.declared.block.Tx.{Tx}
use Rattle.rule_modules.specs.Chain.{State}
use Rattle.rule_machine.specs.{GenesisState.without_facts, Listening.{Hearing, txs_heard}, Machine.txs_applied}
use Rattle.chain_modules.specs.{declared.modules.Modules.Modules, Heard.Hears, Kept.{StandsWhole, kept_of}}
use Rattle.chain_blocks.specs.Answers.{AnswersStep, parts_stepped}
use Rattle.chain_blocks.proofs.ApplyLemmas.{IsTaken, end_stopped, parts_done, taken_behind, taken_kept, taken_steady}
use Rattle.chain_blocks.proofs.{HearLemmas.parts_hear, BlockLemmas.{begin_stops, record_stops}}
use Rattle.chain_blocks.proofs.block.apply_parts.Goals as goal

pub returns-in-Err-clause-steps : goal.returns-in-Err-clause-steps
returns-in-Err-clause-steps g c = λ p h.
    subst (λ f. AnswersStep (parts_stepped c.args.block.now p) (kept_of c.begin.new.modules) (Err f)) (sym c.fault_of_hook.ensures)
    (begin_stops c.args.block.now p (kept_of c.begin.new.modules) (kept_of c.begin.new.modules) StandsWhole c.in-Err.fault (c.in-Err.ensures.leads p h))

pub apply_transactions-requires-clause-steady : goal.apply_transactions-requires-clause-steady
apply_transactions-requires-clause-steady g c =
    let t = c.told-begun.ensures in
    let taken : IsTaken c.begin.new.modules c.told-begun.new.modules = record { none = t.none; bank = t.bank; ctx = t.ctx; stakes = t.stakes; shared = t.shared; signings = t.signings } in
    taken_steady c.begin.new.modules c.told-begun.new.modules taken c.in_default.ensures.steady

pub returns-in-Err-apply_transactions-clause-steps : goal.returns-in-Err-apply_transactions-clause-steps
returns-in-Err-apply_transactions-clause-steps g c = λ p h.
    subst (λ f. AnswersStep (parts_stepped c.args.block.now p) (kept_of c.apply_transactions.new.modules) (Err f)) (sym c.fault_of_record.ensures)
    (record_stops (parts_stepped c.args.block.now p) (kept_of c.apply_transactions.new.modules) c.in-Err-apply_transactions.fault)

pub returns-in-Err-apply_transactions-clause-behind : goal.returns-in-Err-apply_transactions-clause-behind
returns-in-Err-apply_transactions-clause-behind g c =
    let t = c.told-begun.ensures in
    let taken : IsTaken c.begin.new.modules c.told-begun.new.modules = record { none = t.none; bank = t.bank; ctx = t.ctx; stakes = t.stakes; shared = t.shared; signings = t.signings } in
    c.apply_transactions.ensures.behind ∙ taken_behind c.begin.new.modules c.told-begun.new.modules taken ∙ c.begin.ensures.go_on.behind

pub returns-in-Err-end-clause-steps : goal.returns-in-Err-end-clause-steps
returns-in-Err-end-clause-steps g c = λ p h.
    let b = c.args.block.now in
    let begun : Modules g.row.E.Denot = c.begin.new.modules in
    let told : Modules g.row.E.Denot = c.told-begun.new.modules in
    let applied : Modules g.row.E.Denot = c.apply_transactions.new.modules in
    let t = c.told-begun.ensures in
    let taken : IsTaken begun told = record { none = t.none; bank = t.bank; ctx = t.ctx; stakes = t.stakes; shared = t.shared; signings = t.signings } in
    let applies = subst (λ (l : List Tx). (q : State) → StandsWhole (kept_of told) q → StandsWhole (kept_of applied) (without_facts (txs_applied l q).state)) c.as_slice.ensures c.in-Ok.ensures.state in
    subst (λ f. AnswersStep (parts_stepped b p) (kept_of c.end.new.modules) (Err f)) (sym c.fault_of_hook-in-Err-end.ensures)
    (end_stopped b c.args.modules.now begun told applied c.in_default.ensures.leads taken applies c.end.new.modules (kept_of c.end.new.modules) c.in-Err-end.fault c.in-Err-end.ensures.takes.leads p h)

pub returns-in-Err-end-clause-behind : goal.returns-in-Err-end-clause-behind
returns-in-Err-end-clause-behind g c =
    let t = c.told-begun.ensures in
    let taken : IsTaken c.begin.new.modules c.told-begun.new.modules = record { none = t.none; bank = t.bank; ctx = t.ctx; stakes = t.stakes; shared = t.shared; signings = t.signings } in
    c.end.ensures.takes.go_on.behind ∙ c.apply_transactions.ensures.behind ∙ taken_behind c.begin.new.modules c.told-begun.new.modules taken ∙ c.begin.ensures.go_on.behind

pub returns-clause-steps : goal.returns-clause-steps
returns-clause-steps g c = λ p h.
    let b = c.args.block.now in
    let begun : Modules g.row.E.Denot = c.begin.new.modules in
    let told : Modules g.row.E.Denot = c.told-begun.new.modules in
    let applied : Modules g.row.E.Denot = c.apply_transactions.new.modules in
    let ended : Modules g.row.E.Denot = c.end.new.modules in
    let last : Modules g.row.E.Denot = c.told_last-ended.new.modules in
    let t = c.told-begun.ensures in
    let u = c.told_last-ended.ensures in
    let taken : IsTaken begun told = record { none = t.none; bank = t.bank; ctx = t.ctx; stakes = t.stakes; shared = t.shared; signings = t.signings } in
    let out : IsTaken ended last = record { none = u.none; bank = u.bank; ctx = u.ctx; stakes = u.stakes; shared = u.shared; signings = u.signings } in
    let applies = subst (λ (l : List Tx). (q : State) → StandsWhole (kept_of told) q → StandsWhole (kept_of applied) (without_facts (txs_applied l q).state)) c.as_slice.ensures c.in-Ok.ensures.state in
    parts_done b c.args.modules.now begun told applied c.in_default.ensures.leads taken applies ended last c.in_default-end.ensures.takes.leads out c.told-begun.result c.told_last-ended.result c.of.result t.facts
    (λ q s. c.of.ensures ∙ subst (λ (l : List Tx). c.in-Ok.txs.items ≡ (txs_applied l q).reports) c.as_slice.ensures (c.in-Ok.ensures.reports q s)) u.facts p h

pub returns-clause-steady : goal.returns-clause-steady
returns-clause-steady g c =
    let u = c.told_last-ended.ensures in
    let out : IsTaken c.end.new.modules c.told_last-ended.new.modules = record { none = u.none; bank = u.bank; ctx = u.ctx; stakes = u.stakes; shared = u.shared; signings = u.signings } in
    taken_steady c.end.new.modules c.told_last-ended.new.modules out c.in_default-end.ensures.takes.steady

pub returns-clause-behind : goal.returns-clause-behind
returns-clause-behind g c =
    let t = c.told-begun.ensures in
    let u = c.told_last-ended.ensures in
    let taken : IsTaken c.begin.new.modules c.told-begun.new.modules = record { none = t.none; bank = t.bank; ctx = t.ctx; stakes = t.stakes; shared = t.shared; signings = t.signings } in
    let out : IsTaken c.end.new.modules c.told_last-ended.new.modules = record { none = u.none; bank = u.bank; ctx = u.ctx; stakes = u.stakes; shared = u.shared; signings = u.signings } in
    taken_behind c.end.new.modules c.told_last-ended.new.modules out ∙ c.end.ensures.takes.go_on.behind ∙ c.apply_transactions.ensures.behind ∙ taken_behind c.begin.new.modules c.told-begun.new.modules taken ∙ c.begin.ensures.go_on.behind

pub returns-clause-heard : goal.returns-clause-heard
returns-clause-heard g c =
    let b = c.args.block.now in
    let begun : Modules g.row.E.Denot = c.begin.new.modules in
    let told : Modules g.row.E.Denot = c.told-begun.new.modules in
    let applied : Modules g.row.E.Denot = c.apply_transactions.new.modules in
    let done : Modules g.row.E.Denot = c.end.new.modules in
    let last : Modules g.row.E.Denot = c.told_last-ended.new.modules in
    let t = c.told-begun.ensures in
    let u = c.told_last-ended.ensures in
    let taken : IsTaken begun told = record { none = t.none; bank = t.bank; ctx = t.ctx; stakes = t.stakes; shared = t.shared; signings = t.signings } in
    let out : IsTaken done last = record { none = u.none; bank = u.bank; ctx = u.ctx; stakes = u.stakes; shared = u.shared; signings = u.signings } in
    let applies = subst (λ (l : List Tx). (w : Hearing _) → Hears g.E.Extra.heard StandsWhole told w → Hears g.E.Extra.heard StandsWhole applied (txs_heard g.E.Extra.hears g.E.Extra.parted g.E.Extra.ended l w)) c.as_slice.ensures c.in-Ok.ensures.heard in
    parts_hear g.E.Extra.heard g.E.Extra.hears g.E.Extra.parted g.E.Extra.ended b c.args.modules.now begun told applied done last c.in_default.ensures.heard (taken_kept begun told taken) t.heard applies c.in_default-end.ensures.heard (taken_kept done last out) u.heard
