use Rattle.std.proofs.Common.{sym, subst, IfErr, OnOk}
use Rattle.rule_machine.specs.Machine.{step}
use Rattle.run_trial.specs.Trying.{AddsStep, HasRoomFor, IsFaultOf}
use Rattle.run_trial.proofs.trying.try_next.Goals as goal

pub try_block-requires-clause-room : goal.try_block-requires-clause-room
try_block-requires-clause-room c =
    let r = c.requires.room in
    (r.0, r.1, subst (λ b. HasRoomFor c.args.counts.now (step b r.0)) (sym c.in-Ok.ensures.value) r.2)

pub returns-clause-ok : goal.returns-clause-ok
returns-clause-ok c = λ p stands.
    subst (λ b. OnOk c.try_block.result (AddsStep (step b p) c.args.counts.now c.try_block.new.counts c.try_block.new.chain.kept)) c.in-Ok.ensures.value
    (c.try_block.ensures.ok p stands)

pub returns-clause-err : goal.returns-clause-err
returns-clause-err c = λ p stands.
    subst (λ b. IfErr c.try_block.result (IsFaultOf (step b p))) c.in-Ok.ensures.value (c.try_block.ensures.err p stands)
