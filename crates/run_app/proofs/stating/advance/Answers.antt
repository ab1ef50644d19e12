use Rattle.run_app.proofs.StatingLemmas.{block_goes, block_stops, block_unapplied, block_unread, settled_states, unapplied_stops, unread_stops, untold_stops}
use Rattle.run_app.proofs.stating.advance.Goals as goal

pub returns-in-Err-clause-stop : goal.returns-in-Err-clause-stop
returns-in-Err-clause-stop c = λ s at. rw (c.status_of.ensures, c.not_read.ensures) (block_unread c.args.form c.args.number c.args.line.now c.args.following.now.pair s c.in-Err.fault c.in-Err.ensures)

pub returns-in-Err-clause-may : goal.returns-in-Err-clause-may
returns-in-Err-clause-may c = rw (c.status_of.ensures, c.not_read.ensures) (unread_stops c.args.number c.in-Err.fault)

pub returns-in-Err-apply_block-clause-stop : goal.returns-in-Err-apply_block-clause-stop
returns-in-Err-apply_block-clause-stop c = λ s at.
    rw (c.status_of-in-Err-apply_block.ensures, c.not_applied.ensures)
    (block_unapplied c.args.form c.args.number c.args.line.now c.args.following.now.pair c.in-Ok.block c.in-Ok.ensures s c.in-Err-apply_block.fault c.apply_block.new.self.kept (c.in-Err-apply_block.ensures.applies s.state (rw (c.settle.ensures.kept) at.0)))

pub returns-in-Err-apply_block-clause-may : goal.returns-in-Err-apply_block-clause-may
returns-in-Err-apply_block-clause-may c = rw (c.status_of-in-Err-apply_block.ensures, c.not_applied.ensures) (unapplied_stops c.args.number c.in-Err-apply_block.fault)

pub returns-clause-led : goal.returns-clause-led
returns-clause-led c = λ s at.
    block_goes c.args.form c.args.number c.args.line.now c.args.following.now.pair c.in-Ok.block c.in-Ok.ensures s c.in-Ok-apply_block.report c.settle.new.self c.apply_block.new.self (c.in-Ok-apply_block.ensures.applies s.state (rw (c.settle.ensures.kept) at.0))
    (c.in-Ok-apply_block.ensures.heard s.state (rw (c.settle.ensures.kept) at.0)) (settled_states c.args.chain.now c.settle.new.self c.args.following.now.tracker c.args.following.now.made.items s c.settle.ensures.kept c.settle.ensures.listener at) (c.validator-validator.ensures s.state (rw (c.settle.ensures.kept) at.0)) c.extra-recorder.ensures c.extra.ensures c.len-note.ensures c.take_block.new.self.tracker c.take_block.new.self.made.items c.take_block.result
    c.take_block.ensures.told

pub returns-clause-stop : goal.returns-clause-stop
returns-clause-stop c = λ s at.
    block_stops c.args.form c.args.number c.args.line.now c.args.following.now.pair c.in-Ok.block c.in-Ok.ensures s c.in-Ok-apply_block.report c.settle.new.self c.apply_block.new.self (c.in-Ok-apply_block.ensures.applies s.state (rw (c.settle.ensures.kept) at.0))
    (c.in-Ok-apply_block.ensures.heard s.state (rw (c.settle.ensures.kept) at.0)) (settled_states c.args.chain.now c.settle.new.self c.args.following.now.tracker c.args.following.now.made.items s c.settle.ensures.kept c.settle.ensures.listener at) (c.validator-validator.ensures s.state (rw (c.settle.ensures.kept) at.0)) c.extra-recorder.ensures c.extra.ensures c.len-note.ensures c.take_block.result c.take_block.ensures.stop

pub returns-clause-may : goal.returns-clause-may
returns-clause-may c = untold_stops _ _ c.take_block.result c.take_block.ensures.stop
