use Rattle.run_app.proofs.StatingLemmas.{genesis_goes, genesis_stops, genesis_unread, genesis_unstarted, unread_stops, unstarted_stops, untold_stop}
use Rattle.run_app.proofs.stating.begin.Goals as goal

pub returns-in-Err-clause-stop : goal.returns-in-Err-clause-stop
returns-in-Err-clause-stop c = λ at.
    rw (c.status_of.ensures, c.not_read.ensures) (genesis_unread c.args.form c.args.number c.args.line.now c.args.following.now.pair c.in-Err.fault c.in-Err.ensures)

pub returns-in-Err-clause-may : goal.returns-in-Err-clause-may
returns-in-Err-clause-may c = rw (c.status_of.ensures, c.not_read.ensures) (unread_stops c.args.number c.in-Err.fault)

pub returns-in-Err-with-clause-stop : goal.returns-in-Err-with-clause-stop
returns-in-Err-with-clause-stop c = λ at.
    rw c.status_of-in-Err-with.ensures
    (genesis_unstarted c.args.form c.args.number c.args.line.now c.args.following.now.pair c.in-Ok.genesis c.in-Ok.ensures c.in-Err-with.fault c.not_started.result c.in-Err-with.ensures.fault c.not_started.ensures)

pub returns-in-Err-with-clause-may : goal.returns-in-Err-with-clause-may
returns-in-Err-with-clause-may c = rw c.status_of-in-Err-with.ensures (unstarted_stops c.args.number c.in-Err-with.fault c.not_started.result c.not_started.ensures)

pub returns-in-Ok-take_start-clause-led : goal.returns-in-Ok-take_start-clause-led
returns-in-Ok-take_start-clause-led c = λ at.
    genesis_goes c.args.form c.args.number c.args.line.now c.args.following.now.pair c.in-Ok.genesis c.in-Ok.ensures c.in-Ok-with.facts c.in-Ok-with.chain c.in-Ok-with.ensures.starts c.in-Ok-with.ensures.chain c.new-recorder.ensures c.in-Ok-with.ensures.heard c.extra.ensures
    at.1 at.2 c.take_start.new.self.tracker c.take_start.new.self.made.items c.in-Ok-take_start.ensures.told

pub returns-clause-stop : goal.returns-clause-stop
returns-clause-stop c = λ at.
    genesis_stops c.args.form c.args.number c.args.line.now c.args.following.now.pair c.in-Ok.genesis c.in-Ok.ensures c.in-Ok-with.facts c.in-Ok-with.chain c.in-Ok-with.ensures.starts c.in-Ok-with.ensures.chain c.new-recorder.ensures c.in-Ok-with.ensures.heard c.extra.ensures
    at.1 c.in-Err-take_start.status c.in-Err-take_start.ensures.stop

pub returns-clause-may : goal.returns-clause-may
returns-clause-may c = untold_stop _ _ c.in-Err-take_start.status c.in-Err-take_start.ensures.stop
