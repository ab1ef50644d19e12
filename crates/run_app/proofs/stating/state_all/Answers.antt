use Rattle.std.proofs.Common.{Err, ap}
use Rattle.run_app.{specs.Statements.StatesAt, proofs.CheckLemmas.{may_end_busy, may_end_kept, may_end_undone}}
use Rattle.run_app.proofs.CountLemmas.{moved_read, moved_write, unkept}
use Rattle.run_app.proofs.StatingLemmas.{all_stated, nothing_stands, part_stated}
use Rattle.run_app.proofs.stating.state_all.Goals as goal

pub returns-clause-ends : goal.returns-clause-ends
returns-clause-ends g c =
    part_stated c.take_lines.new.taker c.args.form (λ x. x.following.pair) (λ x. StatesAt x.chain x.following.tracker x.following.made.items) c.args.delegator.now c.args.operator.now c.in-Err.status c.in-Err.ensures.part
    (nothing_stands c.new-tracker.ensures c.new-made.ensures.items) c.pair_of.ensures

pub returns-clause-busy : goal.returns-clause-busy
returns-clause-busy g c = may_end_busy c.in-Err.status c.in-Err.ensures.may

pub returns-clause-keep : goal.returns-clause-keep
returns-clause-keep g c = unkept c.in-Err.status (may_end_kept c.in-Err.status c.in-Err.ensures.may)

pub returns-clause-reads : goal.returns-clause-reads
returns-clause-reads g c = moved_read c.in-Err.status _ _ (λ e. c.in-Err.ensures.read_cause (ap Err e)) c.in-Err.ensures.read_quiet

pub returns-clause-writes : goal.returns-clause-writes
returns-clause-writes g c = (
  moved_write c.in-Err.status _ _ (λ e. c.in-Err.ensures.write_cause (ap Err e)) c.in-Err.ensures.write_quiet,
  λ e. absurd (may_end_undone c.in-Err.status c.in-Err.ensures.may e),
)

pub returns-in-Ok-clause-ends : goal.returns-in-Ok-clause-ends
returns-in-Ok-clause-ends g c =
    all_stated c.take_lines.new.taker c.args.form (λ x. x.following.pair) (λ x. StatesAt x.chain x.following.tracker x.following.made.items) c.args.delegator.now c.args.operator.now c.in-Ok.ensures.all
    (nothing_stands c.new-tracker.ensures c.new-made.ensures.items) c.pair_of.ensures c.write_statements.result c.write_statements.ensures.ends

pub returns-in-Ok-clause-reads : goal.returns-in-Ok-clause-reads
returns-in-Ok-clause-reads g c = rw c.write_statements.ensures.read c.in-Ok.ensures.read_quiet

pub returns-in-Ok-clause-writes : goal.returns-in-Ok-clause-writes
returns-in-Ok-clause-writes g c = rw (← c.in-Ok.ensures.write_quiet) c.write_statements.ensures.writes
