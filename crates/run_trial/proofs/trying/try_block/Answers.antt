use Rattle.rule_machine.specs.Machine.{step}
use Rattle.run_trial.proofs.TryingLemmas.{fault_told, room_for, step_added}
use Rattle.run_trial.proofs.trying.try_block.Goals as goal

pub add-requires : goal.add-requires
add-requires c =
    let s = c.requires.room in record {
      room =
          room_for c.args.counts.now (step c.args.block.now s.0) c.apply_block.new.self.kept c.in-Ok.report
          (c.in-Ok.ensures.applies s.0 s.1) s.2;
    }

pub returns-in-Ok-clause-ok : goal.returns-in-Ok-clause-ok
returns-in-Ok-clause-ok c = λ p stands.
    step_added _ _ (step c.args.block.now p) c.settle.new.self.kept c.in-Ok.report (rw c.settle.ensures.kept (c.in-Ok.ensures.applies p stands)) c.add.ensures

pub returns-in-Err-clause-err : goal.returns-in-Err-clause-err
returns-in-Err-clause-err c = λ p stands.
    fault_told (step c.args.block.now p) c.apply_block.new.self.kept c.in-Err.fault (c.in-Err.ensures.applies p stands)
