use Rattle.std.proofs.Common.{refl}
use Rattle.run_app.proofs.{AnswerLemmas.{block_not_read, faults_on, stays_on, steps_on}, LineLemmas.unless_same}
use Rattle.run_app.proofs.line.advance.Goals as goal

pub returns-in-Err-clause-err : goal.returns-in-Err-clause-err
returns-in-Err-clause-err c = λ p s. rw c.not_read.ensures (block_not_read c.args.form _ _ p c.in-Err.fault c.in-Err.ensures)

pub returns-in-Err-apply_block-clause-err : goal.returns-in-Err-apply_block-clause-err
returns-in-Err-apply_block-clause-err c = λ p s.
    rw c.not_applied.ensures (faults_on c.args.form _ _ c.in-Ok.block p c.apply_block.new.self.kept c.in-Err-apply_block.fault c.in-Ok.ensures (c.in-Err-apply_block.ensures.applies p s))

pub returns-in-Ok-push_lines_of_block-clause-ok : goal.returns-in-Ok-push_lines_of_block-clause-ok
returns-in-Ok-push_lines_of_block-clause-ok c = λ p s.
    steps_on c.args.form _ _ c.in-Ok.block p c.in-Ok-apply_block.report c.apply_block.new.self _ _ c.in-Ok.ensures (c.in-Ok-apply_block.ensures.applies p s) c.in-Ok-push_lines_of_block.ensures.text

pub returns-in-Err-clause-stays : goal.returns-in-Err-clause-stays
returns-in-Err-clause-stays c = unless_same _ _ _ _

pub returns-in-Err-apply_block-clause-stays : goal.returns-in-Err-apply_block-clause-stays
returns-in-Err-apply_block-clause-stays c = rw c.not_applied.ensures (stays_on _ _ _ c.args.number c.in-Err-apply_block.fault _ refl c.in-Err-apply_block.ensures.leaves)
