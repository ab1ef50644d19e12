use Rattle.std.proofs.Common.{arith}
use Rattle.line_compact.proofs.PieceLemmas.{all_same, one_more_same}
use Rattle.line_compact.proofs.pieces.after.Goals as goal

pub bytes-preserved : goal.bytes-preserved
bytes-preserved c =
    one_more_same c.args.text.now c.args.piece.now c.bytes.i c.bytes.same (omega arith) (omega arith) c.bytes.invariant

pub returns-then-same : goal.returns-then-same
returns-then-same c = all_same c.args.text.now c.args.piece.now c.bytes.i (omega arith) (omega arith) (omega arith) (c.bytes.invariant c.if-same.true)
