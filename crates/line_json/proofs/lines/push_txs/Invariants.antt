use Rattle.std.proofs.Common.{◌≡◌, ◌++◌, drop}
use Rattle.line_json.specs.Written.{text_of_txs}
use Rattle.line_json.proofs.lines.push_txs.Given as goal

abbrev pub invariant-loop-place : goal.invariant-loop-place
invariant-loop-place l =
    l.out.items ++ text_of_txs l.form l.height l.place (drop l.place l.txs) ≡ l.fn.out.items ++ text_of_txs l.form l.height 0 l.txs
