use Rattle.std.proofs.Common.{◌≡◌, take, sum_by}
use Rattle.run_trial.specs.Summary.{burned_by}
use Rattle.run_trial.proofs.counting.burned_by_all.Given as goal

abbrev pub invariant-loop-tx : goal.invariant-loop-tx
invariant-loop-tx l = l.sum ≡ sum_by (λ tx. burned_by tx.facts) (take l.tx-index l.txs)
