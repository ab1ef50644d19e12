use Rattle.std.proofs.Common.{◌≡◌, ◌≤◌, count_by, not, take}
use Rattle.run_trial.specs.Summary.{is_accepted}
use Rattle.run_trial.proofs.counting.refused_of.Given as goal

abbrev pub invariant-loop-tx : goal.invariant-loop-tx
invariant-loop-tx l = (l.count ≡ count_by (λ tx. not (is_accepted tx)) (take l.tx-index l.txs)) × (l.count ≤ l.tx-index)
