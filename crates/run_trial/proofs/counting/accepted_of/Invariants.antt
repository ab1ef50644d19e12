use Rattle.std.proofs.Common.{◌≡◌, ◌≤◌, count_by, take}
use Rattle.run_trial.specs.Summary.{is_accepted}
use Rattle.run_trial.proofs.counting.accepted_of.Given as goal

abbrev pub invariant-loop-tx : goal.invariant-loop-tx
invariant-loop-tx l = (l.count ≡ count_by is_accepted (take l.tx-index l.txs)) × (l.count ≤ l.tx-index)
