use Rattle.std.proofs.Common.{◌≡◌, ◌+◌, drop}
use Rattle.run_trial.specs.Summary.{burned_by}
use Rattle.run_trial.proofs.counting.burned_by.Given as goal

abbrev pub invariant-loop-place : goal.invariant-loop-place
invariant-loop-place l = l.sum + burned_by (drop l.place l.facts) ≡ burned_by l.facts
