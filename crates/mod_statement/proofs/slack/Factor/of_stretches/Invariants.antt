use Rattle.std.proofs.Common.{◌≡◌, ◌+◌, ◌≤◌, drop}
use Rattle.mod_statement.specs.Slack.{later_stretches, stretches_of}
use Rattle.mod_statement.proofs.slack.Factor.of_stretches.Given as goal

abbrev pub invariant-loop-place : goal.invariant-loop-place
invariant-loop-place l = record {
  so_far : stretches_of l.denom l.first l.entries ≡ later_stretches l.denom l.first l.number l.factor (drop l.place l.entries);
  small : l.number ≤ l.place + 1;
}
