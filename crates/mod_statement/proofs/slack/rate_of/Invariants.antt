use Rattle.std.proofs.Common.{◌≡◌, drop}
use Rattle.mod_statement.specs.Slack.{rate_of}
use Rattle.mod_statement.proofs.slack.rate_of.Given as goal

abbrev pub invariant-loop-entry : goal.invariant-loop-entry
invariant-loop-entry l = rate_of l.denom 0 l.stretch ≡ rate_of l.denom l.rate (drop l.entry-index l.stretch)
