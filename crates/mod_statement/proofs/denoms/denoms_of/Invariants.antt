use Rattle.std.proofs.Common.{◌≡◌, drop}
use Rattle.mod_statement.specs.Slack.{denoms_of, denoms_over}
use Rattle.mod_statement.proofs.denoms.denoms_of.Given as goal

abbrev pub invariant-loop-entry : goal.invariant-loop-entry
invariant-loop-entry l = denoms_of l.ratio l.entries ≡ denoms_over l.denoms.items (drop l.entry-index l.entries)
