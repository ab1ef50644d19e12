use Rattle.std.proofs.Common.{◌≡◌, drop, map}
use Rattle.mod_statement.{specs.Slack.slacks_of, proofs.{Slacks.behind, Walks.seen}}
use Rattle.mod_statement.proofs.slack.slack_of.Given as goal

abbrev pub invariant-loop-denom : goal.invariant-loop-denom
invariant-loop-denom l =
    slacks_of l.first l.rest l.removals l.ratio l.denom-items
    ≡ behind (map seen l.slacks.items) (slacks_of l.first l.rest l.removals l.ratio (drop l.denom-index l.denom-items))
