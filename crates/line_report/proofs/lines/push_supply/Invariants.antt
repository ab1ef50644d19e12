use Rattle.std.proofs.Common.{◌≡◌, ◌++◌}
use Rattle.line_json.specs.Told.{coins_seen}
use Rattle.line_report.proofs.lines.push_supply.Given as goal

abbrev pub invariant-loop-denom : goal.invariant-loop-denom
invariant-loop-denom l = coins_seen l.coins.items ++ l.denom-iterator ≡ l.supplies.entries
