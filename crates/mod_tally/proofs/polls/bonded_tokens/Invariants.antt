use Rattle.std.proofs.Common.{◌≡◌, ◌+◌, drop, sum_by}
use Rattle.mod_tally.specs.Counting.{bonded_in}
use Rattle.mod_tally.proofs.polls.bonded_tokens.Given as goal

abbrev pub invariant-loop-item : goal.invariant-loop-item
invariant-loop-item l = l.total + sum_by bonded_in (drop l.item-index l.items) ≡ sum_by bonded_in l.items
