use Rattle.std.proofs.Common.{◌≡◌, drop}
use Rattle.mod_unbonding.specs.Items.{same_entries}
use Rattle.mod_unbonding.proofs.items.are_same.Given as goal

abbrev pub invariant-loop-place : goal.invariant-loop-place
invariant-loop-place l = same_entries (drop l.place l.entries) (drop l.place l.others) ≡ same_entries l.entries l.others
