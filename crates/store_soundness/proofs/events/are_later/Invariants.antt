use Rattle.std.proofs.Common.{◌≡◌, None}
use Rattle.store_soundness.specs.Events.{are_later}
use Rattle.store_soundness.proofs.events.are_later.Given as goal

abbrev pub invariant-loop-key : goal.invariant-loop-key
invariant-loop-key l = are_later l.last l.key-iterator ≡ are_later None l.events.entries
