use Rattle.std.proofs.Common.{length, ◌≡◌, ◌^◌, ◌<◌, ◌++◌, decimal}
use Rattle.line_compact.proofs.pieces.digits.Given as goal

abbrev pub invariant-loop-digit : goal.invariant-loop-digit
invariant-loop-digit l = (l.text ≡ decimal l.number ++ l.rest) × (0 < l.number) × (l.number < 10 ^ 18)

abbrev pub decreases-loop-digit : goal.decreases-loop-digit
decreases-loop-digit l = length l.rest
