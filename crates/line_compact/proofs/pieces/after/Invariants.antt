use Rattle.std.proofs.Common.{◌≡◌, take, true}
use Rattle.line_compact.proofs.pieces.after.Given as goal

abbrev pub invariant-bytes : goal.invariant-bytes
invariant-bytes l = l.same ≡ true → take l.i l.text ≡ take l.i l.piece
