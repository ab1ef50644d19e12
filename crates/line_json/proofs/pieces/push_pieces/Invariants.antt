use Rattle.std.proofs.Common.{◌≡◌, ◌++◌, drop}
use Rattle.line_json.specs.Told.{pieced}
use Rattle.line_json.proofs.pieces.push_pieces.Given as goal

abbrev pub invariant-loop-piece : goal.invariant-loop-piece
invariant-loop-piece l = l.out.items ++ pieced (drop l.piece-index l.pieces) l.end ≡ l.fn.out.items ++ pieced l.pieces l.end
