use Rattle.std.proofs.Common.{◌≡◌, Bool, false, IsTrue}
use Rattle.line_json.proofs.ReadingLemmas.{tree_found, tree_absent}
use Rattle.line_json.proofs.reading.tree_of.Goals as goal

told : (b : Bool) → IsTrue b → b ≡ false → ⊥
told b t e = cc

pub returns-in-Ok : goal.returns-in-Ok
returns-in-Ok c = tree_found _ _ c.in-Ok.ensures.ok.0 c.in-Ok.ensures.ok.1

pub returns-else-is_memory : goal.returns-else-is_memory
returns-else-is_memory c = tree_absent _ (c.in-Err.ensures.err (λ m. told c.is_memory.result (c.is_memory.ensures.1 m) c.if-is_memory.false))
