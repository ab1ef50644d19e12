use Rattle.std.proofs.Common.{◌∙◌, length, sym, ap}
use Rattle.mod_signing.proofs.ring.Ring.len.Goals as goal

pub returns : goal.returns
returns c = sym c.self.invariant ∙ ap length c.self.view_is
