use mir.Syntax.{w128}
use Rattle.std.proofs.lemmas.Nat.Bits.{bit_at_set_same, bit_at_set_other}
use Rattle.mod_signing.proofs.bits.set_place.Goals as goal

pub returns : goal.returns
returns c = record { here = bit_at_set_same w128 _ _ c.requires; others = bit_at_set_other w128 _ _ c.requires }
