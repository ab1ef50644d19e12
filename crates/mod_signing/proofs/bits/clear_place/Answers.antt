use mir.Syntax.{w128}
use Rattle.std.proofs.lemmas.Nat.Bits.{bit_at_clear_same, bit_at_clear_other}
use Rattle.mod_signing.proofs.bits.clear_place.Goals as goal

pub returns : goal.returns
returns c = record { here = bit_at_clear_same w128 _ _ c.requires; others = bit_at_clear_other w128 _ _ c.requires }
