use Rattle.std.proofs.Common.{◌≡◌, ◌<◌, ◌^◌, ◌%◌, fold, map, take}
use Rattle.base_bech32.specs.Residue.{residue_step}
use Rattle.base_bech32.proofs.residue.after_lower_bits.Given as goal

-- the residue after the characters so far
abbrev pub invariant-characters : goal.invariant-characters
invariant-characters l =
    (l.residue ≡ fold residue_step l.start (map (λ c. c % 32) (take l.i l.prefix))) × (l.residue < 2 ^ 30)
