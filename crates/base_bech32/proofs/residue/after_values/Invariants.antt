use Rattle.std.proofs.Common.{◌≡◌, ◌<◌, ◌^◌, fold, take}
use Rattle.base_bech32.specs.Residue.{residue_step}
use Rattle.base_bech32.proofs.residue.after_values.Given as goal

-- the residue after the values so far
abbrev pub invariant-values : goal.invariant-values
invariant-values l = (l.residue ≡ fold residue_step l.start (take l.i l.values)) × (l.residue < 2 ^ 30)
