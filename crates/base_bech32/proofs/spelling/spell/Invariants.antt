use Rattle.std.proofs.Common.{◌≡◌, string_bytes, take}
use Rattle.base_bech32.proofs.spelling.spell.Given as goal

-- the letters so far
abbrev pub invariant-letters : goal.invariant-letters
invariant-letters l = string_bytes l.text ≡ take l.i l.out
