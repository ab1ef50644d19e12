use Rattle.std.proofs.Common.{◌≡◌, ◌*◌, ◌++◌, length, take, drop}
use Rattle.base_types.specs.Address.{address_text}
use Rattle.base_types.proofs.digits.address_digits.Given as goal

-- the digits so far come before those of the other bytes
abbrev pub invariant-bytes : goal.invariant-bytes
invariant-bytes l = (length l.digits ≡ 40) × (take (2 * l.i) l.digits ++ address_text (drop l.i l.bytes) ≡ address_text l.bytes)
