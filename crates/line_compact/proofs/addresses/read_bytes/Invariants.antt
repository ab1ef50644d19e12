use Rattle.std.proofs.Common.{◌≡◌, ◌<◌, ◌*◌, length, take, drop}
use Rattle.base_types.{specs.Address.bytes_of, proofs.DigitLemmas.after}
use Rattle.line_compact.proofs.addresses.read_bytes.Given as goal

-- where all so far are digits, the bytes so far come before those of the other digits
abbrev pub invariant-bytes : goal.invariant-bytes
invariant-bytes l = (length l.bytes ≡ 20) × (l.all < 256 → after (take l.i l.bytes) (bytes_of (drop (2 * l.i) l.digits)) ≡ bytes_of l.digits)
