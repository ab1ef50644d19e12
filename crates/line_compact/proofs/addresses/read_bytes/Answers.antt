use Rattle.std.proofs.Common.{◌∙◌, ◌+◌, ◌*◌, refl, sym, arith, length-set, slice_index, Some}
use Rattle.base_types.{specs.Address.bytes_of, proofs.DigitLemmas.{after_nothing, read_done, address_of-forty}}
use Rattle.line_compact.proofs.AddressLemmas.{high_small, low_small, two_more}
use Rattle.line_compact.proofs.addresses.read_bytes.Goals as goal

pub bytes-init : goal.bytes-init
bytes-init c = (refl, λ small. after_nothing (bytes_of c.args.digits.now))

pub overflow_add-byte : goal.overflow_add-byte
overflow_add-byte c =
    let digits = c.args.digits.now in
    omega (arith, c.high_of.ensures, c.low_of.ensures, high_small (slice_index digits (2 * c.bytes.i)), low_small (slice_index digits (2 * c.bytes.i + 1)))

pub bytes-preserved : goal.bytes-preserved
bytes-preserved c =
    let inv = c.bytes.invariant in (
      length-set _ _ _ ∙ inv.0,
      two_more c.args.digits.now c.bytes.bytes c.bytes.i c.bytes.all _ _ _ (omega (arith, c.requires)) (omega (arith, inv.0)) c.high_of.ensures c.low_of.ensures refl inv.1,
    )

pub returns-then-all-lt256 : goal.returns-then-all-lt256
returns-then-all-lt256 c =
    let inv = c.bytes.invariant in
    let all = read_done c.args.digits.now c.bytes.bytes c.bytes.i (omega (arith, inv.0)) (omega (arith, c.requires)) (inv.1 c.if-all-lt256.true) in
    sym (address_of-forty c.args.digits.now (Some c.bytes.bytes) c.requires all)
