use Rattle.std.proofs.Common.{◌∙◌, ap, refl, arith, ◌*◌, ◌+◌, slice_index, length-set}
use Rattle.base_types.specs.Address.{address_of, bytes_of}
use Rattle.base_types.proofs.DigitLemmas.{after_nothing, read_step, no_high, no_low, read_done, digit_read, digit_refused, address_of-forty}
use Rattle.base_types.proofs.digits.read_bytes.Goals as goal

pub bytes-init : goal.bytes-init
bytes-init c = (refl, after_nothing (bytes_of c.as_bytes-digits.result.now))

pub returns-then-high-gt15 : goal.returns-then-high-gt15
returns-then-high-gt15 c =
    let forty = c.if-digits-ne40.false in
    let none = no_high c.as_bytes-digits.result.now _ c.bytes.i (omega (arith, forty)) (digit_refused (slice_index c.as_bytes-digits.result.now (2 * c.bytes.i)) _ c.value_of-high.ensures c.if-high-gt15.true) c.bytes.invariant.1 in
    address_of-forty _ _ forty none ∙ ap address_of c.as_bytes-digits.ensures.value

pub returns-then-low-gt15 : goal.returns-then-low-gt15
returns-then-low-gt15 c =
    let forty = c.if-digits-ne40.false in
    let none = no_low c.as_bytes-digits.result.now _ c.bytes.i (omega (arith, forty)) (digit_refused (slice_index c.as_bytes-digits.result.now (2 * c.bytes.i + 1)) _ c.value_of-low.ensures c.if-low-gt15.true) c.bytes.invariant.1 in
    address_of-forty _ _ forty none ∙ ap address_of c.as_bytes-digits.ensures.value

pub bytes-preserved : goal.bytes-preserved
bytes-preserved c =
    let inv = c.bytes.invariant in
    let high = digit_read (slice_index c.as_bytes-digits.result.now (2 * c.bytes.i)) _ c.value_of-high.ensures c.if-high-gt15.false in
    let low = digit_read (slice_index c.as_bytes-digits.result.now (2 * c.bytes.i + 1)) _ c.value_of-low.ensures c.if-low-gt15.false in (
      length-set _ _ _ ∙ inv.0,
      read_step c.as_bytes-digits.result.now c.bytes.bytes c.bytes.i _ _ (omega (arith, c.if-digits-ne40.false)) (omega (arith, inv.0)) high low inv.1,
    )

pub returns : goal.returns
returns c =
    let forty = c.if-digits-ne40.false in
    let inv = c.bytes.invariant in
    let all = read_done c.as_bytes-digits.result.now c.bytes.bytes c.bytes.i (omega (arith, inv.0)) (omega (arith, forty)) inv.1 in
    address_of-forty _ _ forty all ∙ ap address_of c.as_bytes-digits.ensures.value
