use Rattle.std.proofs.Common.{◌∙◌, refl, arith, ◌≡◌, length-set}
use Rattle.hex.{specs.Hex.lower_digits, proofs.Pairs.{encode_step, encode_done}}
use Rattle.base_types.{specs.Address.address_text, proofs.DigitLemmas.address_text_is_utf8}
use Rattle.base_types.proofs.digits.address_digits.Goals as goal

pub bytes-preserved : goal.bytes-preserved
bytes-preserved c =
    let inv = c.bytes.invariant in (
      length-set _ _ _ ∙ length-set _ _ _ ∙ inv.0,
      encode_step lower_digits c.args.bytes.now c.bytes.digits c.bytes.i _ _ (omega (arith, c.told-bytes)) (omega (arith, inv.0)) refl refl inv.1,
    )

pub returns-clause-text : goal.returns-clause-text
returns-clause-text c =
    let inv = c.bytes.invariant in
    encode_done lower_digits c.args.bytes.now c.bytes.digits c.bytes.i (omega (arith, c.told-bytes)) (omega (arith, c.told-bytes, inv.0)) inv.1

pub returns-clause-utf8 : goal.returns-clause-utf8
returns-clause-utf8 c =
    let inv = c.bytes.invariant in
    let text : c.bytes.digits ≡ address_text c.args.bytes.now = encode_done lower_digits c.args.bytes.now c.bytes.digits c.bytes.i (omega (arith, c.told-bytes)) (omega (arith, c.told-bytes, inv.0)) inv.1 in
    rw text (address_text_is_utf8 c.args.bytes.now)
