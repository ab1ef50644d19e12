use Rattle.std.proofs.Common.{refl, sym, arith, ◌∙◌, ◌≡◌, ◌*◌, ◌+◌, ◌-◌, take, drop, length, take_all, length-take-le, length-drop}
use Rattle.base_bech32.{specs.Digits.{digits, number_of}, proofs.DigitLemmas.{digits_within, length-part_put, part_put}}
use Rattle.base_bech32.proofs.digits.values_of.Goals as goal

pub number_of-part-requires-clause-digits : goal.number_of-part-requires-clause-digits
number_of-part-requires-clause-digits c =
    digits_within 256 c.args.bytes.now (5 * c.parts.i) (5 * c.parts.i + 5 - 5 * c.parts.i) (λ k l. c.fits-bytes k)

pub parts-init : goal.parts-init
unfolding digits
parts-init c = (refl, refl)

pub parts-preserved : goal.parts-preserved
parts-preserved c =
    let inv = c.parts.invariant in
    let i = c.parts.i in
    let room : length (take (8 * i + 8 - 8 * i) (drop (8 * i) c.parts.values)) ≡ 8 =
    length-take-le (8 * i + 8 - 8 * i) (drop (8 * i) c.parts.values) (omega (arith, length-drop (8 * i) c.parts.values, inv.0)) ∙ omega arith in
    let written : c.put_digits.new.out ≡ digits 32 8 (number_of 256 (take (5 * i + 5 - 5 * i) (drop (5 * i) c.args.bytes.now))) =
    c.put_digits.ensures ∙ (λ k. digits 32 (room k) (c.number_of-part.ensures k)) in (
      length-part_put (8 * i) (8 * i + 8 - 8 * i) 32 c.parts.values c.put_digits.new.out (omega (arith, inv.0)) (c.put_digits.auto.out ∙ room ∙ omega arith) inv.0,
      part_put 256 5 32 8 c.args.bytes.now c.parts.values c.put_digits.new.out i _ _ (omega arith) refl (omega arith) (omega arith) (omega (arith, c.told-bytes)) (omega (arith, inv.0)) (λ k l. c.fits-bytes k) written inv.1,
    )

pub returns : goal.returns
returns c =
    let inv = c.parts.invariant in
    let groups : 8 * c.parts.i ≡ 32 = omega arith in
    sym (take_all (8 * c.parts.i) c.parts.values (omega (arith, inv.0))) ∙ inv.1
    ∙ (λ k. digits 32 (groups k) (number_of 256 (take_all (5 * c.parts.i) c.args.bytes.now (omega (arith, c.told-bytes)) k)))
