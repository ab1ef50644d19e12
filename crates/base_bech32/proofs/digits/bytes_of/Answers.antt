use Rattle.std.proofs.Common.{refl, sym, arith, ◌∙◌, ◌≡◌, ◌*◌, ◌+◌, ◌-◌, take, drop, length, take_all, length-take-le, length-drop}
use Rattle.base_bech32.{specs.Digits.{digits, number_of}, proofs.DigitLemmas.{digits_within, length-part_put, part_put}}
use Rattle.base_bech32.proofs.digits.bytes_of.Goals as goal

pub number_of-part-requires-clause-digits : goal.number_of-part-requires-clause-digits
number_of-part-requires-clause-digits c =
    digits_within 32 c.args.values.now (8 * c.parts.i) (8 * c.parts.i + 8 - 8 * c.parts.i) (λ k l. c.requires.values k)

pub parts-init : goal.parts-init
unfolding digits
parts-init c = (refl, refl)

pub parts-preserved : goal.parts-preserved
parts-preserved c =
    let inv = c.parts.invariant in
    let i = c.parts.i in
    let room : length (take (5 * i + 5 - 5 * i) (drop (5 * i) c.parts.bytes)) ≡ 5 =
    length-take-le (5 * i + 5 - 5 * i) (drop (5 * i) c.parts.bytes) (omega (arith, length-drop (5 * i) c.parts.bytes, inv.0)) ∙ omega arith in
    let written : c.put_digits.new.out ≡ digits 256 5 (number_of 32 (take (8 * i + 8 - 8 * i) (drop (8 * i) c.args.values.now))) =
    c.put_digits.ensures ∙ (λ k. digits 256 (room k) (c.number_of-part.ensures k)) in (
      length-part_put (5 * i) (5 * i + 5 - 5 * i) 20 c.parts.bytes c.put_digits.new.out (omega (arith, inv.0)) (c.put_digits.auto.out ∙ room ∙ omega arith) inv.0,
      part_put 32 8 256 5 c.args.values.now c.parts.bytes c.put_digits.new.out i _ _ (omega arith) refl (omega arith) (omega arith) (omega (arith, c.requires.lengths)) (omega (arith, inv.0)) (λ k l. c.requires.values k) written inv.1,
    )

pub returns : goal.returns
returns c =
    let inv = c.parts.invariant in
    let bytes : 5 * c.parts.i ≡ 20 = omega arith in
    let values : 8 * c.parts.i ≡ 32 = omega arith in
    sym (take_all (5 * c.parts.i) c.parts.bytes (omega (arith, inv.0))) ∙ inv.1
    ∙ (λ k. digits 256 (bytes k) (number_of 32 (take (values k) c.args.values.now)))
