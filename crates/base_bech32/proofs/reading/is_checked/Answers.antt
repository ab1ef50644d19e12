use Rattle.std.proofs.Common.{◌∙◌, ◌≡◌, ◌-◌, sym, ap, arith, bytes_eq, drop, length, take, length-drop, length-take-le, take_all}
use Rattle.base_bech32.{specs.Digits.{digits, number_of}, proofs.DigitLemmas.digits_within}
use Rattle.base_bech32.proofs.SpellingLemmas.{check_agrees, values_dropped, values_taken}
use Rattle.base_bech32.proofs.reading.is_checked.Goals as goal

pub slice_bounds-check_number-end : goal.slice_bounds-check_number-end
slice_bounds-check_number-end c = sym (length-take-le 32 c.args.values.now (omega (arith, c.requires.lengths)))

pub check_number-check-requires : goal.check_number-check-requires
check_number-check-requires c = values_taken 32 c.args.values.now c.requires.values

pub number_of-requires-clause-digits : goal.number_of-requires-clause-digits
number_of-requires-clause-digits c =
    digits_within 32 c.args.values.now 32 (length c.args.values.now - 32) (λ k l. c.requires.values k)

pub returns : goal.returns
returns c =
    let last : take (length c.args.values.now - 32) (drop 32 c.args.values.now) ≡ drop 32 c.args.values.now =
    take_all (length c.args.values.now - 32) (drop 32 c.args.values.now) (omega (arith, length-drop 32 c.args.values.now)) in
    check_agrees (drop 32 c.args.values.now) c.number_of.result c.check_number-check.result
    (length-drop 32 c.args.values.now ∙ omega (arith, c.requires.lengths)) (values_dropped 32 c.args.values.now c.requires.values)
    c.check_number-check.ensures.below (c.number_of.ensures ∙ ap (number_of 32) last)
    ∙ ap (λ n. bytes_eq (drop 32 c.args.values.now) (digits 32 6 n)) c.check_number-check.ensures.check
