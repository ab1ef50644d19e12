use Rattle.std.proofs.Common.{◌∙◌, ap, sym, arith, subst, length}
use Rattle.base_bech32.specs.{Alphabet.IsValues, Digits.digits, Spelling.check_number}
use Rattle.base_bech32.proofs.SpellingLemmas.{all_written, groups_below, prefix_is_short, values_of-below}
use Rattle.base_bech32.proofs.spelling.spell_into.Goals as goal

pub check_number-requires : goal.check_number-requires
check_number-requires c = subst IsValues (sym c.values_of-values.ensures) (values_of-below c.args.bytes.now)

pub put_letters-requires-clause-values : goal.put_letters-requires-clause-values
put_letters-requires-clause-values c = subst IsValues (sym c.values_of-values.ensures) (values_of-below c.args.bytes.now)

pub put_letters-requires-2-clause-values : goal.put_letters-requires-2-clause-values
put_letters-requires-2-clause-values c = subst IsValues (sym c.put_digits.ensures) (groups_below 6 c.check_number.result)

pub returns-clause-text : goal.returns-clause-text
returns-clause-text c =
    all_written c.args.prefix.now c.args.bytes.now c.args.out.now c.values_of-values.result c.put_digits.new.out
    c.copy_from_slice.new.self c.put_letters.new.out c.put_letters-2.new.out (length c.as_bytes-prefix.result.now)
    (ap length (sym c.as_bytes-prefix.ensures.value))
    (omega (arith, prefix_is_short c.args.prefix.now c.requires, ap length c.as_bytes-prefix.ensures.value, c.told-out))
    c.values_of-values.ensures
    (c.put_digits.ensures ∙ ap (digits 32 6) c.check_number.ensures.check ∙ (λ i. digits 32 6 (check_number (c.as_bytes-prefix.ensures.value i) (c.values_of-values.ensures i))))
    (c.copy_from_slice.ensures.after ∙ c.as_bytes-prefix.ensures.value)
    c.put_letters.ensures c.put_letters-2.ensures
