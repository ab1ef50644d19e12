use Rattle.std.proofs.Common.{arith}
use Rattle.base_bech32.proofs.AlphabetLemmas.{values_below, values_done, wrong_here}
use Rattle.base_bech32.proofs.alphabet.values_of_letters.Goals as goal

pub returns-then-value-gt31-clause-value : goal.returns-then-value-gt31-clause-value
returns-then-value-gt31-clause-value c =
    wrong_here c.args.letters.now c.letters.i c.value_of-value.result (omega arith) c.letters.invariant.2 c.value_of-value.ensures c.if-value-gt31.true

pub returns-clause-value : goal.returns-clause-value
returns-clause-value c =
    let inv = c.letters.invariant in
    values_done c.args.letters.now c.letters.values c.letters.i c.requires inv.0 (omega arith) inv.1 inv.2

pub returns-clause-below : goal.returns-clause-below
returns-clause-below c =
    let inv = c.letters.invariant in
    values_below c.args.letters.now c.letters.values c.letters.i c.requires inv.0 (omega arith) inv.1 inv.2
