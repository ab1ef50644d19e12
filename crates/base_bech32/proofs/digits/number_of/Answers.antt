use Rattle.std.proofs.Common.{arith, ◌<◌, ◌*◌, ◌+◌, ◌^◌, slice_index, ap, ◌∙◌, sym}
use Rattle.std.proofs.lemmas.Int.Digits.{number_more}
use Rattle.base_bech32.proofs.DigitLemmas.{number_fits}
use Rattle.base_bech32.proofs.digits.number_of.Goals as goal

pub overflow_mul-number : goal.overflow_mul-number
overflow_mul-number c =
    let fits : c.digits.number * c.args.base + slice_index c.args.ds.now c.digits.i < 2 ^ 64 = number_fits c.args.base c.args.ds.now c.digits.i c.digits.number c.requires.digits c.requires.fits (omega arith) c.digits.invariant in
    omega arith

pub overflow_add-number : goal.overflow_add-number
overflow_add-number c =
    let fits : c.digits.number * c.args.base + slice_index c.args.ds.now c.digits.i < 2 ^ 64 = number_fits c.args.base c.args.ds.now c.digits.i c.digits.number c.requires.digits c.requires.fits (omega arith) c.digits.invariant in
    omega arith

pub digits-preserved : goal.digits-preserved
digits-preserved c =
    ap (λ n. n * c.args.base + slice_index c.args.ds.now c.digits.i) c.digits.invariant
    ∙ sym (number_more c.args.base c.args.ds.now c.digits.i (omega arith))
