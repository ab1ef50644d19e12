use Rattle.std.proofs.Common.{length-set, length, arith}
use Rattle.base_decimals.proofs.Written.{step_rest, step_written}
use Rattle.base_decimals.proofs.text.write_digits.Goals as goal

pub loop-place-preserved : goal.loop-place-preserved
loop-place-preserved c =
    simp length-set (record {
      within = omega arith;
      rest = step_rest (length c.loop-place.out) c.loop-place.place c.loop-place.rest c.args.value (omega arith) c.loop-place.invariant.within c.loop-place.invariant.rest;
      written = step_written c.loop-place.out c.loop-place.place c.loop-place.rest c.args.value (omega arith) c.loop-place.invariant.within c.loop-place.invariant.rest c.loop-place.invariant.written;
    })
