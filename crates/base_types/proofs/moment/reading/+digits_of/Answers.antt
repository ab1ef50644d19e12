use Rattle.std.proofs.Common.{arith, sym, ◌≡◌, ◌<◌, ◌-◌, ◌^◌, slice_index_or}
use Rattle.base_types.proofs.MomentLemmas.{digit_below, power_fits, power_some, digit_small}
use Rattle.base_types.proofs.moment.reading.+digits_of.Goals as goal

pub overflow_mul-result : goal.overflow_mul-result
overflow_mul-result t c =
    let d : slice_index_or c.args.text.now 0 0 - 48 < 10 = digit_small (slice_index_or c.args.text.now 0 0) (sym c.if-is_ascii_digit.ensures.value) in
    let e : c.pow.result ≡ 10 ^ (c.args.places - 1) = c.pow.ensures in
    let h = digit_below (slice_index_or c.args.text.now 0 0 - 48) c.in_ok-n-in-len1-up.n c.args.places d c.if-places-gt0.true c.in_ok-n-in-len1-up.ensures.bound in
    let k = power_fits c.args.places c.requires in
    rw e (omega arith)

pub overflow_add-result : goal.overflow_add-result
overflow_add-result t c =
    let d : slice_index_or c.args.text.now 0 0 - 48 < 10 = digit_small (slice_index_or c.args.text.now 0 0) (sym c.if-is_ascii_digit.ensures.value) in
    let e : c.pow.result ≡ 10 ^ (c.args.places - 1) = c.pow.ensures in
    let h = digit_below (slice_index_or c.args.text.now 0 0 - 48) c.in_ok-n-in-len1-up.n c.args.places d c.if-places-gt0.true c.in_ok-n-in-len1-up.ensures.bound in
    let k = power_fits c.args.places c.requires in
    rw e (omega arith)

pub returns-then-is_empty-clause-bound : goal.returns-then-is_empty-clause-bound
returns-then-is_empty-clause-bound t c = power_some c.args.places
