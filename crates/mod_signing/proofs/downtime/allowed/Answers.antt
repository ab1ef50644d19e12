use Rattle.std.proofs.Common.{◌*◌, ◌^◌, ◌<◌, arith}
use Rattle.mod_signing.proofs.DownLemmas.{part_fits}
use Rattle.mod_signing.proofs.downtime.allowed.Goals as goal

pub overflow_mul-raw : goal.overflow_mul-raw
overflow_mul-raw c =
    let fits : c.args.params.now.min_signed_per_window * c.args.params.now.signed_blocks_window < 10 ^ 38
    = part_fits c.args.params.now.min_signed_per_window c.args.params.now.signed_blocks_window c.requires.params.min_signed_per_window c.requires.params.signed_blocks_window_most in
    let raw = c.raw.ensures.value in
    rw raw (omega (arith, fits))

pub unwrap-part-requires : goal.unwrap-part-requires
unwrap-part-requires c =
    let fits : c.args.params.now.min_signed_per_window * c.args.params.now.signed_blocks_window < 10 ^ 38
    = part_fits c.args.params.now.min_signed_per_window c.args.params.now.signed_blocks_window c.requires.params.min_signed_per_window c.requires.params.signed_blocks_window_most in
    c.from_raw.ensures.fits.1 (rw c.raw.ensures.value fits)
