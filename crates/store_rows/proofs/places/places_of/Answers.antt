use Rattle.std.proofs.Common.{get_or, refl}
use Rattle.std.proofs.lemmas.Result.{err_from_is_err_and}
use Rattle.store_rows.proofs.PlaceLemmas.{done_at, fails_at, goes_on_at}
use Rattle.store_rows.proofs.places.places_of.Goals as goal

pub returns-in_err-ends_behind : goal.returns-in_err-ends_behind
returns-in_err-ends_behind c =
    let p = err_from_is_err_and c.from_residual.result c.from_residual.ensures.1 in
    let e = c.in_err-ends_behind.ensures.more in
    rw (p.1, p.2, e.0) (fails_at c.bytes.places.items c.bytes.left c.min-here.result c.bytes.byte-index (get_or c.args.bytes.now c.bytes.byte-index 0) c.args.bytes.now _ c.bytes-test.true refl c.min-here.ensures
    e.1 c.bytes.invariant)

pub bytes-preserved : goal.bytes-preserved
bytes-preserved c =
    goes_on_at c.bytes.places.items c.push_places.new.places.items c.bytes.left c.min-here.result c.bytes.byte-index (get_or c.args.bytes.now c.bytes.byte-index 0) c.args.bytes.now _ c.bytes-test.true refl c.min-here.ensures
    c.in_ok-ends_behind.ensures.clear c.in_ok-push_places.ensures c.bytes.invariant

pub returns : goal.returns
returns c = done_at c.bytes.places.items c.bytes.left c.bytes.byte-index c.args.bytes.now _ c.bytes-test.false c.bytes.invariant
