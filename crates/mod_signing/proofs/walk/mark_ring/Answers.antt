use Rattle.std.proofs.Common.{◌≡◌, ◌∙◌, ◌+◌, ◌-◌, ◌%◌, ◌≤◌, length, ap, arith}
use Rattle.mod_signing.{specs.Rings.{place_set, ring_of}, proofs.LoopLemmas.{next_whole, still_whole}}
use Rattle.mod_signing.proofs.UptoLemmas.{first_length}
use Rattle.mod_signing.proofs.PlaceLemmas.{part_signed, ring_marked, ring_marked_length, row_marked}
use borrow.Rule.Slice.PartMut.{put_mid}
use Rattle.mod_signing.proofs.walk.mark_ring.Goals as goal

pub mark_row-requires-clause-signed : goal.mark_row-requires-clause-signed
mark_row-requires-clause-signed g c =
    let rows = c.args.rows.now.entries in
    let cons = c.args.cons.now in
    let from = c.loop-from.from in
    let inv = c.loop-from.invariant in
    part_signed c.loop-from.votes (ring_of rows cons from) from (from + c.min-some.result - from) (length c.args.votes.now) inv.marked (first_length (place_set rows cons) from) (omega (arith, c.min-some.ensures, inv.within, inv.all))

pub loop-from-preserved : goal.loop-from-preserved
loop-from-preserved g c =
    let rows = c.args.rows.now.entries in
    let cons = c.args.cons.now in
    let end = length c.args.votes.now in
    let from = c.loop-from.from in
    let some = c.min-some.result in
    let inv = c.loop-from.invariant in
    let lt = c.loop-from-test.true in
    let whole : from % 128 ≡ 0 = still_whole from end inv.whole (omega (arith, lt, inv.all)) in
    let n : from + some - from ≡ some = omega arith in
    let within : from + some ≤ end = omega (arith, c.min-some.ensures, inv.within, inv.all) in
    let marked : put_mid from (from + some - from) c.loop-from.votes c.mark_row.new.votes ≡ ring_marked rows cons end (from + some)
    = row_marked rows cons c.loop-from.votes c.mark_row.new.votes from (from + some - from) end c.row_of-row.result whole (omega (arith, c.min-some.ensures)) (omega (arith, within))
    inv.marked c.row_of-row.ensures c.mark_row.ensures ∙ ap (λ k. ring_marked rows cons end (from + k)) n in
    record {
      marked = marked;
      all = ap length marked ∙ ring_marked_length rows cons end (from + some) within;
      whole = next_whole from some end whole inv.within (omega (arith, c.min-some.ensures, inv.all));
      within = within;
    }
