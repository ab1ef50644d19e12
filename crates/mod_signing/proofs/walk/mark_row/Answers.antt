use Rattle.std.proofs.Common.{◌∙◌, ◌+◌, true, length, length-set, slice_set, arith, ap, refl}
use Rattle.mod_signing.proofs.PlaceLemmas.{marked_begun, marked_none, marked_one}
use Rattle.mod_signing.proofs.walk.mark_row.Goals as goal

pub loop-place-init : goal.loop-place-init
loop-place-init c =
    let row = c.args.row in
    let end = length c.args.votes.now in
    let next = c.next_set-place.ensures in
    record {
      marked = c.requires.signed ∙ marked_begun row end ∙ marked_none row end 0 c.next_set-place.result (omega arith) next.most next.before;
      within = next.most;
      set = next.here;
      all = refl;
    }

pub loop-place-preserved : goal.loop-place-preserved
loop-place-preserved c =
    let row = c.args.row in
    let end = length c.args.votes.now in
    let place = c.loop-place.place in
    let inv = c.loop-place.invariant in
    let lt = c.loop-place-test.true in
    let next = c.next_set-place-in-loop-place.ensures in
    record {
      marked = ap (λ l. slice_set l place true) inv.marked ∙ marked_one row end place lt (inv.set lt)
          ∙ marked_none row end (place + 1) c.next_set-place-in-loop-place.result (next.least (omega (arith, lt))) next.most next.before;
      within = next.most;
      set = next.here;
      all = length-set c.loop-place.votes place true ∙ inv.all;
    }
