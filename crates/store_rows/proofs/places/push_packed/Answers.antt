use Rattle.std.proofs.Common.{rules}
use Rattle.store_rows.proofs.PlaceLemmas.{packed_at}
use Rattle.store_rows.proofs.places.push_packed.Goals as goal

pub packed-preserved : goal.packed-preserved
packed-preserved c =
    packed_at c.packed.out.items c.push.new.self.items c.packed.left.now c.split_at.result.0.now c.split_at.result.1.now c.min.result c.places_byte.result _ (search rules) c.min.ensures c.split_at.ensures.front c.split_at.ensures.back c.places_byte.ensures.value c.in_ok-push.ensures.items c.packed.invariant
