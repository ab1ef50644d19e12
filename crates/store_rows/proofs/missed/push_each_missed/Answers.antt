use Rattle.std.proofs.Common.{◌≡◌, length, length-take, arith, ap, refl}
use Rattle.store_rows.proofs.MissedLemmas.{part_written}
use Rattle.store_rows.proofs.missed.push_each_missed.Goals as goal

pub left-init : goal.left-init
left-init c = record { written = refl; size = omega arith }

pub left-preserved : goal.left-preserved
left-preserved c =
    let parts = c.in-Some.ensures.cases in
    let sixteen : length c.in-Some.sixteen.now ≡ 16 = omega (arith, ap length parts.0, length-take 16 c.left.left.now, parts.2) in
    record {
      written = part_written c.left.out.items c.push_missed_sixteen.new.out.items c.left.first 16 c.left.left.now c.in-Some.sixteen.now c.in-Some.others.now _
          parts.0 parts.1 sixteen c.in_ok-push_missed_sixteen.ensures c.left.invariant.written;
      size = omega (arith, parts.2, c.left.invariant.size);
    }
