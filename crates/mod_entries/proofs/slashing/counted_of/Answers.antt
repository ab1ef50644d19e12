use Rattle.std.proofs.Common.{◌+◌, ap, arith}
use Rattle.mod_entries.proofs.CountLemmas.{counted-step}
use Rattle.mod_entries.proofs.slashing.counted_of.Goals as goal

pub loop-entry-preserved : goal.loop-entry-preserved
loop-entry-preserved g c =
    let few = c.loop-entry.invariant.few in
    let part = c.part_counted-sum.ensures.most in
    record {
      told = counted-step g.E.Entry.made c.args.infraction c.args.factor c.args.now c.args.entries.now c.loop-entry.entry-index c.entry-item.result c.loop-entry-test.true c.entry-item.is c.loop-entry.sum _ (ap (λ x. c.loop-entry.sum + x) c.part_counted-sum.ensures.value) c.loop-entry.invariant.told;
      few = omega (arith, few, part);
    }
