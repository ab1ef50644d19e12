use Rattle.std.proofs.Common.{◌+◌, ap, arith}
use Rattle.mod_unbonding.proofs.SlashedLemmas.{burned-step}
use Rattle.mod_unbonding.proofs.slashing.burned_of.Goals as goal

pub loop-entry-preserved : goal.loop-entry-preserved
loop-entry-preserved c =
    let few = c.loop-entry.invariant.few in
    let part = c.part_burned-sum.ensures.most in
    record {
      told = burned-step c.args.infraction c.args.factor c.args.now c.args.entries.now c.loop-entry.entry-index c.entry-item.result c.loop-entry-test.true c.entry-item.is c.loop-entry.sum _ (ap (λ x. c.loop-entry.sum + x) c.part_burned-sum.ensures.value) c.loop-entry.invariant.told;
      few = omega (arith, few, part);
    }
