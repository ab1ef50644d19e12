use Rattle.mod_staking.proofs.KnownLemmas.{known-removed}
use Rattle.mod_staking.proofs.listed.ListedValidators.remove.Goals as goal

pub invariant_of-self : goal.invariant_of-self
invariant_of-self g c =
    let l = c.self.inside in
    (c.write.ensures.listed, known-removed l.power_reduction l.least l.records.entries c.write.new.records.entries c.args.operator.now c.write.result c.self.invariant.1 c.write.ensures.ok c.write.ensures.err)
