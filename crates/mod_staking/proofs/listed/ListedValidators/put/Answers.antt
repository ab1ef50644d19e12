use Rattle.std.proofs.Common.{sym, subst}
use Rattle.mod_staking.{specs.KnownSet.IsKnown, proofs.KnownLemmas.known-written}
use Rattle.mod_staking.proofs.listed.ListedValidators.put.Goals as goal

pub invariant_of-self : goal.invariant_of-self
invariant_of-self g c =
    let l = c.self.inside in
    let r = l.power_reduction in (
      c.write.ensures.listed,
      subst (λ least. IsKnown r least c.write.new.records.entries) (sym c.known_with-self-inside.ensures)
          (known-written r l.least c.args.v.now l.records.entries c.write.new.records.entries c.args.v.now.operator c.write.result c.self.invariant.1 c.write.ensures.ok c.write.ensures.err),
    )
