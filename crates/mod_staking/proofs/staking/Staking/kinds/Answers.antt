use Rattle.std.proofs.Common.{subst, sym}
use Rattle.base_records.specs.Items.{AreFit}
use Rattle.mod_staking.{specs.Items.FitsOperator, proofs.ItemLemmas.keyed_fit}
use Rattle.mod_staking.proofs.staking.Staking.kinds.Goals as goal

pub returns-clause-keyed : goal.returns-clause-keyed
returns-clause-keyed c = subst (AreFit FitsOperator) (sym c.records.ensures.entries) (keyed_fit _ c.self.invariant.keyed)

pub returns-clause-keyed_then : goal.returns-clause-keyed_then
returns-clause-keyed_then c = subst (AreFit FitsOperator) (sym c.records.ensures.settled) (keyed_fit _ c.self.invariant.keyed_then)
