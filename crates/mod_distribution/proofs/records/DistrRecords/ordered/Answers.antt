use Rattle.std.proofs.Common.{subst}
use Rattle.mod_distribution.specs.Items.{AreInOrder}
use Rattle.mod_distribution.proofs.records.DistrRecords.ordered.Goals as goal

pub returns : goal.returns
returns c = subst (λ t. AreInOrder t.kept) c.self.view_is (record { rewards = c.ordered.ensures; purses = c.ordered-2.ensures; payees = c.known.ensures.ordered })
