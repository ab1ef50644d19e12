use Rattle.std.proofs.Common.{subst, IfOk}
use Rattle.base_io.specs.Rows.{HasDistinctKeys}
use Rattle.test_store.proofs.keeper_tests.removal.Goals as goal

pub returns : goal.returns
returns g c = subst (λ r. IfOk r (λ changes. HasDistinctKeys changes.items)) c.expect.ensures c.one_removal.ensures
