use Rattle.std.proofs.Common.{subst, IfOk}
use Rattle.base_io.specs.Changes.{IsOrdinary}
use Rattle.test_history.proofs.keeper_tests.changes_at.Goals as goal

pub returns : goal.returns
returns g c = subst (λ r. IfOk r (λ changes. IsOrdinary changes.items)) c.expect.ensures c.head_and_row.ensures
