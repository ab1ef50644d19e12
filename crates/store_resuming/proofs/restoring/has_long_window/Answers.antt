use Rattle.std.proofs.lemmas.Bool.{ltb-true}
use Rattle.store_resuming.proofs.RestoreLemmas.{is_long}
use Rattle.store_resuming.proofs.restoring.has_long_window.Goals as goal

pub returns-in-Some : goal.returns-in-Some
returns-in-Some c = λ long f i has same. is_long c.in-Some.count i (c.in-Some.ensures f i has same) (ltb-true _ _ long)
