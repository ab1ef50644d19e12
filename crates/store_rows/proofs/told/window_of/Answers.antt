use Rattle.store_rows.proofs.TellingLemmas.{window_is}
use Rattle.store_rows.proofs.told.window_of.Goals as goal

pub returns-in-Ok : goal.returns-in-Ok
returns-in-Ok c = λ f item has same.
    window_is f item _ _ c.in-Ok.count has same (rw (c.as_slice.ensures.value, c.as_slice-2.ensures.value) at c.in-Ok.ensures)
