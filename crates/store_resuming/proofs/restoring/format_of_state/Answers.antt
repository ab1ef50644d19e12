use Rattle.std.proofs.Common.{sym}
use Rattle.store_resuming.proofs.RestoreLemmas.{no_long, untold}
use Rattle.store_resuming.proofs.restoring.format_of_state.Goals as goal

pub returns-then-have_long_window-clause-none : goal.returns-then-have_long_window-clause-none
returns-then-have_long_window-clause-none c = no_long c.items_can_be_kept.ensures.windows _ (c.have_long_window.ensures c.if-have_long_window.true)

pub returns-in-None-clause-none : goal.returns-in-None-clause-none
returns-in-None-clause-none c = untold _ (sym c.in-None.ensures)
