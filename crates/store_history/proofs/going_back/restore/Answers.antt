use Rattle.std.proofs.Common.{◌∙◌, List, ap, sym, ℕ}
use Rattle.base_io.specs.Changes.{pair_of}
use Rattle.store_history.{specs.{Commits.made_by, History.was}, proofs.KeepingLemmas.on_ok}
use Rattle.store_history.proofs.RestoreLemmas.{restored_high, restored_low, restored_other}
use Rattle.store_history.proofs.going_back.restore.Goals as goal

pub returns-then-changed-height : goal.returns-then-changed-height
returns-then-changed-height c = λ whole.
    restored_low c.args.height c.in-Some.changed (pair_of c.args.row.now) c.args.rows.now c.in-Some.name.now (sym c.as_slice.ensures.value ∙ c.in-Some.ensures.0) c.in-Some.ensures.1 c.if-changed-height.true

pub returns-in-None : goal.returns-in-None
returns-in-None c = λ whole.
    restored_other c.args.height (pair_of c.args.row.now) c.args.rows.now (λ n name e. c.in-None.ensures n name (c.as_slice.ensures.value ∙ e)) whole

pub returns-else-changed-height : goal.returns-else-changed-height
returns-else-changed-height c =
    on_ok c.restore_value.result c.restore_value.ensures (λ is whole.
    is
    ∙ ap (λ (v : List ℕ). made_by c.in-Some.name.now (was v) c.args.rows.now) c.as_slice-in-Some.ensures.value
    ∙ restored_high c.args.height c.in-Some.changed (pair_of c.args.row.now) c.args.rows.now c.in-Some.name.now (sym c.as_slice.ensures.value ∙ c.in-Some.ensures.0) c.in-Some.ensures.1 c.if-changed-height.false)
