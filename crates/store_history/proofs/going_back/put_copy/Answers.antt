use Rattle.std.proofs.Common.{◌∙◌, List, ap₂, ℕ}
use Rattle.base_io.specs.Rows.{put}
use Rattle.store_history.proofs.KeepingLemmas.{on_ok}
use Rattle.store_history.proofs.going_back.put_copy.Goals as goal

pub returns : goal.returns
returns c = on_ok c.put.result c.put.ensures.ok (λ is. is ∙ ap₂ (λ (k v : List ℕ). put (k, v) c.args.rows.now) c.in_ok-key.ensures c.in_ok-value.ensures)
