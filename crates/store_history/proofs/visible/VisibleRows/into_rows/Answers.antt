use Rattle.std.proofs.Common.{◌≡◌, ◌∙◌, List, map}
use Rattle.base_io.specs.{declared.keeper.Row.Row, Changes.pair_of}
use Rattle.store_history.{specs.Held.row_in, proofs.TreeLemmas.{ok_by, rows_are}}
use Rattle.store_history.proofs.visible.VisibleRows.into_rows.Goals as goal

pub returns-clause-rows : goal.returns-clause-rows
returns-clause-rows c =
    ok_by c.rows_of.result (λ rows. rows.items) (map row_in c.self.inside.tree.entries) (λ (rows : List Row). map pair_of rows ≡ c.args.self) c.rows_of.ensures
    (rows_are c.self.inside.tree.entries ∙ c.self.view_is)
