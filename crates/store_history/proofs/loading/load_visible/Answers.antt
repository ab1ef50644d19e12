use Rattle.std.proofs.Common.{◌∙◌, List, ap, map}
use Rattle.base_io.specs.{declared.keeper.Row.Row, Changes.pair_of}
use Rattle.store_history.{specs.History.visible, proofs.{LoadLemmas.told_visible, ReadLemmas.none_mapped}}
use Rattle.store_history.proofs.loading.load_visible.Goals as goal

pub returns-clause-rows : goal.returns-clause-rows
returns-clause-rows g c =
    told_visible (g.D.Keeper.rows c.load.new.self) (map pair_of c.in_ok-rows.rows.items) (map pair_of c.keep_visible.new.rows.items) c.in_ok-rows.ensures.rows c.keep_visible.ensures

pub returns-clause-unkept : goal.returns-clause-unkept
returns-clause-unkept g c = λ off.
    none_mapped c.keep_visible.new.rows.items (c.keep_visible.ensures ∙ ap (λ (rows : List Row). visible (map pair_of rows)) (c.in_ok-rows.ensures.unkept off))
