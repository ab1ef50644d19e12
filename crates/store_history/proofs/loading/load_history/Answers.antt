use Rattle.std.proofs.Common.{ap, map}
use Rattle.base_io.specs.Changes.{pair_of}
use Rattle.store_history.proofs.LoadLemmas.{knows_from, told_list}
use Rattle.store_history.proofs.loading.load_history.Goals as goal

pub returns-clause-knows : goal.returns-clause-knows
returns-clause-knows g c =
    knows_from (g.D.Keeper.rows c.load.new.self) (map pair_of c.as_slice.result.now) c.in_ok-history.history.base c.in_ok-history.history.visible
    (told_list (g.D.Keeper.rows c.load.new.self) (map pair_of c.in_ok-rows.rows.items) (map pair_of c.as_slice.result.now) c.in_ok-rows.ensures.rows (ap (map pair_of) c.as_slice.ensures.value))
    c.in_ok-rows.ensures.ascending c.in_ok-history.ensures.visible c.in_ok-history.ensures.base
