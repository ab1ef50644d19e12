use Rattle.std.proofs.Common.{rules, tests}
use Rattle.std.proofs.lemmas.Iterator.{YieldsList-from_map, Adapters.items_from_extend}
use Rattle.std.proofs.lemmas.Iterator.Consumers.{YieldsList-at, YieldsList-from_rest}
use Rattle.store_history.specs.Held.{row_in}
use Rattle.store_history.proofs.visible.rows_of.Goals as goal

pub returns : goal.returns
returns c =
    let all = items_from_extend c.extend.result c.extend.ensures.ran
    (YieldsList-from_map _ row_in
    (YieldsList-at c.map.ensures.source (YieldsList-from_rest c.args.tree.entries c.into_iter.ensures.into_iter_gives.0))
    c.map.ensures.closure (λ x r q k. search (rules, tests))) in
    search rules
