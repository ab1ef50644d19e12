use Rattle.std.proofs.Common.{◌∙◌, rules, tests}
use Rattle.std.proofs.lemmas.Iterator.{YieldsList-from_map, Adapters.items_from_extend}
use Rattle.std.proofs.lemmas.Iterator.Consumers.{YieldsList-at, YieldsList-from_rest}
use Rattle.base_roles.specs.declared.items.Item.TheVariants as item
use Rattle.store_loading.proofs.listing.append_supplies.Goals as goal

pub returns : goal.returns
returns c =
    let all = items_from_extend c.extend.result c.extend.ensures.ran
    (YieldsList-from_map _ (λ e. item.Supply e.0 e.1)
    (YieldsList-at c.map.ensures.source (YieldsList-from_rest c.args.supplies.now.entries (c.into_iter.ensures.into_iter_gives.0 ∙ c.taken-supplies.ensures)))
    c.map.ensures.closure (λ x r q k. search (rules, tests))) in
    search rules
