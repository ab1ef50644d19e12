use Rattle.std.proofs.Common.{◌∙◌, ap, map, rules}
use Rattle.std.proofs.lemmas.List.Elements.{filter_from_retain}
use Rattle.base_io.specs.{declared.keeper.Row.Row, Changes.pair_of}
use Rattle.store_history.{specs.History.is_visible, proofs.ReadLemmas.filter_pairs}
use Rattle.store_history.proofs.loading.keep_visible.Goals as goal

pub returns : goal.returns
returns c =
    ap (map pair_of) (filter_from_retain _ (λ (r : Row). is_visible r.key.items) (λ f x b h k. search rules) _ _ _ c.retain.ensures.filtered)
    ∙ filter_pairs c.args.rows.now.items
