use Rattle.std.proofs.Common.{option_map, sym, ◌∙◌, ap}
use Rattle.std.specs.{Map.{lookup, lookup_key}, BTreeMap.is_at}
use Rattle.base_table.{specs.Places.{filled, slots}, proofs.EntryLemmas.{lookup_is, lookup_key_is}}
use Rattle.base_table.proofs.PlaceLemmas.{pair_key, pair_value}
use Rattle.base_table.proofs.places.Places.get.Goals as goal

pub returns-clause-key : goal.returns-clause-key
returns-clause-key g c =
    pair_key (λ e. e.0.now) (λ e. e.1.now) c.find.result ∙ ap (option_map (λ e. e.0)) c.find.ensures ∙ sym (lookup_key_is (is_at (g.K.Ord.cmp c.args.key.now)) (filled (slots c.self.inside.tree.entries)))
    ∙ ap (λ m. lookup_key (is_at (g.K.Ord.cmp c.args.key.now)) m.entries) c.self.view_is

pub returns-clause-value : goal.returns-clause-value
returns-clause-value g c =
    pair_value (λ e. e.0.now) (λ e. e.1.now) c.find.result ∙ ap (option_map (λ e. e.1)) c.find.ensures ∙ sym (lookup_is (is_at (g.K.Ord.cmp c.args.key.now)) (filled (slots c.self.inside.tree.entries)))
    ∙ ap (λ m. lookup (is_at (g.K.Ord.cmp c.args.key.now)) m.entries) c.self.view_is
