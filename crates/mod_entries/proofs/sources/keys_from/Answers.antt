use Rattle.std.proofs.Common.{◌≡◌, ◌∙◌, ◌+◌, Some, length, ap, option_map}
use Rattle.std.specs.Map.{keys_of}
use Rattle.base_table.specs.Tabled.{entry_above}
use Rattle.mod_entries.{specs.Sources.from_operator, proofs.CountLemmas.{keys-end, keys-next, where-shorter, walk-cost}}
use Rattle.mod_entries.proofs.SourceLemmas.{next-is, no_entry, own-ascends}
use Rattle.mod_entries.proofs.sources.keys_from.Goals as goal

pub loop-key-preserved : goal.loop-key-preserved
loop-key-preserved g c =
    let cmp = g.K.Ord.cmp in
    let source = g.K.EntryKey.source in
    let u = c.args.lists.now.entries in
    let own = from_operator source c.args.operator.now u in
    let own_in_order = own-ascends cmp source c.args.operator.now u c.known.ensures.ordered in
    let key : Some c.in-Some.key.now ≡ option_map (λ e. e.0) (entry_above cmp own c.loop-key.after) = c.in-Some.ensures.key ∙ ap (λ o. option_map (λ e. e.0) (entry_above cmp own o)) c.as_ref.ensures.value in
    let here = next-is cmp source c.args.operator.now u c.known.ensures.ordered g.met.K.Ord.total g.met.K.EntryKey.exact c.loop-key.after c.in-Some.key.now key in
    record {
      told = keys-next cmp g.met.K.Ord.total own own_in_order c.loop-key.after (c.in-Some.key.now, here.0) here.1 c.loop-key.keys.items c.push.new.self.items (keys_of own) c.loop-key.invariant.told c.in_ok-push.ensures.items;
      cost = walk-cost cmp g.met.K.Ord.total own own_in_order c.loop-key.after (c.in-Some.key.now, here.0) here.1 c.loop-key.steps c.next_from.new.steps (c.args.steps.now + length own) c.next_from.ensures.cost c.loop-key.invariant.cost;
    }

pub loop-key-smaller : goal.loop-key-smaller
loop-key-smaller g c =
    let cmp = g.K.Ord.cmp in
    let source = g.K.EntryKey.source in
    let u = c.args.lists.now.entries in
    let own = from_operator source c.args.operator.now u in
    let own_in_order = own-ascends cmp source c.args.operator.now u c.known.ensures.ordered in
    let key : Some c.in-Some.key.now ≡ option_map (λ e. e.0) (entry_above cmp own c.loop-key.after) = c.in-Some.ensures.key ∙ ap (λ o. option_map (λ e. e.0) (entry_above cmp own o)) c.as_ref.ensures.value in
    let here = next-is cmp source c.args.operator.now u c.known.ensures.ordered g.met.K.Ord.total g.met.K.EntryKey.exact c.loop-key.after c.in-Some.key.now key in
    where-shorter cmp g.met.K.Ord.total own own_in_order c.loop-key.after (c.in-Some.key.now, here.0) here.1

pub returns-clause-keys : goal.returns-clause-keys
returns-clause-keys g c =
    let cmp = g.K.Ord.cmp in
    let source = g.K.EntryKey.source in
    let u = c.args.lists.now.entries in
    let own = from_operator source c.args.operator.now u in
    let own_in_order = own-ascends cmp source c.args.operator.now u c.known.ensures.ordered in
    keys-end cmp g.met.K.Ord.total own own_in_order c.loop-key.after c.loop-key.keys.items (keys_of own)
    (no_entry (entry_above cmp own c.loop-key.after) (c.in_default.ensures.key ∙ ap (λ o. option_map (λ e. e.0) (entry_above cmp own o)) c.as_ref.ensures.value))
    c.loop-key.invariant.told
