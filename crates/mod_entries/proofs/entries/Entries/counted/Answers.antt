use Rattle.std.proofs.Common.{◌≡◌, ◌∙◌, ◌+◌, Some, length, sym, ap, arith, map, option_map, sum}
use Rattle.base_table.specs.Tabled.{entry_above}
use Rattle.base_records.proofs.WalkLemmas.{walk-end}
use Rattle.rule_modules.specs.EntrySlashes.{counted, counted_of}
use Rattle.mod_entries.specs.{Slashed.all_counted, Sources.from_operator}
use Rattle.mod_entries.proofs.CountLemmas.{count-next, left_is, where-shorter}
use Rattle.mod_entries.proofs.SourceLemmas.{next-found, next-is, next-own, no_entry, own-again, own-ascends}
use Rattle.mod_entries.proofs.entries.Entries.counted.Goals as goal

pub loop-key-preserved : goal.loop-key-preserved
loop-key-preserved g c =
    let cmp = g.K.Ord.cmp in
    let total = g.met.K.Ord.total in
    let exact = g.met.K.EntryKey.exact in
    let source = g.K.EntryKey.source in
    let made = g.E.Entry.made in
    let a = c.args.operator.now in
    let u = c.args.self.now.lists in
    let own = from_operator source a u in
    let s = c.known.ensures.ordered in
    let own_in_order = own-ascends cmp source a u s in
    let after = c.loop-key.after in
    let k = c.in-Some.key.now in
    let key : Some k ≡ option_map (λ e. e.0) (entry_above cmp own after) = c.in-Some.ensures.key ∙ ap (λ o. option_map (λ e. e.0) (entry_above cmp own o)) c.as_ref.ensures.value in
    let here = next-is cmp source a u s total exact after k key in
    let found = next-found cmp source a u s total exact after k key in
    let n = ap length (left_is cmp total own own_in_order after (k, here.0) here.1) in
    let walked = c.next_from.ensures.cost in
    let looked = c.counted_at-part.ensures.cost in
    let before = c.loop-key.invariant.cost in
    record {
      told = count-next cmp total own own_in_order after (k, here.0) here.1 source made a c.args.infraction c.args.factor c.args.now c.loop-key.sum c.counted-next.result
          (counted (all_counted source made a c.args.infraction c.args.factor c.args.now own)) (next-own cmp source a u s total exact after k key) c.loop-key.invariant.told
          (c.counted-next.ensures.value ∙ ap (λ x. counted (c.loop-key.sum + x)) (c.counted_at-part.ensures.value ∙ ap (λ es. counted_of c.args.infraction c.args.factor c.args.now (map made es)) found));
      most = c.counted-next.ensures.most;
      cost = omega (arith, n, walked, looked, before);
    }

pub loop-key-smaller : goal.loop-key-smaller
loop-key-smaller g c =
    let cmp = g.K.Ord.cmp in
    let total = g.met.K.Ord.total in
    let source = g.K.EntryKey.source in
    let a = c.args.operator.now in
    let u = c.args.self.now.lists in
    let own = from_operator source a u in
    let s = c.known.ensures.ordered in
    let k = c.in-Some.key.now in
    let key : Some k ≡ option_map (λ e. e.0) (entry_above cmp own c.loop-key.after) = c.in-Some.ensures.key ∙ ap (λ o. option_map (λ e. e.0) (entry_above cmp own o)) c.as_ref.ensures.value in
    let here = next-is cmp source a u s total g.met.K.EntryKey.exact c.loop-key.after k key in
    where-shorter cmp total own (own-ascends cmp source a u s) c.loop-key.after (k, here.0) here.1

pub returns-clause-value : goal.returns-clause-value
returns-clause-value g c =
    let cmp = g.K.Ord.cmp in
    let source = g.K.EntryKey.source in
    let a = c.args.operator.now in
    let u = c.args.self.now.lists in
    let own = from_operator source a u in
    let counted_in = all_counted source g.E.Entry.made a c.args.infraction c.args.factor c.args.now in
    let none = no_entry (entry_above cmp own c.loop-key.after) (c.in_default.ensures.key ∙ ap (λ o. option_map (λ e. e.0) (entry_above cmp own o)) c.as_ref.ensures.value) in
    let few : c.loop-key.sum ≡ counted (c.loop-key.sum + 0) = omega (arith, c.loop-key.invariant.most) in
    few ∙ ap (λ l. counted (c.loop-key.sum + counted_in l)) (sym (walk-end cmp own c.loop-key.after none)) ∙ c.loop-key.invariant.told
    ∙ ap (λ l. counted (sum (map (λ p. counted_of c.args.infraction c.args.factor c.args.now (map g.E.Entry.made p.1)) l))) (own-again source a u)
