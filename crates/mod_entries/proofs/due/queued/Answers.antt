use Rattle.std.proofs.Common.{◌≡◌, ◌∙◌, ◌+◌, ◌≤◌, Some, length, sym, ap, arith, is_some}
use Rattle.std.proofs.lemmas.List.{length_push}
use Rattle.base_table.specs.Tabled.{entry_above}
use Rattle.mod_entries.{specs.Queue.completion_cmp, proofs.{CountLemmas.one_step, DueLemmas.{due-next, due-shorter}}}
use Rattle.mod_entries.proofs.due.queued.Goals as goal

pub loop-place-preserved : goal.loop-place-preserved
loop-place-preserved g c =
    let cmp = g.K.Ord.cmp in
    let q = c.args.queue.now.entries in
    let here : entry_above (completion_cmp cmp) q c.loop-place.after ≡ Some (c.in-Some.place.now, c.in-Some._stands.now) = ap (entry_above (completion_cmp cmp) q) (sym c.as_ref.ensures.value) ∙ sym c.in-Some.ensures.above in
    let due : c.in-Some.place.now.0 ≤ c.args.now = omega arith in
    let items = c.in_ok-push.ensures.items in
    let cost = c.loop-place.invariant.cost in
    let more : length c.push.new.self.items ≡ length c.loop-place.keys.items + 1 = ap length items ∙ length_push c.loop-place.keys.items c.in-Some.place.now.1 in
    let step = c.next.ensures.cost in
    let one = one_step (is_some c.next.result) in
    record {
      told = due-next cmp g.met.K.Ord.total c.args.now q c.known.ensures.ordered c.loop-place.keys.items c.loop-place.after c.loop-place.invariant.told (c.in-Some.place.now, c.in-Some._stands.now) here c.push.new.self.items due items;
      cost = omega (arith, cost, more, step, one);
    }

pub loop-place-smaller : goal.loop-place-smaller
loop-place-smaller g c =
    let cmp = g.K.Ord.cmp in
    let q = c.args.queue.now.entries in
    let here : entry_above (completion_cmp cmp) q c.loop-place.after ≡ Some (c.in-Some.place.now, c.in-Some._stands.now) = ap (entry_above (completion_cmp cmp) q) (sym c.as_ref.ensures.value) ∙ sym c.in-Some.ensures.above in
    due-shorter cmp g.met.K.Ord.total c.args.now q c.known.ensures.ordered c.loop-place.keys.items c.loop-place.after c.loop-place.invariant.told (c.in-Some.place.now, c.in-Some._stands.now) here
