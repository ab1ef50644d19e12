use Rattle.std.proofs.Common.{◌≡◌, ℕ, ◌+◌, drop, arith, sum_by}
use Rattle.mod_tally.{specs.Counting.bonded_in, proofs.Told.next_summed}
use Rattle.mod_tally.proofs.polls.bonded_tokens.Goals as goal

pub overflow_add-total : goal.overflow_add-total
overflow_add-total c =
    let items = c.args.items.now in
    let next : sum_by bonded_in (drop c.loop-item.item-index items) ≡ bonded_in c.item-item.result + sum_by bonded_in (drop (c.loop-item.item-index + 1) items)
    = next_summed items c.loop-item.item-index c.item-item.result bonded_in (record { within = c.loop-item-test.true; is = c.item-item.is }) in
    let so_far : c.loop-item.total + sum_by bonded_in (drop c.loop-item.item-index items) ≡ sum_by bonded_in items = c.loop-item.invariant in
    omega (arith, next, so_far, c.bonded_in-total.ensures, c.requires)

pub loop-item-preserved : goal.loop-item-preserved
loop-item-preserved c =
    let items = c.args.items.now in
    let next : sum_by bonded_in (drop c.loop-item.item-index items) ≡ bonded_in c.item-item.result + sum_by bonded_in (drop (c.loop-item.item-index + 1) items)
    = next_summed items c.loop-item.item-index c.item-item.result bonded_in (record { within = c.loop-item-test.true; is = c.item-item.is }) in
    let so_far : c.loop-item.total + sum_by bonded_in (drop c.loop-item.item-index items) ≡ sum_by bonded_in items = c.loop-item.invariant in
    let then : (c.loop-item.total + c.bonded_in-total.result) + sum_by bonded_in (drop (c.loop-item.item-index + 1) items) ≡ sum_by bonded_in items = omega (arith, next, so_far, c.bonded_in-total.ensures) in
    then
