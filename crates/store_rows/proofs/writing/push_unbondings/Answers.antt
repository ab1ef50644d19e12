use Rattle.std.proofs.Common.{◌∙◌, sym, append-nil}
use Rattle.store_rows.specs.{Rows.unbonding_bytes, Spelled.IsUnbonding}
use Rattle.store_rows.proofs.LoopLemmas.{each_done, each_more, writes_all, writes_on}
use Rattle.store_rows.proofs.writing.push_unbondings.Goals as goal

pub loop-entry-init : goal.loop-entry-init
loop-entry-init c = record { written = c.in_ok-push_len.ensures ∙ sym (append-nil _); range = tt }

pub loop-entry-preserved : goal.loop-entry-preserved
loop-entry-preserved c =
    let so_far = c.loop-entry.invariant in
    record {
      written = writes_on unbonding_bytes _ c.loop-entry.out.items _ c.args.entries.now c.loop-entry.entry-index c.entry-item.result c.loop-entry-test.true c.entry-item.is so_far.written c.in_ok-push_unbonding.ensures.written;
      range = each_more IsUnbonding c.args.entries.now c.loop-entry.entry-index c.entry-item.result c.loop-entry-test.true c.entry-item.is so_far.range c.in_ok-push_unbonding.ensures.range;
    }

pub returns-clause-written : goal.returns-clause-written
returns-clause-written c = writes_all unbonding_bytes c.args.out.now.items _ c.args.entries.now c.loop-entry.entry-index c.loop-entry-test.false c.loop-entry.invariant.written

pub returns-clause-range : goal.returns-clause-range
returns-clause-range c = each_done IsUnbonding c.args.entries.now c.loop-entry.entry-index c.loop-entry-test.false c.loop-entry.invariant.range
