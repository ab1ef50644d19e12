use Rattle.std.proofs.Common.{◌∙◌, sym, append-nil}
use Rattle.store_rows.specs.{Rows.redelegation_bytes, Spelled.IsRedelegation}
use Rattle.store_rows.proofs.LoopLemmas.{each_done, each_more, writes_all, writes_on}
use Rattle.store_rows.proofs.writing.push_redelegations.Goals as goal

pub loop-entry-init : goal.loop-entry-init
loop-entry-init c = record { written = c.in_ok-push_len.ensures ∙ sym (append-nil _); range = tt }

pub loop-entry-preserved : goal.loop-entry-preserved
loop-entry-preserved c =
    let so_far = c.loop-entry.invariant in
    record {
      written = writes_on redelegation_bytes _ c.loop-entry.out.items _ c.args.entries.now c.loop-entry.entry-index c.entry-item.result c.loop-entry-test.true c.entry-item.is so_far.written c.in_ok-push_redelegation.ensures.written;
      range = each_more IsRedelegation c.args.entries.now c.loop-entry.entry-index c.entry-item.result c.loop-entry-test.true c.entry-item.is so_far.range c.in_ok-push_redelegation.ensures.range;
    }

pub returns-clause-written : goal.returns-clause-written
returns-clause-written c = writes_all redelegation_bytes c.args.out.now.items _ c.args.entries.now c.loop-entry.entry-index c.loop-entry-test.false c.loop-entry.invariant.written

pub returns-clause-range : goal.returns-clause-range
returns-clause-range c = each_done IsRedelegation c.args.entries.now c.loop-entry.entry-index c.loop-entry-test.false c.loop-entry.invariant.range
