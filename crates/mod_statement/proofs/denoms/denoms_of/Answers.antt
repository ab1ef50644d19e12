use Rattle.std.proofs.Common.{◌∙◌, ap, sym, arith}
use Rattle.mod_statement.{specs.Slack.{denoms_over, denoms_with}, proofs.Walks.{entries_more, entries_end}}
use Rattle.mod_statement.proofs.denoms.denoms_of.Goals as goal

pub loop-entry-init : goal.loop-entry-init
loop-entry-init c =
    ap (λ l. denoms_over (denoms_with l c.args.ratio.now) c.args.entries.now) (sym c.new-denoms.ensures.items)
    ∙ ap (λ l. denoms_over l c.args.entries.now) (sym c.in_ok-put_all.ensures.denoms)

pub loop-entry-preserved : goal.loop-entry-preserved
loop-entry-preserved c =
    entries_more _ c.loop-entry.denoms.items c.put_allocated.new.denoms.items c.args.entries.now c.loop-entry.entry-index c.entry-item.result (omega arith) c.entry-item.is
    c.in_ok-put_allocated.ensures.denoms c.loop-entry.invariant

pub returns-clause-denoms : goal.returns-clause-denoms
returns-clause-denoms c = sym (entries_end _ c.loop-entry.denoms.items c.args.entries.now c.loop-entry.entry-index (omega arith) c.loop-entry.invariant)
