use Rattle.std.proofs.Common.{◌∙◌, ap, sym, option_copied, option_map}
use Rattle.base_types.specs.Orders.{addr_cmp}
use Rattle.base_table.specs.Tabled.{entry_above, entry_from}
use Rattle.base_roles.specs.Orders.{both_cmp}
use Rattle.mod_entries.{specs.Sources.{from_operator, own_key}, proofs.SourceLemmas.{own-begins, own-goes_on}}
use Rattle.mod_entries.proofs.sources.next_from.Goals as goal

pub returns-in-None-clause-key : goal.returns-in-None-clause-key
returns-in-None-clause-key g c =
    let cmp = g.K.Ord.cmp in
    let source = g.K.EntryKey.source in
    let operator = c.args.operator.now in
    let u = c.args.lists.now.entries in
    c.own_key.ensures ∙ ap (own_key operator) (c.seek.ensures.from ∙ ap (λ k. entry_from (both_cmp addr_cmp cmp) c.args.sources.now.entries (operator, k)) c.least.ensures)
    ∙ own-begins operator cmp g.met.K.Ord.total g.met.K.EntryKey.exact source u c.args.sources.now.entries c.known.ensures.ordered c.known-2.ensures.ordered c.requires.sources
    g.K.EntryKey.fits g.K.EntryKey.least_key g.met.K.EntryKey.is_least c.requires.fit
    ∙ ap (λ o. option_map (λ e. e.0) (entry_above cmp (from_operator source operator u) (option_copied o))) (sym c.in-None.is)

pub returns-in-Some-clause-key : goal.returns-in-Some-clause-key
returns-in-Some-clause-key g c =
    let cmp = g.K.Ord.cmp in
    let source = g.K.EntryKey.source in
    let operator = c.args.operator.now in
    let u = c.args.lists.now.entries in
    c.own_key-in-Some.ensures ∙ ap (own_key operator) c.next.ensures.above
    ∙ own-goes_on operator cmp g.met.K.Ord.total g.met.K.EntryKey.exact source u c.args.sources.now.entries c.known.ensures.ordered c.known-2.ensures.ordered c.requires.sources c.in-Some.key.now
    ∙ ap (λ o. option_map (λ e. e.0) (entry_above cmp (from_operator source operator u) (option_copied o))) (sym c.in-Some.is)
