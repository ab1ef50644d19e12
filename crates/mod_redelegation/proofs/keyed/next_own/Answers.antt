use Rattle.std.proofs.Common.{◌≡◌, ◌∙◌, true, sym, ap, option_copied}
use Rattle.base_table.specs.Tabled.{entry_above, entry_from}
use Rattle.base_roles.specs.Orders.{triple_cmp, same_addr}
use Rattle.mod_redelegation.specs.Own.{own_entries, own_entry, is_own_or_none}
use Rattle.mod_redelegation.proofs.OwnLemmas.{own-begins, own-goes_on}
use Rattle.mod_redelegation.proofs.keyed.next_own.Goals as goal

pub returns-in-None-clause-above : goal.returns-in-None-clause-above
returns-in-None-clause-above g c =
    let d = c.args.delegator.now in
    let r = c.args.entries.now.lists in
    c.own.ensures ∙ ap (own_entry d) (c.seek.ensures.from ∙ (λ i. entry_from triple_cmp r (d, c.least_addr-least.ensures i, c.least_addr-least.ensures i)))
    ∙ own-begins d r c.known.ensures.ordered c.known.ensures.fit ∙ ap (λ o. entry_above triple_cmp (own_entries d r) (option_copied o)) (sym c.in-None.is)

pub returns-in-Some-clause-above : goal.returns-in-Some-clause-above
returns-in-Some-clause-above g c =
    let d = c.args.delegator.now in
    let r = c.args.entries.now.lists in
    let is_own : same_addr c.in-Some.key.now.0 d ≡ true = ap (λ o. is_own_or_none d (option_copied o)) (sym c.in-Some.is) ∙ c.requires.own in
    c.own-in-Some.ensures ∙ ap (own_entry d) c.next.ensures.above ∙ own-goes_on d r c.known.ensures.ordered c.in-Some.key.now is_own
    ∙ ap (λ o. entry_above triple_cmp (own_entries d r) (option_copied o)) (sym c.in-Some.is)
