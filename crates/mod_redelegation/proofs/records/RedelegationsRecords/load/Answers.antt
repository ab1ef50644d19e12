use Rattle.std.proofs.Common.{◌≡◌, ◌∙◌, refl, ap, subst}
use Rattle.std.specs.{List.Sorted.IsStrictlySortedBy, Map.keys_of}
use Rattle.base_roles.specs.{declared.entities.RedelegationEntry.RedelegationEntry, Entries.with, Orders.triple_cmp}
use Rattle.base_records.proofs.KindLemmas.{added-at}
use Rattle.mod_entries.specs.Kept.{Kept}
use Rattle.mod_redelegation.{specs.Items.items_of, proofs.{ItemLemmas.redelegation-added, OrderLemmas.Key}}
use Rattle.mod_redelegation.proofs.records.RedelegationsRecords.load.Goals as goal

pub returns-clause-added : goal.returns-clause-added
returns-clause-added g c = λ _.
    let r = c.args.self.now.lists in
    let key : Key = (c.in-Redelegation.delegator, c.in-Redelegation.source, c.in-Redelegation.target) in
    let es = c.in-Redelegation.entries in
    let same : c.self.inside.entries.lists ≡ r = ap (λ (k : Kept Key RedelegationEntry). k.lists) c.self.view_is in
    let made : c.put_copy.new.entries.lists ≡ with triple_cmp r key es = ap (λ (k : Kept Key RedelegationEntry). k.lists) c.in_ok-put_copy-in-Redelegation.ensures.ok ∙ ap (λ l. with triple_cmp l key es) same in
    added-at items_of r _ r c.put_copy.new.entries.lists _ c.args.item.now
    (redelegation-added r key es (subst (λ l. IsStrictlySortedBy triple_cmp (keys_of l)) same c.known.ensures.ordered)) refl made c.in-Redelegation.is
