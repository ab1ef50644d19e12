use Rattle.std.proofs.Common.{◌≡◌, ◌∙◌, refl, ap, subst}
use Rattle.std.specs.{List.Sorted.IsStrictlySortedBy, Map.keys_of}
use Rattle.base_roles.specs.{declared.entities.UnbondingEntry.UnbondingEntry, Entries.with, Orders.pair_cmp}
use Rattle.base_records.proofs.KindLemmas.{added-at}
use Rattle.mod_entries.specs.Kept.{Kept}
use Rattle.mod_unbonding.{specs.{Items.items_of, Walked.Key}, proofs.ItemLemmas.unbonding-added}
use Rattle.mod_unbonding.proofs.records.UnbondingsRecords.load.Goals as goal

pub returns-clause-added : goal.returns-clause-added
returns-clause-added g c = λ _.
    let u = c.args.self.now.lists in
    let key : Key = (c.in-Unbonding.delegator, c.in-Unbonding.operator) in
    let es = c.in-Unbonding.entries in
    let same : c.self.inside.entries.lists ≡ u = ap (λ (k : Kept Key UnbondingEntry). k.lists) c.self.view_is in
    let made : c.put_copy.new.self.lists ≡ with pair_cmp u key es = ap (λ (k : Kept Key UnbondingEntry). k.lists) c.in_ok-put_copy-in-Unbonding.ensures.ok ∙ ap (λ l. with pair_cmp l key es) same in
    added-at items_of u _ u c.put_copy.new.self.lists _ c.args.item.now
    (unbonding-added u key es (subst (λ l. IsStrictlySortedBy pair_cmp (keys_of l)) same c.known.ensures.ordered)) refl made c.in-Unbonding.is
