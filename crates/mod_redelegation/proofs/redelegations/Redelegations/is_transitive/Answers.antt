use Rattle.std.proofs.Common.{◌≡◌, ◌∙◌, ◌+◌, true, List, Some, refl, length, sym, ap, subst, arith, ◌&&◌}
use Rattle.std.specs.{List.Sorted.IsStrictlySortedBy, Map.keys_of}
use Rattle.base_roles.specs.{declared.entities.RedelegationEntry.RedelegationEntry, Orders.{triple_cmp, same_addr}}
use Rattle.mod_entries.{specs.Kept.Kept, proofs.CountLemmas.{where-shorter, walk-cost, all-left}}
use Rattle.base_table.specs.Tabled.{entry_above}
use Rattle.mod_redelegation.{specs.Own.{own_entries, is_own_or_none}, proofs.OrderLemmas.{Key, triple_total}}
use Rattle.mod_redelegation.proofs.OwnLemmas.{own-ascends, own-all, own-transitive}
use Rattle.mod_redelegation.proofs.TransitLemmas.{transit-next, transit-found}
use Rattle.mod_redelegation.proofs.redelegations.Redelegations.is_transitive.Goals as goal

pub loop-key-init : goal.loop-key-init
loop-key-init g c = record {
  is_own = refl;
  told = own-transitive c.args.delegator.now c.args.source.now c.args.self.now.lists;
  cost = omega arith;
}

pub next_own-requires : goal.next_own-requires
next_own-requires g c = record { own = ap (is_own_or_none c.args.delegator.now) c.as_ref.ensures.value ∙ c.loop-key.invariant.is_own }

pub loop-key-preserved : goal.loop-key-preserved
loop-key-preserved g c =
    let d = c.args.delegator.now in
    let r = c.args.self.now.lists in
    let inside = c.self.inside.entries.lists in
    let own = own_entries d r in
    let e : Key × List RedelegationEntry = (c.in-Some.key.now, c.in-Some._list.now) in
    let same : inside ≡ r = ap (λ (k : Kept Key RedelegationEntry). k.lists) c.self.view_is in
    let known = own-ascends d r (subst (λ l. IsStrictlySortedBy triple_cmp (keys_of l)) same c.known.ensures.ordered) in
    let here : entry_above triple_cmp own c.loop-key.after ≡ Some e =
    ap (λ l. entry_above triple_cmp (own_entries d l) c.loop-key.after) (sym same) ∙ ap (entry_above triple_cmp (own_entries d inside)) (sym c.as_ref.ensures.value) ∙ sym c.in-Some.ensures.above in
    let is_own : same_addr e.0.0 d ≡ true = all-left triple_cmp triple_total own known c.loop-key.after e here (λ p. same_addr p.0.0 d ≡ true) (own-all d r) in
    record {
      is_own = is_own;
      told = transit-next d c.args.source.now own known c.loop-key.after e here (ap (λ b. b && same_addr e.0.2 c.args.source.now) is_own ∙ sym c.is_same.ensures ∙ c.if-is_same.false) ∙ c.loop-key.invariant.told;
      cost = walk-cost triple_cmp triple_total own known c.loop-key.after e here c.loop-key.steps c.next_own.new.steps (c.args.steps.now + length own) c.next_own.ensures.cost c.loop-key.invariant.cost;
    }

pub loop-key-smaller : goal.loop-key-smaller
loop-key-smaller g c =
    let d = c.args.delegator.now in
    let r = c.args.self.now.lists in
    let inside = c.self.inside.entries.lists in
    let own = own_entries d r in
    let e : Key × List RedelegationEntry = (c.in-Some.key.now, c.in-Some._list.now) in
    let same : inside ≡ r = ap (λ (k : Kept Key RedelegationEntry). k.lists) c.self.view_is in
    let known = own-ascends d r (subst (λ l. IsStrictlySortedBy triple_cmp (keys_of l)) same c.known.ensures.ordered) in
    let here : entry_above triple_cmp own c.loop-key.after ≡ Some e =
    ap (λ l. entry_above triple_cmp (own_entries d l) c.loop-key.after) (sym same) ∙ ap (entry_above triple_cmp (own_entries d inside)) (sym c.as_ref.ensures.value) ∙ sym c.in-Some.ensures.above in
    where-shorter triple_cmp triple_total own known c.loop-key.after e here

pub returns-then-is_same-clause-value : goal.returns-then-is_same-clause-value
returns-then-is_same-clause-value g c =
    let d = c.args.delegator.now in
    let r = c.args.self.now.lists in
    let inside = c.self.inside.entries.lists in
    let own = own_entries d r in
    let e : Key × List RedelegationEntry = (c.in-Some.key.now, c.in-Some._list.now) in
    let same : inside ≡ r = ap (λ (k : Kept Key RedelegationEntry). k.lists) c.self.view_is in
    let known = own-ascends d r (subst (λ l. IsStrictlySortedBy triple_cmp (keys_of l)) same c.known.ensures.ordered) in
    let here : entry_above triple_cmp own c.loop-key.after ≡ Some e =
    ap (λ l. entry_above triple_cmp (own_entries d l) c.loop-key.after) (sym same) ∙ ap (entry_above triple_cmp (own_entries d inside)) (sym c.as_ref.ensures.value) ∙ sym c.in-Some.ensures.above in
    let is_own : same_addr e.0.0 d ≡ true = all-left triple_cmp triple_total own known c.loop-key.after e here (λ p. same_addr p.0.0 d ≡ true) (own-all d r) in
    sym (transit-found d c.args.source.now own known c.loop-key.after e here (ap (λ b. b && same_addr e.0.2 c.args.source.now) is_own ∙ sym c.is_same.ensures ∙ c.if-is_same.true)) ∙ c.loop-key.invariant.told
