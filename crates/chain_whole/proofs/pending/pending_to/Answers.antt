use Rattle.std.proofs.Common.{◌≡◌, ◌∙◌, ◌++◌, List, ap, arith}
use Rattle.base_roles.specs.declared.items.Item.{Item}
use Rattle.mod_staking.specs.Items.{items_of}
use Rattle.chain_whole.proofs.{OwnLemmas.{all_own, own_more}, PendingLemmas.one_stands}
use Rattle.chain_whole.proofs.pending.pending_to.Goals as goal

pub loop-item-init : goal.loop-item-init
loop-item-init g c = λ p s. c.new-list.ensures.items

pub append_own-requires-clause-standing : goal.append_own-requires-clause-standing
append_own-requires-clause-standing g c =
    let staked = c.args.modules.now.stakes.staking.staked in
    let items : c.deref-item-items.result.now ≡ items_of staked = ◌∙◌ {A = List Item} c.deref-item-items.ensures.value (◌∙◌ {A = List Item} c.in_ok-items_into.ensures.items (ap (λ (l : List Item). l ++ items_of staked) c.new-items.ensures.items)) in
    one_stands c.args.modules.now c.requires.rest c.deref-item-items.result.now c.loop-item.item-index c.item-item.result items c.loop-item-test.true c.item-item.is

pub loop-item-preserved : goal.loop-item-preserved
loop-item-preserved g c = λ p s.
    own_more p c.args.who.now c.deref-item-items.result.now c.loop-item.item-index c.item-item.result c.loop-item.list.items c.append_own.new.list.items c.loop-item-test.true c.item-item.is (c.loop-item.invariant p s) (c.in_ok-append_own.ensures p s)

pub returns : goal.returns
returns g c = λ p s.
    let staked = c.args.modules.now.stakes.staking.staked in
    let items : c.deref-item-items.result.now ≡ items_of staked = ◌∙◌ {A = List Item} c.deref-item-items.ensures.value (◌∙◌ {A = List Item} c.in_ok-items_into.ensures.items (ap (λ (l : List Item). l ++ items_of staked) c.new-items.ensures.items)) in
    all_own c.args.modules.now p c.args.who.now s c.deref-item-items.result.now c.loop-item.item-index c.loop-item.list.items items (omega (arith, c.loop-item-test.false)) (c.loop-item.invariant p s)
