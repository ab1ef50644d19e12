use Rattle.std.proofs.Common.{◌∙◌, refl, ap, arith}
use Rattle.mod_staking.specs.Items.{is_stake, items_of}
use Rattle.store_loading.proofs.HoldLemmas.{all_held, has_room, none_held, one_held}
use Rattle.store_loading.proofs.loading.put_stakes.Goals as goal

pub loop-item-init : goal.loop-item-init
loop-item-init g c = (none_held is_stake c.args.items.now (items_of c.args.staking.now.staked) c.requires.none, refl, refl, refl)

pub load-requires : goal.load-requires
load-requires g c = record {
  room = has_room is_stake c.args.items.now c.requires.own c.loop-item.item-index c.item-item.result c.loop-item-test.true c.item-item.is
      (items_of c.loop-item.staking.staked) c.loop-item.invariant.0;
}

pub loop-item-preserved : goal.loop-item-preserved
loop-item-preserved g c = (
  one_held is_stake c.args.items.now c.requires.own c.loop-item.item-index c.item-item.result c.loop-item-test.true c.item-item.is
      (items_of c.loop-item.staking.staked) c.loop-item.invariant.0 (items_of c.load.new.self.staked)
      (λ e. c.in_ok-load.ensures.added e) (λ e. ap items_of (c.in_ok-load.ensures.other e)),
  c.load.ensures.marks ∙ c.loop-item.invariant.1,
  c.in_ok-load.ensures.spent_ok ∙ c.loop-item.invariant.2,
  c.load.ensures.power ∙ c.loop-item.invariant.3,
)

pub returns-clause-holds : goal.returns-clause-holds
returns-clause-holds g c =
    all_held is_stake c.args.items.now c.loop-item.item-index (items_of c.loop-item.staking.staked) (omega (arith, c.loop-item-test.false)) c.loop-item.invariant.0
