use Rattle.std.proofs.Common.{◌∙◌, refl, ap, arith}
use Rattle.store_loading.proofs.HoldLemmas.{all_held, has_room, none_held, one_held}
use Rattle.store_loading.proofs.loading.put_all.Goals as goal

pub loop-item-init : goal.loop-item-init
loop-item-init g c = (none_held g.M.Records.is_kind c.args.items.now (g.M.Records.items (g.M.Records.kept c.args.records.now)) c.requires.none, refl, refl)

pub load-requires : goal.load-requires
load-requires g c = record {
  room = has_room g.M.Records.is_kind c.args.items.now c.requires.own c.loop-item.item-index c.item-item.result c.loop-item-test.true c.item-item.is
      (g.M.Records.items (g.M.Records.kept c.loop-item.records)) c.loop-item.invariant.0;
}

pub loop-item-preserved : goal.loop-item-preserved
loop-item-preserved g c = (
  one_held g.M.Records.is_kind c.args.items.now c.requires.own c.loop-item.item-index c.item-item.result c.loop-item-test.true c.item-item.is
      (g.M.Records.items (g.M.Records.kept c.loop-item.records)) c.loop-item.invariant.0 (g.M.Records.items (g.M.Records.kept c.load.new.self))
      (λ e. c.in_ok-load.ensures.added e) (λ e. ap g.M.Records.items (c.in_ok-load.ensures.other e)),
  c.load.ensures.marks ∙ c.loop-item.invariant.1,
  c.in_ok-load.ensures.spent_ok ∙ c.loop-item.invariant.2,
)

pub returns-clause-holds : goal.returns-clause-holds
returns-clause-holds g c =
    all_held g.M.Records.is_kind c.args.items.now c.loop-item.item-index (g.M.Records.items (g.M.Records.kept c.loop-item.records)) (omega (arith, c.loop-item-test.false)) c.loop-item.invariant.0
