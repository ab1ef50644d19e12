use Rattle.std.proofs.Common.{◌∙◌, Some, ap}
use Rattle.store_records.{specs.Gathering.{also, gathered_seen}, proofs.GatherLemmas.gathered-more}
use Rattle.store_records.proofs.gathering.take_all.Goals as goal

pub loop-item-preserved : goal.loop-item-preserved
loop-item-preserved c =
    gathered-more c.loop-item.yielded c.in-Some.item (Some (gathered_seen c.args.gathering.now))
    ∙ ap (also c.in-Some.item) c.loop-item.invariant ∙ c.in_ok-next.ensures
