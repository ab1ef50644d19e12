use Rattle.std.{specs.Map.Iter.deref_pair, proofs.lemmas.Map.Iter.rest_more}
use Rattle.store_soundness.proofs.CountLemmas.{current_step}
use Rattle.store_soundness.proofs.histories.add_currents.Goals as goal

pub loop-operator-preserved : goal.loop-operator-preserved
loop-operator-preserved c =
    current_step _ _ _ c.in-Some.operator.now c.in-Some.current.now _ _ _ c.loop-operator.invariant
    (rest_more deref_pair _ _ _ (c.in-Some.operator, c.in-Some.current) c.in-Some.is c.next.ensures.steps) c.last_ended.ensures c.in_ok-add_to.ensures
