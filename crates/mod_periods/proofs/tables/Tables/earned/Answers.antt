use Rattle.std.proofs.Common.{ap, sym, subst, ◌∙◌, arith, length, drop, [], ◌+◌, Bor}
use Rattle.std.proofs.lemmas.Result.{IfOk-weaker}
use Rattle.base_roles.specs.declared.entities.Historical.{Historical}
use Rattle.mod_periods.specs.Earning.{stretch_added}
use Rattle.mod_periods.proofs.EarnLemmas.{IsEarning, item-of, none-left, found, found-some, excess-of, err_weaker, moved, earn-begins, earn-step, earn-skip, earn-fails, earn-ends, earn-over, enough-here, enough-end, stands-here, fraction-here}
use Rattle.mod_periods.proofs.tables.Tables.earned.Goals.{then-event-info+in-Ok, else-event-info}
use Rattle.mod_periods.proofs.tables.Tables.earned.Goals as goal

pub loop-event-init : goal.loop-event-init
loop-event-init g c =
    let is = c.deref-event-items.ensures.value ∙ c.in_ok-events.ensures.events in
    record {
      earning = λ ending can. (
        c.args.info.period,
        subst (λ total. IsEarning c.args.self.now.kept c.args.operator.now c.args.info ending c.args.ratio.now c.args.value c.deref-event-items.result.now c.unwrap-begin.result.now c.args.info.stake total c.args.info.period) (sym c.new-total.ensures)
            (subst (λ rest. IsEarning c.args.self.now.kept c.args.operator.now c.args.info ending c.args.ratio.now c.args.value rest c.unwrap-begin.result.now c.args.info.stake [] c.args.info.period) (sym is)
            (earn-begins c.args.self.now.kept c.args.operator.now c.args.info ending c.args.ratio.now c.args.value can c.unwrap-begin.result.now (found c.unwrap-begin.ensures c.record.ensures.found))),
      );
      cost = let few = ap length is in omega (arith, few, c.in_ok-events.ensures.cost, c.record.ensures.cost);
    }

pub unwrap-end-requires : goal.unwrap-end-requires
unwrap-end-requires g c =
    let can = c.requires in
    let here = c.loop-event.invariant.earning can.0 can.1 in
    let item = item-of c.deref-event-items.result.now c.loop-event.event-index c.event-item.result c.loop-event-test.true c.event-item.is in
    found-some c.record-then-event-info.result _ c.record-then-event-info.ensures.found
    (stands-here c.args.self.now.kept c.args.operator.now c.args.info can.0 c.args.ratio.now c.args.value can.1 c.event-item.result (drop (c.loop-event.event-index + 1) c.deref-event-items.result.now) c.loop-event.begin.now c.loop-event.stake c.loop-event.total here.0
    (subst (λ rest. IsEarning c.args.self.now.kept c.args.operator.now c.args.info can.0 c.args.ratio.now c.args.value rest c.loop-event.begin.now c.loop-event.stake c.loop-event.total here.0) item here.1))

pub with_stretch-requires : goal.with_stretch-requires
with_stretch-requires g c =
    let can = c.requires in
    let here = c.loop-event.invariant.earning can.0 can.1 in
    let item = item-of c.deref-event-items.result.now c.loop-event.event-index c.event-item.result c.loop-event-test.true c.event-item.is in
    enough-here c.args.self.now.kept c.args.operator.now c.args.info can.0 c.args.ratio.now c.args.value can.1 c.event-item.result (drop (c.loop-event.event-index + 1) c.deref-event-items.result.now) c.loop-event.begin.now c.loop-event.stake c.loop-event.total here.0
    (subst (λ rest. IsEarning c.args.self.now.kept c.args.operator.now c.args.info can.0 c.args.ratio.now c.args.value rest c.loop-event.begin.now c.loop-event.stake c.loop-event.total here.0) item here.1)
    c.unwrap-end.result.now c.if-event-info.true (found c.unwrap-end.ensures c.record-then-event-info.ensures.found)

pub slashed-stake-requires : goal.slashed-stake-requires
slashed-stake-requires g c =
    let can = c.requires in
    let here = c.loop-event.invariant.earning can.0 can.1 in
    let item = item-of c.deref-event-items.result.now c.loop-event.event-index c.event-item.result c.loop-event-test.true c.event-item.is in
    fraction-here c.args.self.now.kept c.args.operator.now c.args.info can.0 c.args.ratio.now c.args.value can.1 c.event-item.result (drop (c.loop-event.event-index + 1) c.deref-event-items.result.now) c.loop-event.begin.now c.loop-event.stake c.loop-event.total here.0
    (subst (λ rest. IsEarning c.args.self.now.kept c.args.operator.now c.args.info can.0 c.args.ratio.now c.args.value rest c.loop-event.begin.now c.loop-event.stake c.loop-event.total here.0) item here.1)

pub with_stretch-requires-2 : goal.with_stretch-requires-2
with_stretch-requires-2 g c =
    let can = c.requires in
    let here = c.loop-event.invariant.earning can.0 can.1 in
    enough-end c.args.self.now.kept c.args.operator.now c.args.info can.0 c.args.ratio.now c.args.value can.1 c.loop-event.begin.now c.loop-event.stake c.loop-event.total here.0
    (subst (λ rest. IsEarning c.args.self.now.kept c.args.operator.now c.args.info can.0 c.args.ratio.now c.args.value rest c.loop-event.begin.now c.loop-event.stake c.loop-event.total here.0)
    (none-left c.deref-event-items.result.now c.loop-event.event-index c.loop-event-test.false) here.1)

pub returns-in-Err-clause-fault : goal.returns-in-Err-clause-fault
returns-in-Err-clause-fault g c ending can =
    let here = c.loop-event.invariant.earning ending can in
    let item = item-of c.deref-event-items.result.now c.loop-event.event-index c.event-item.result c.loop-event-test.true c.event-item.is in
    excess-of _ _ c.in-Err.fault
    (earn-fails c.args.self.now.kept c.args.operator.now c.args.info ending c.args.ratio.now c.args.value can c.event-item.result (drop (c.loop-event.event-index + 1) c.deref-event-items.result.now) c.loop-event.begin.now c.loop-event.stake c.loop-event.total here.0
    (subst (λ rest. IsEarning c.args.self.now.kept c.args.operator.now c.args.info ending c.args.ratio.now c.args.value rest c.loop-event.begin.now c.loop-event.stake c.loop-event.total here.0) item here.1)
    c.unwrap-end.result.now c.if-event-info.true (found c.unwrap-end.ensures c.record-then-event-info.ensures.found))
    c.in-Err.ensures.fault

pub loop-event-preserved : goal.loop-event-preserved
loop-event-preserved g c =
    let at_item = item-of c.deref-event-items.result.now c.loop-event.event-index c.event-item.result c.loop-event-test.true c.event-item.is in
    elim c.if-event-info.branch [
      | then-event-info+in-Ok w ↦ record {
        earning = λ ending can.
            let here = c.loop-event.invariant.earning ending can in (
              c.event-item.result.period,
              moved c.args.self.now.kept c.args.operator.now c.args.info ending c.args.ratio.now c.args.value (ap (λ (b : Bor Historical). b.now) w.begin-is) (w.stake-is ∙ w.slashed-stake.ensures) w.total-is
                  (earn-step c.args.self.now.kept c.args.operator.now c.args.info ending c.args.ratio.now c.args.value can c.event-item.result (drop (c.loop-event.event-index + 1) c.deref-event-items.result.now) c.loop-event.begin.now c.loop-event.stake c.loop-event.total here.0
                  (subst (λ rest. IsEarning c.args.self.now.kept c.args.operator.now c.args.info ending c.args.ratio.now c.args.value rest c.loop-event.begin.now c.loop-event.stake c.loop-event.total here.0) at_item here.1)
                  w.unwrap-end.result.now w.in-Ok.sum w.if-event-info.true (found w.unwrap-end.ensures w.record-then-event-info.ensures.found) w.in-Ok.ensures.sum),
            );
        cost = let a = w.record-then-event-info.ensures.cost in let b = w.steps-is in omega (arith, a, b, c.loop-event.invariant.cost);
      }
      | else-event-info w ↦ record {
        earning = λ ending can.
            let here = c.loop-event.invariant.earning ending can in (
              here.0,
              moved c.args.self.now.kept c.args.operator.now c.args.info ending c.args.ratio.now c.args.value (ap (λ (b : Bor Historical). b.now) w.begin-is) w.stake-is w.total-is
                  (earn-skip c.args.self.now.kept c.args.operator.now c.args.info ending c.args.ratio.now c.args.value can c.event-item.result (drop (c.loop-event.event-index + 1) c.deref-event-items.result.now) c.loop-event.begin.now c.loop-event.stake c.loop-event.total here.0
                  (subst (λ rest. IsEarning c.args.self.now.kept c.args.operator.now c.args.info ending c.args.ratio.now c.args.value rest c.loop-event.begin.now c.loop-event.stake c.loop-event.total here.0) at_item here.1)
                  w.if-event-info.false),
            );
        cost = let b = w.steps-is in omega (arith, b, c.loop-event.invariant.cost);
      }
    ]

pub returns-clause-reward : goal.returns-clause-reward
returns-clause-reward g c ending can =
    let here = c.loop-event.invariant.earning ending can in
    let ends = subst (λ rest. IsEarning c.args.self.now.kept c.args.operator.now c.args.info ending c.args.ratio.now c.args.value rest c.loop-event.begin.now c.loop-event.stake c.loop-event.total here.0)
    (none-left c.deref-event-items.result.now c.loop-event.event-index c.loop-event-test.false) here.1 in
    IfOk-weaker c.with_stretch-2.result _ _
    (λ sum is. earn-ends c.args.self.now.kept c.args.operator.now c.args.info ending c.args.ratio.now c.args.value can c.loop-event.begin.now c.loop-event.stake c.loop-event.total here.0 ends sum
    (sym (ap (λ m. stretch_added c.loop-event.total c.loop-event.begin.now.ratio c.args.ratio.now m) c.smaller.ensures) ∙ is))
    c.with_stretch-2.ensures.sum

pub returns-clause-fault : goal.returns-clause-fault
returns-clause-fault g c ending can =
    let here = c.loop-event.invariant.earning ending can in
    let ends = subst (λ rest. IsEarning c.args.self.now.kept c.args.operator.now c.args.info ending c.args.ratio.now c.args.value rest c.loop-event.begin.now c.loop-event.stake c.loop-event.total here.0)
    (none-left c.deref-event-items.result.now c.loop-event.event-index c.loop-event-test.false) here.1 in
    err_weaker c.with_stretch-2.result
    (λ fault. excess-of (stretch_added c.loop-event.total c.loop-event.begin.now.ratio c.args.ratio.now c.smaller.result) _ fault
    (λ over is. earn-over c.args.self.now.kept c.args.operator.now c.args.info ending c.args.ratio.now c.args.value can c.loop-event.begin.now c.loop-event.stake c.loop-event.total here.0 ends over
    (sym (ap (λ m. stretch_added c.loop-event.total c.loop-event.begin.now.ratio c.args.ratio.now m) c.smaller.ensures) ∙ is)))
    c.with_stretch-2.ensures.fault
