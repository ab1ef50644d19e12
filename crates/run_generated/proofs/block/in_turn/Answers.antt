use Rattle.std.proofs.Common.{◌∙◌}
use Rattle.run_generated.proofs.DrawLemmas.{none_drawn, one_drawn, state_drawn, values_drawn}
use Rattle.run_generated.proofs.block.in_turn.Goals as goal

pub loop-number-init : goal.loop-number-init
loop-number-init g c = none_drawn g.T.FromDraws.drawing _ c.args.many c.args.generator.now c.new-list.ensures.items

pub loop-number-preserved : goal.loop-number-preserved
loop-number-preserved g c =
    one_drawn g.T.FromDraws.drawing _ _ c.loop-number.number c.args.many _ _ _ _ c.loop-number-test.true
    c.in_ok-value.ensures.value c.in_ok-value.ensures.state c.in_ok-push.ensures.items c.loop-number.invariant

pub returns-clause-value : goal.returns-clause-value
returns-clause-value g c =
    c.of.ensures ∙ values_drawn g.T.FromDraws.drawing _ c.loop-number.number c.args.many _ _ c.loop-number-test.false c.loop-number.invariant

pub returns-clause-state : goal.returns-clause-state
returns-clause-state g c =
    state_drawn g.T.FromDraws.drawing _ c.loop-number.number c.args.many _ _ c.loop-number-test.false c.loop-number.invariant
