use Rattle.std.proofs.Common.{◌∙◌, ap, ◌∷◌, [], ◌++◌}
use Rattle.run_generated.proofs.DrawLemmas.{all_made, none_made, one_made}
use Rattle.run_generated.proofs.genesis.first.Goals as goal

pub loop-number-init : goal.loop-number-init
loop-number-init g c = none_made g.T.Numbered.value_at _ c.args.many c.new-list.ensures.items

pub loop-number-preserved : goal.loop-number-preserved
loop-number-preserved g c =
    one_made g.T.Numbered.value_at _ _ c.loop-number.number c.args.many _ c.loop-number-test.true
    (c.in_ok-push.ensures.items ∙ ap (λ v. c.loop-number.list.items ++ v ∷ []) c.in_ok-value.ensures.value) c.loop-number.invariant

pub returns-clause-list : goal.returns-clause-list
returns-clause-list g c =
    c.of.ensures ∙ all_made g.T.Numbered.value_at _ c.loop-number.number c.args.many _ c.loop-number-test.false c.loop-number.invariant
