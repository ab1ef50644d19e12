use Rattle.std.proofs.Common.{◌≡◌, ◌-◌, ap, subst, IfOk}
use Rattle.run_generated.specs.{Drawing.{in_turn, numbers_from}, Input.block_drawn}
use Rattle.run_generated.proofs.DrawLemmas.{all_passed, one_passed}
use Rattle.run_generated.proofs.by_place.block_at.Goals as goal

pub loop-before-init : goal.loop-before-init
loop-before-init c = ap (λ x. (in_turn block_drawn (numbers_from 1 (c.args.height - 1)) x).state) c.new-generator.ensures

pub loop-before-preserved : goal.loop-before-preserved
loop-before-preserved c =
    one_passed block_drawn c.loop-before.before c.args.height _ _ _ c.loop-before-test.true c.in_ok-block.ensures.state c.loop-before.invariant

pub returns-clause-block : goal.returns-clause-block
returns-clause-block c =
    subst (λ x. IfOk c.block-2.result (λ block. block ≡ (block_drawn c.args.height x).value))
    (all_passed block_drawn c.loop-before.before c.args.height _ _ c.loop-before-test.false c.loop-before.invariant) c.block-2.ensures.value
