use Rattle.std.proofs.Common.{◌≡◌, Err, rules, sym, subst}
use Rattle.base_roles.specs.Flow.{◌>>=◌}
use Rattle.rule_modules.specs.Chain.{end_block, maturing_step, redelegations_step, set_step, unbondings_step}
use Rattle.chain_blocks.{specs.Answers.TakesStep, proofs.{HearLemmas.end_hears, TakesLemmas.{stop_takes, then_takes}}}
use Rattle.chain_blocks.proofs.ending.end.Goals as goal

pub returns-in_err-make_set-clause-takes : goal.returns-in_err-make_set-clause-takes
returns-in_err-make_set-clause-takes g c =
    let fault = c.in_err-make_set.field-0.0 in
    let given : c.from_residual.result ≡ Err fault = search rules in
    subst (TakesStep end_block c.args.modules.now c.make_set.new.modules) (sym given)
    (stop_takes set_step (λ w1. maturing_step w1 >>= λ w2. unbondings_step w2 >>= λ w3. redelegations_step w3) c.args.modules.now c.make_set.new.modules fault c.in_err-make_set.ensures.takes)

pub returns-in_err-mature-clause-takes : goal.returns-in_err-mature-clause-takes
returns-in_err-mature-clause-takes g c =
    let fault = c.in_err-mature.field-0.0 in
    let given : c.from_residual-in_err-mature.result ≡ Err fault = search rules in
    subst (TakesStep end_block c.args.modules.now c.mature.new.modules) (sym given)
    (then_takes set_step (λ w1. maturing_step w1 >>= λ w2. unbondings_step w2 >>= λ w3. redelegations_step w3) c.args.modules.now c.make_set.new.modules c.mature.new.modules (Err fault) c.in_ok-make_set.ensures.takes
    (stop_takes maturing_step (λ w2. unbondings_step w2 >>= λ w3. redelegations_step w3) c.make_set.new.modules c.mature.new.modules fault c.in_err-mature.ensures.takes))

pub returns-in_err-pay_unbondings-clause-takes : goal.returns-in_err-pay_unbondings-clause-takes
returns-in_err-pay_unbondings-clause-takes g c =
    let fault = c.in_err-pay_unbondings.field-0.0 in
    let given : c.from_residual-in_err-pay_unbondings.result ≡ Err fault = search rules in
    subst (TakesStep end_block c.args.modules.now c.pay_unbondings.new.modules) (sym given)
    (then_takes set_step (λ w1. maturing_step w1 >>= λ w2. unbondings_step w2 >>= λ w3. redelegations_step w3) c.args.modules.now c.make_set.new.modules c.pay_unbondings.new.modules (Err fault) c.in_ok-make_set.ensures.takes
    (then_takes maturing_step (λ w2. unbondings_step w2 >>= λ w3. redelegations_step w3) c.make_set.new.modules c.mature.new.modules c.pay_unbondings.new.modules (Err fault) c.in_ok-mature.ensures.takes
    (stop_takes unbondings_step (λ w3. redelegations_step w3) c.mature.new.modules c.pay_unbondings.new.modules fault c.in_err-pay_unbondings.ensures.takes)))

pub returns-clause-takes : goal.returns-clause-takes
returns-clause-takes g c =
    then_takes set_step (λ w1. maturing_step w1 >>= λ w2. unbondings_step w2 >>= λ w3. redelegations_step w3) c.args.modules.now c.make_set.new.modules c.end_redelegations.new.modules c.end_redelegations.result c.in_ok-make_set.ensures.takes
    (then_takes maturing_step (λ w2. unbondings_step w2 >>= λ w3. redelegations_step w3) c.make_set.new.modules c.mature.new.modules c.end_redelegations.new.modules c.end_redelegations.result c.in_ok-mature.ensures.takes
    (then_takes unbondings_step (λ w3. redelegations_step w3) c.mature.new.modules c.pay_unbondings.new.modules c.end_redelegations.new.modules c.end_redelegations.result c.in_ok-pay_unbondings.ensures.takes c.end_redelegations.ensures.takes))

pub returns-clause-heard : goal.returns-clause-heard
returns-clause-heard g c =
    end_hears g.E.Extra.heard g.E.Extra.hears c.args.modules.now c.make_set.new.modules c.mature.new.modules c.pay_unbondings.new.modules c.end_redelegations.new.modules c.end_redelegations.result c.in_ok-make_set.ensures.heard c.in_ok-mature.ensures.heard
    c.in_ok-pay_unbondings.ensures.takes.leads c.pay_unbondings.ensures.listener c.end_redelegations.ensures.takes.leads c.end_redelegations.ensures.listener
