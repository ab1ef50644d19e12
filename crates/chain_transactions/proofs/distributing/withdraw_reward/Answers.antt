use Rattle.std.proofs.Common.{◌∙◌, Ok, sym, ap, subst}
use Rattle.std.proofs.lemmas.Result.{err_from_is_err_and}
use Rattle.base_roles.specs.Stops.{stop_of_hook}
use Rattle.rule_modules.specs.Effects.{withdraw_reward}
use Rattle.chain_modules.{specs.Kept.kept_of, proofs.{MarkLemmas.then_on, SceneLemmas.ground_kept}}
use Rattle.chain_modules.proofs.StandLemmas.{whole_same}
use Rattle.chain_transactions.{specs.Answers.MessageEnds, proofs.{AskLemmas.asked_fits, FeeLemmas.steady_then}}
use Rattle.chain_transactions.proofs.{HearLemmas.reward_hears, MessageLemmas.wants_behind}
use Rattle.chain_transactions.proofs.distributing.withdraw_reward.Goals as goal

pub renew-requires-clause-asked : goal.renew-requires-clause-asked
renew-requires-clause-asked g c = sym c.in_ok-v.ensures

pub hear_start-requires-clause-in_order : goal.hear_start-requires-clause-in_order
hear_start-requires-clause-in_order g c = let s = c.in_ok-renew.ensures.ends.steady in ground_kept c.renew.new.modules s.state s.stands.keeps s.stands.sound

pub hear_start-requires-clause-some : goal.hear_start-requires-clause-some
hear_start-requires-clause-some g c =
    let s = c.requires.steady in
    let m = c.args.m.now in
    (asked_fits c.args.modules.now s.state s.stands.keeps s.stands.sound m.delegator m.validator (c.in_ok-v.v, c.in_ok-v.shares) (sym c.in_ok-v.ensures)).some

pub hear_start-requires-clause-most : goal.hear_start-requires-clause-most
hear_start-requires-clause-most g c =
    let s = c.requires.steady in
    let m = c.args.m.now in
    (asked_fits c.args.modules.now s.state s.stands.keeps s.stands.sound m.delegator m.validator (c.in_ok-v.v, c.in_ok-v.shares) (sym c.in_ok-v.ensures)).most

pub hear_start-requires-clause-tokens : goal.hear_start-requires-clause-tokens
hear_start-requires-clause-tokens g c =
    let s = c.requires.steady in
    let m = c.args.m.now in
    (asked_fits c.args.modules.now s.state s.stands.keeps s.stands.sound m.delegator m.validator (c.in_ok-v.v, c.in_ok-v.shares) (sym c.in_ok-v.ensures)).tokens

pub returns-in_err-hear_start-clause-ends : goal.returns-in_err-hear_start-clause-ends
returns-in_err-hear_start-clause-ends g c =
    let m = c.args.m.now in
    let r = c.from_residual-in_err-hear_start in
    let e = err_from_is_err_and r.result r.ensures.1 in
    rw e.1 (record {
      ends = λ p s. wants_behind (withdraw_reward m.delegator m.validator p) (kept_of c.renew.new.modules) (kept_of c.hear_start.new.modules) e.0 (e.2 ∙ ap stop_of_hook c.in_err-hear_start.ensures.fault) (c.in_ok-renew.ensures.ends.ends p s);
      steady = tt;
      go_on = then_on c.args.modules.now c.renew.new.modules c.hear_start.new.modules c.renew.ensures.ends.go_on c.hear_start.ensures.go_on;
    })

pub returns-clause-ends : goal.returns-clause-ends
returns-clause-ends g c =
    let m = c.args.m.now in
    let s = c.in_ok-renew.ensures.ends.steady in
    record {
      ends = λ p k. subst (λ x. MessageEnds (withdraw_reward m.delegator m.validator p) x (Ok tt)) (sym c.in_ok-hear_start.ensures.kept) (c.in_ok-renew.ensures.ends.ends p k);
      steady = steady_then c.renew.new.modules c.hear_start.new.modules s c.hear_start.ensures.go_on s.state (whole_same (kept_of c.renew.new.modules) (kept_of c.hear_start.new.modules) s.state c.in_ok-hear_start.ensures.kept s.stands);
      go_on = then_on c.args.modules.now c.renew.new.modules c.hear_start.new.modules c.renew.ensures.ends.go_on c.hear_start.ensures.go_on;
    }

pub returns-clause-heard : goal.returns-clause-heard
returns-clause-heard g c =
    let m = c.args.m.now in
    reward_hears g.E.Extra.heard g.E.Extra.hears c.args.modules.now c.renew.new.modules c.hear_start.new.modules m.delegator m.validator (c.in_ok-v.v, c.in_ok-v.shares) (sym c.in_ok-v.ensures) c.in_ok-renew.ensures.ends.ends c.renew.ensures.listener
    c.in_ok-hear_start.ensures.kept c.in_ok-hear_start.ensures.heard
