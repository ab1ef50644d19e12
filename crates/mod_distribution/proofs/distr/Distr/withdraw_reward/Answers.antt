use Rattle.std.proofs.Common.{◌≡◌, sym, subst, rules, Err}
use Rattle.base_roles.specs.{declared.refusal.Refusal.TheVariants.Overflow, Ground.seen, Flow.stopping}
use Rattle.base_roles.specs.Stops.{stop_of_hook}
use Rattle.rule_modules.specs.Distribution.{reward_renewed}
use Rattle.mod_distribution.{specs.Calls.CarriesOutOrRefuses, proofs.CarryLemmas.{message, message_fault}}
use Rattle.mod_distribution.proofs.{ReadyLemmas.{can_be_paid, has_started}, StandLemmas.renewed_stands}
use Rattle.mod_distribution.proofs.WithdrawLemmas.{renewed_carried, renewed_unpaid, renewed_unstarted}
use Rattle.mod_distribution.proofs.distr.Distr.withdraw_reward.Goals as goal

pub take_reward-requires-clause-started : goal.take_reward-requires-clause-started
take_reward-requires-clause-started g c =
    let m = c.requires.may in
    has_started c.args.self.now.kept m.0 (seen g.B.Bank.holdings c.args.g.now) m.1.1.0 m.1.0 m.1.1.1.stand c.args.delegator.now c.args.v.now.operator m.1.1.1.needs.0

pub take_reward-requires-clause-shares : goal.take_reward-requires-clause-shares
take_reward-requires-clause-shares g c = let r = c.requires.may.1.1.1 in record { tokens = r.tokens; some = r.needs.1; most = r.needs.2 }

pub take_reward-requires-clause-paid : goal.take_reward-requires-clause-paid
take_reward-requires-clause-paid g c = let m = c.requires.may in can_be_paid c.args.self.now.kept m.0 (seen g.B.Bank.holdings c.args.g.now) m.1.1.0 m.1.0 m.1.1.1.stand

pub start-requires-clause-shares : goal.start-requires-clause-shares
start-requires-clause-shares g c = let r = c.requires.may.1.1.1 in record { tokens = r.tokens; some = r.needs.1; most = r.needs.2 }

pub returns-in_err-coins-clause-withdrawn : goal.returns-in_err-coins-clause-withdrawn
returns-in_err-coins-clause-withdrawn g c = λ d h.
    let val = c.args.v.now in
    let who = c.args.delegator.now in
    let v = seen g.B.Bank.holdings c.args.g.now in
    let k = c.take_reward.new.self.kept in
    let w = seen g.B.Bank.holdings c.take_reward.new.g in
    let fault = c.in_err-coins.field-0.0 in
    let given : c.from_residual.result ≡ Err (stop_of_hook fault) = search rules in
    subst (CarriesOutOrRefuses (stopping Overflow (reward_renewed val who c.args.shares d v)) k w) (sym given)
    (message_fault k w (reward_renewed val who c.args.shares d v) fault (renewed_unpaid val who c.args.shares d v k k w w fault (c.in_err-coins.ensures.withdrawn d h)))

pub returns-clause-withdrawn : goal.returns-clause-withdrawn
returns-clause-withdrawn g c = λ d h.
    let val = c.args.v.now in
    let who = c.args.delegator.now in
    let v = seen g.B.Bank.holdings c.args.g.now in
    let k2 = c.start.new.self.kept in
    let u2 = seen g.B.Bank.holdings c.start.new.g in
    message k2 u2 (reward_renewed val who c.args.shares d v) c.in_ok-coins.coins
    (renewed_carried val who c.args.shares d v c.take_reward.new.self.kept k2 (seen g.B.Bank.holdings c.take_reward.new.g) u2 c.in_ok-coins.coins (c.in_ok-coins.ensures.withdrawn d h) c.in_ok-start.ensures.told)

pub returns-clause-stand : goal.returns-clause-stand
returns-clause-stand g c = λ l s started.
    let val = c.args.v.now in
    let who = c.args.delegator.now in
    let v = seen g.B.Bank.holdings c.args.g.now in
    let k2 = c.start.new.self.kept in
    let u2 = seen g.B.Bank.holdings c.start.new.g in
    renewed_stands val who c.args.shares c.args.self.now.kept k2 v u2 c.in_ok-coins.coins l started
    (λ d h. renewed_carried val who c.args.shares d v c.take_reward.new.self.kept k2 (seen g.B.Bank.holdings c.take_reward.new.g) u2 c.in_ok-coins.coins (c.in_ok-coins.ensures.withdrawn d h) c.in_ok-start.ensures.told) s

pub returns-in_err-start-clause-withdrawn : goal.returns-in_err-start-clause-withdrawn
returns-in_err-start-clause-withdrawn g c = λ d h.
    let val = c.args.v.now in
    let who = c.args.delegator.now in
    let v = seen g.B.Bank.holdings c.args.g.now in
    let k = c.take_reward.new.self.kept in
    let u = seen g.B.Bank.holdings c.take_reward.new.g in
    let k2 = c.start.new.self.kept in
    let u2 = seen g.B.Bank.holdings c.start.new.g in
    let fault = c.in_err-start.field-0.0 in
    let given : c.from_residual-in_err-start.result ≡ Err (stop_of_hook fault) = search rules in
    subst (CarriesOutOrRefuses (stopping Overflow (reward_renewed val who c.args.shares d v)) k2 u2) (sym given)
    (message_fault k2 u2 (reward_renewed val who c.args.shares d v) fault (renewed_unstarted val who c.args.shares d v k k2 u u2 c.in_ok-coins.coins fault (c.in_ok-coins.ensures.withdrawn d h) c.in_err-start.ensures.told))
