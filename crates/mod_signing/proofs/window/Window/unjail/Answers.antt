use Rattle.std.proofs.Common.{rules, ◌≡◌, ◌∙◌, Ok, Err, refl, sym, ap, subst, is_some}
use Rattle.base_roles.specs.declared.faults.MessageFault.TheVariants as stop
use Rattle.base_roles.specs.{Ground.seen, declared.refusal.Refusal.TheVariants.{NoValidator, NoSelfDelegation}}
use Rattle.rule_modules.specs.{Answers.AnswersHeld, Window.unjailed}
use Rattle.mod_signing.specs.Calls.{OnRefusal}
use Rattle.mod_signing.proofs.UnjailLemmas.{cleared, done, leaves, own-few, own-some, own-tokens, refused-first, refused-then, refuses, unjail-nobody, unjail-nothing, wants}
use Rattle.mod_signing.proofs.window.Window.unjail.Goals as goal

pub returns-in-None-clause-told : goal.returns-in-None-clause-told
returns-in-None-clause-told g c = λ i keeps. refuses (unjailed c.args.operator.now i c.args.staking.now.staked (seen g.B.Bank.holdings c.args.g.now)) c.args.staking.now.staked (seen g.B.Bank.holdings c.args.g.now) NoValidator (unjail-nobody c.args.operator.now i c.args.staking.now.staked (seen g.B.Bank.holdings c.args.g.now) (sym c.in-None.ensures.value))

pub returns-in-None-shares_of-clause-told : goal.returns-in-None-shares_of-clause-told
returns-in-None-shares_of-clause-told g c = λ i keeps. refuses (unjailed c.args.operator.now i c.args.staking.now.staked (seen g.B.Bank.holdings c.args.g.now)) c.args.staking.now.staked (seen g.B.Bank.holdings c.args.g.now) NoSelfDelegation (unjail-nothing c.args.operator.now i c.args.staking.now.staked (seen g.B.Bank.holdings c.args.g.now) c.in-Some.v.now (sym c.in-Some.ensures.value) (sym c.in-None-shares_of.ensures))

pub is_free_to_leave-requires : goal.is_free_to_leave-requires
is_free_to_leave-requires g c = record {
  tokens = own-tokens c.args.staking.now.staked c.requires.sound c.args.operator.now c.in-Some.v.now (sym c.in-Some.ensures.value) c.in-Some-shares_of.held (sym c.in-Some-shares_of.ensures);
  some = own-some c.args.staking.now.staked c.requires.sound c.args.operator.now c.in-Some.v.now (sym c.in-Some.ensures.value) c.in-Some-shares_of.held (sym c.in-Some-shares_of.ensures);
  part = own-few c.args.staking.now.staked c.requires.sound c.args.operator.now c.in-Some.v.now (sym c.in-Some.ensures.value) c.in-Some-shares_of.held (sym c.in-Some-shares_of.ensures);
}

pub clear_jail-requires-clause-known : goal.clear_jail-requires-clause-known
clear_jail-requires-clause-known g c = ap is_some (sym c.in-Some.ensures.value)

pub returns-in_err-is_free_to_leave-clause-told : goal.returns-in_err-is_free_to_leave-clause-told
returns-in_err-is_free_to_leave-clause-told g c = λ i keeps.
    let why = c.in_err-is_free_to_leave.field-0.0 in
    let given : c.from_residual.result ≡ Err (stop.Refused why) = search rules in
    subst (AnswersHeld (unjailed c.args.operator.now i c.args.staking.now.staked (seen g.B.Bank.holdings c.args.g.now)) c.args.staking.now.staked (seen g.B.Bank.holdings c.args.g.now)) (sym given) (refuses (unjailed c.args.operator.now i c.args.staking.now.staked (seen g.B.Bank.holdings c.args.g.now)) c.args.staking.now.staked (seen g.B.Bank.holdings c.args.g.now) why (refused-first c.args.operator.now i c.args.staking.now.staked (seen g.B.Bank.holdings c.args.g.now) c.in-Some.v.now c.in-Some-shares_of.held (sym c.in-Some.ensures.value) (sym c.in-Some-shares_of.ensures) why c.in_err-is_free_to_leave.ensures))

pub returns-in_err-may_leave-clause-told : goal.returns-in_err-may_leave-clause-told
returns-in_err-may_leave-clause-told g c = λ i keeps.
    let why = c.in_err-may_leave.field-0.0 in
    let given : c.from_residual-in_err-may_leave.result ≡ Err (stop.Refused why) = search rules in
    subst (AnswersHeld (unjailed c.args.operator.now i c.args.staking.now.staked (seen g.B.Bank.holdings c.args.g.now)) c.args.staking.now.staked (seen g.B.Bank.holdings c.args.g.now)) (sym given) (refuses (unjailed c.args.operator.now i c.args.staking.now.staked (seen g.B.Bank.holdings c.args.g.now)) c.args.staking.now.staked (seen g.B.Bank.holdings c.args.g.now) why (refused-then c.args.operator.now i c.args.staking.now.staked (seen g.B.Bank.holdings c.args.g.now) c.in-Some.v.now c.in-Some-shares_of.held (sym c.in-Some.ensures.value) (sym c.in-Some-shares_of.ensures) c.in_ok-is_free_to_leave.ensures why
    (c.in_err-may_leave.ensures.told c.args.g.now.ctx.params.signed_blocks_window i keeps)))

pub returns-in_err-clear_jail-clause-told : goal.returns-in_err-clear_jail-clause-told
returns-in_err-clear_jail-clause-told g c = λ i keeps.
    let given : c.from_residual-in_err-clear_jail.result ≡ Err stop.NoMemory = search rules in
    let v2 = seen g.B.Bank.holdings (record c.args.g.now { facts = c.clear_jail.new.facts }) in
    subst (AnswersHeld (unjailed c.args.operator.now i c.args.staking.now.staked (seen g.B.Bank.holdings c.args.g.now)) c.clear_jail.new.self.staked v2) (sym given) (wants (unjailed c.args.operator.now i c.args.staking.now.staked (seen g.B.Bank.holdings c.args.g.now)) _ c.clear_jail.new.self.staked v2 (leaves c.args.operator.now i c.args.staking.now.staked (seen g.B.Bank.holdings c.args.g.now) c.in-Some.v.now c.in-Some-shares_of.held (sym c.in-Some.ensures.value) (sym c.in-Some-shares_of.ensures) c.in_ok-is_free_to_leave.ensures
    (c.in_ok-may_leave.ensures.told c.args.g.now.ctx.params.signed_blocks_window i keeps)))

pub returns-clause-told : goal.returns-clause-told
returns-clause-told g c = λ i keeps.
    let v = seen g.B.Bank.holdings c.args.g.now in
    let is = leaves c.args.operator.now i c.args.staking.now.staked (seen g.B.Bank.holdings c.args.g.now) c.in-Some.v.now c.in-Some-shares_of.held (sym c.in-Some.ensures.value) (sym c.in-Some-shares_of.ensures) c.in_ok-is_free_to_leave.ensures (c.in_ok-may_leave.ensures.told c.args.g.now.ctx.params.signed_blocks_window i keeps) in
    let staked = c.in_ok-clear_jail.ensures.cleared ∙ cleared c.args.operator.now i c.args.staking.now.staked (seen g.B.Bank.holdings c.args.g.now) c.in-Some.v.now (sym c.in-Some.ensures.value) in
    done (unjailed c.args.operator.now i c.args.staking.now.staked (seen g.B.Bank.holdings c.args.g.now)) c.clear_jail.new.self.staked (record v { facts = c.clear_jail.new.facts }) (is ∙ sym (λ j. Ok (tt, staked j, record v { facts = c.in_ok-clear_jail.ensures.told j })))

pub returns-in_err-is_free_to_leave-clause-refused : goal.returns-in_err-is_free_to_leave-clause-refused
returns-in_err-is_free_to_leave-clause-refused g c =
    let given : c.from_residual.result ≡ Err (stop.Refused c.in_err-is_free_to_leave.field-0.0) = search rules in
    subst (λ r. OnRefusal r ((c.args.g.now ≡ c.args.g.now) × (c.args.staking.now ≡ c.args.staking.now))) (sym given) (refl, refl)

pub returns-in_err-may_leave-clause-refused : goal.returns-in_err-may_leave-clause-refused
returns-in_err-may_leave-clause-refused g c =
    let given : c.from_residual-in_err-may_leave.result ≡ Err (stop.Refused c.in_err-may_leave.field-0.0) = search rules in
    subst (λ r. OnRefusal r ((c.args.g.now ≡ c.args.g.now) × (c.args.staking.now ≡ c.args.staking.now))) (sym given) (refl, refl)

pub returns-in_err-clear_jail-clause-refused : goal.returns-in_err-clear_jail-clause-refused
returns-in_err-clear_jail-clause-refused g c =
    let given : c.from_residual-in_err-clear_jail.result ≡ Err stop.NoMemory = search rules in
    subst (λ r. OnRefusal r ((record c.args.g.now { facts = c.clear_jail.new.facts } ≡ c.args.g.now) × (c.clear_jail.new.self ≡ c.args.staking.now))) (sym given) tt
