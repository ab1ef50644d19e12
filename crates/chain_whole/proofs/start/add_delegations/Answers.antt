use Rattle.std.proofs.Common.{◌≡◌, ◌<◌, ◌≤◌, List, length, get_or, refl, subst, arith}
use Rattle.base_messages.specs.declared.genesis.GenesisDelegation.{GenesisDelegation}
use Rattle.chain_modules.proofs.MarkLemmas.{then_on}
use Rattle.chain_transactions.proofs.MessageLemmas.{drop_end}
use Rattle.rule_machine.specs.{GenesisState.delegation_added, Listening.overheard_told}
use Rattle.chain_whole.proofs.HearLemmas.{step_heard, steps_heard}
use Rattle.chain_whole.proofs.AddingLemmas.{none_added, have_joined, may_join, one_joined}
use Rattle.chain_whole.proofs.start.add_delegations.Goals as goal

pub loop-d-init : goal.loop-d-init
loop-d-init g c = (none_added c.args.genesis.now c.args.modules.now c.requires.adding, λ c s k. (s, k, refl))

pub add_delegation-requires : goal.add_delegation-requires
add_delegation-requires g c = record { next = may_join c.args.genesis.now c.requires.good c.loop-d.d-index c.d-item.result c.args.modules.now c.loop-d.modules (subst (λ (l : List GenesisDelegation). c.loop-d.d-index < length l) c.as_slice-delegations.ensures c.loop-d-test.true) (subst (λ (l : List GenesisDelegation). c.d-item.result ≡ get_or l c.loop-d.d-index c.d-item.result) c.as_slice-delegations.ensures c.d-item.is) c.loop-d.invariant.0 }

pub loop-d-preserved : goal.loop-d-preserved
loop-d-preserved g c = (
  one_joined c.args.genesis.now c.requires.good c.loop-d.d-index c.d-item.result c.args.modules.now c.loop-d.modules (subst (λ (l : List GenesisDelegation). c.loop-d.d-index < length l) c.as_slice-delegations.ensures c.loop-d-test.true) (subst (λ (l : List GenesisDelegation). c.d-item.result ≡ get_or l c.loop-d.d-index c.d-item.result) c.as_slice-delegations.ensures c.d-item.is) c.loop-d.invariant.0 c.add_delegation.new.modules c.in_ok-add_delegation.ensures.scene c.in_ok-add_delegation.ensures.added c.add_delegation.ensures.go_on,
  step_heard g.E.Extra.heard (delegation_added (overheard_told g.E.Extra.hears)) c.args.genesis.now.delegations c.loop-d.d-index c.d-item.result c.args.modules.now c.loop-d.modules c.add_delegation.new.modules (subst (λ (l : List GenesisDelegation). c.loop-d.d-index < length l) c.as_slice-delegations.ensures c.loop-d-test.true) (subst (λ (l : List GenesisDelegation). c.d-item.result ≡ get_or l c.loop-d.d-index c.d-item.result) c.as_slice-delegations.ensures c.d-item.is) c.loop-d.invariant.1 c.in_ok-add_delegation.ensures.heard,
)

pub returns-in_err-add_delegation-clause-go_on : goal.returns-in_err-add_delegation-clause-go_on
returns-in_err-add_delegation-clause-go_on g c = then_on c.args.modules.now c.loop-d.modules c.add_delegation.new.modules c.loop-d.invariant.0.go_on c.add_delegation.ensures.go_on

pub returns-clause-added : goal.returns-clause-added
returns-clause-added g c =
    let place = c.loop-d.d-index in
    let most : place ≤ length c.args.genesis.now.delegations = subst (λ (l : List GenesisDelegation). place ≤ length l) c.as_slice-delegations.ensures (omega (arith, c.loop-d.auto.d-index-end)) in
    let least : length c.args.genesis.now.delegations ≤ place = subst (λ (l : List GenesisDelegation). length l ≤ place) c.as_slice-delegations.ensures (omega (arith, c.loop-d-test.false)) in
    have_joined c.args.genesis.now place c.args.modules.now c.loop-d.modules (drop_end c.args.genesis.now.delegations place most least) c.loop-d.invariant.0

pub returns-clause-heard : goal.returns-clause-heard
returns-clause-heard g c =
    let place = c.loop-d.d-index in
    let most : place ≤ length c.args.genesis.now.delegations = subst (λ (l : List GenesisDelegation). place ≤ length l) c.as_slice-delegations.ensures (omega (arith, c.loop-d.auto.d-index-end)) in
    let least : length c.args.genesis.now.delegations ≤ place = subst (λ (l : List GenesisDelegation). length l ≤ place) c.as_slice-delegations.ensures (omega (arith, c.loop-d-test.false)) in
    steps_heard g.E.Extra.heard (delegation_added (overheard_told g.E.Extra.hears)) c.args.genesis.now.delegations place c.args.modules.now c.loop-d.modules (drop_end c.args.genesis.now.delegations place most least) c.loop-d.invariant.1
