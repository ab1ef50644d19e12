use Rattle.std.proofs.Common.{◌≡◌, ◌<◌, ◌≤◌, List, length, get_or, refl, subst, arith}
use Rattle.base_messages.specs.declared.genesis.GenesisValidator.{GenesisValidator}
use Rattle.chain_modules.proofs.MarkLemmas.{then_on}
use Rattle.chain_transactions.proofs.MessageLemmas.{drop_end}
use Rattle.rule_machine.specs.{GenesisState.validator_added, Listening.overheard_told}
use Rattle.chain_whole.proofs.HearLemmas.{step_heard, steps_heard}
use Rattle.chain_whole.proofs.AddingLemmas.{none_entered, have_entered, may_enter, one_entered}
use Rattle.chain_whole.proofs.start.add_validators.Goals as goal

pub loop-v-init : goal.loop-v-init
loop-v-init g c = (none_entered c.args.genesis.now c.args.modules.now c.requires.starts c.requires.empty, λ c s k. (s, k, refl))

pub add_validator-requires : goal.add_validator-requires
add_validator-requires g c = record { next = may_enter c.args.genesis.now c.loop-v.v-index c.v-item.result c.args.modules.now c.loop-v.modules (subst (λ (l : List GenesisValidator). c.loop-v.v-index < length l) c.as_slice-validators.ensures c.loop-v-test.true) (subst (λ (l : List GenesisValidator). c.v-item.result ≡ get_or l c.loop-v.v-index c.v-item.result) c.as_slice-validators.ensures c.v-item.is) c.loop-v.invariant.0 }

pub loop-v-preserved : goal.loop-v-preserved
loop-v-preserved g c = (
  one_entered c.args.genesis.now c.loop-v.v-index c.v-item.result c.args.modules.now c.loop-v.modules (subst (λ (l : List GenesisValidator). c.loop-v.v-index < length l) c.as_slice-validators.ensures c.loop-v-test.true) (subst (λ (l : List GenesisValidator). c.v-item.result ≡ get_or l c.loop-v.v-index c.v-item.result) c.as_slice-validators.ensures c.v-item.is) c.loop-v.invariant.0 c.add_validator.new.modules c.in_ok-add_validator.ensures.scene c.in_ok-add_validator.ensures.added c.add_validator.ensures.go_on,
  step_heard g.E.Extra.heard (validator_added (overheard_told g.E.Extra.hears)) c.args.genesis.now.validators c.loop-v.v-index c.v-item.result c.args.modules.now c.loop-v.modules c.add_validator.new.modules (subst (λ (l : List GenesisValidator). c.loop-v.v-index < length l) c.as_slice-validators.ensures c.loop-v-test.true) (subst (λ (l : List GenesisValidator). c.v-item.result ≡ get_or l c.loop-v.v-index c.v-item.result) c.as_slice-validators.ensures c.v-item.is) c.loop-v.invariant.1 c.in_ok-add_validator.ensures.heard,
)

pub returns-in_err-add_validator-clause-go_on : goal.returns-in_err-add_validator-clause-go_on
returns-in_err-add_validator-clause-go_on g c = then_on c.args.modules.now c.loop-v.modules c.add_validator.new.modules c.loop-v.invariant.0.go_on c.add_validator.ensures.go_on

pub returns-clause-added : goal.returns-clause-added
returns-clause-added g c =
    let place = c.loop-v.v-index in
    let most : place ≤ length c.args.genesis.now.validators = subst (λ (l : List GenesisValidator). place ≤ length l) c.as_slice-validators.ensures (omega (arith, c.loop-v.auto.v-index-end)) in
    let least : length c.args.genesis.now.validators ≤ place = subst (λ (l : List GenesisValidator). length l ≤ place) c.as_slice-validators.ensures (omega (arith, c.loop-v-test.false)) in
    have_entered c.args.genesis.now place c.args.modules.now c.loop-v.modules c.requires.starts (drop_end c.args.genesis.now.validators place most least) c.loop-v.invariant.0

pub returns-clause-heard : goal.returns-clause-heard
returns-clause-heard g c =
    let place = c.loop-v.v-index in
    let most : place ≤ length c.args.genesis.now.validators = subst (λ (l : List GenesisValidator). place ≤ length l) c.as_slice-validators.ensures (omega (arith, c.loop-v.auto.v-index-end)) in
    let least : length c.args.genesis.now.validators ≤ place = subst (λ (l : List GenesisValidator). length l ≤ place) c.as_slice-validators.ensures (omega (arith, c.loop-v-test.false)) in
    steps_heard g.E.Extra.heard (validator_added (overheard_told g.E.Extra.hears)) c.args.genesis.now.validators place c.args.modules.now c.loop-v.modules (drop_end c.args.genesis.now.validators place most least) c.loop-v.invariant.1
