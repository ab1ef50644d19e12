use Rattle.rule_machine.specs.{GenesisState.validator_added, Listening.overheard_told}
use Rattle.chain_whole.proofs.{HearLemmas.StepsHeard, AddingLemmas.EnteredSoFar}
use Rattle.chain_whole.proofs.start.add_validators.Given as goal

abbrev pub invariant-loop-v : goal.invariant-loop-v
invariant-loop-v g l = EnteredSoFar l.genesis l.v-index l.initial.modules l.modules
    × StepsHeard g.E.Extra.heard (validator_added (overheard_told g.E.Extra.hears)) l.genesis.validators l.v-index l.initial.modules l.modules
