use Rattle.rule_machine.specs.{GenesisState.delegation_added, Listening.overheard_told}
use Rattle.chain_whole.proofs.{HearLemmas.StepsHeard, AddingLemmas.AddedSoFar}
use Rattle.chain_whole.proofs.start.add_delegations.Given as goal

abbrev pub invariant-loop-d : goal.invariant-loop-d
invariant-loop-d g l = AddedSoFar l.genesis l.d-index l.initial.modules l.modules
    × StepsHeard g.E.Extra.heard (delegation_added (overheard_told g.E.Extra.hears)) l.genesis.delegations l.d-index l.initial.modules l.modules
