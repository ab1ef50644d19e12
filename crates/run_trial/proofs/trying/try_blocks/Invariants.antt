use Rattle.std.proofs.Common.{◌≡◌, Ok}
use Rattle.rule_machine.specs.{GenesisState.{Start, chain_started}, Machine.run_of}
use Rattle.chain_modules.specs.Kept.{StandsFor}
use Rattle.run_generated.specs.Input.{blocks_of, first_genesis}
use Rattle.run_trial.specs.Trying.{IsOnTheWay}
use Rattle.run_trial.proofs.trying.try_blocks.Given as goal

abbrev pub invariant-loop-before : goal.invariant-loop-before
invariant-loop-before l =
    (s : Start) → chain_started first_genesis ≡ Ok s → StandsFor l.initial.chain.kept s.state
    → IsOnTheWay (run_of (blocks_of l.seed l.count) s.state) l.before l.count l.generator l.counts l.chain.kept
