-- What is known of the generated input, and of what runs over it come to.
use Rattle.std.specs.Prelude.{◌≡◌, ℕ, ◌≤◌, List, ◌∷◌, ◌++◌, Result, Ok}
use Rattle.base_bech32.specs.declared.form.Form.{Form}
use Rattle.base_roles.specs.declared.refusal.Refusal.{Refusal}
use Rattle.base_roles.specs.Flow.{◌>>=◌}
use Rattle.base_messages.specs.declared.block.Block.{Block}
use Rattle.base_messages.specs.declared.genesis.Genesis.{Genesis}
use Rattle.base_messages.specs.declared.report.BlockReport.{BlockReport}
use Rattle.rule_machine.specs.GenesisState.{Start, chain_started}
use Rattle.rule_machine.specs.Machine.{run_of}
use Rattle.rule_machine.specs.Promises.{AreInput, IsGoodGenesis}
use Rattle.run_generated.specs.Input.{blocks_of, first_genesis}
use Rattle.run_generated.specs.Reading.{IsReadAs}
use Rattle.run_generated.specs.Writing.{generated_text}
use Rattle.run_trial.specs.Summary.{HasRoom, Stopped, counts_of, run_outcome}
use Rattle.run_trial.specs.Trial.{trial_of}

-- No condition keeps the genesis from starting a chain, and the blocks have coins as their types keep them.
pub record GeneratedIsInput : Type 0 where
  pub genesis : IsGoodGenesis first_genesis
  pub blocks : (seed many : ℕ) → many ≤ 100000 → AreInput (blocks_of seed many)

-- Behind the reports of a run over generated blocks there is room for the counts of each next one.
abbrev pub CountsHaveRoom : Type 0
CountsHaveRoom = (seed many : ℕ) (start : Start) (before after : List BlockReport) (report : BlockReport)
    → many ≤ 100000 → chain_started first_genesis ≡ Ok start → (run_of (blocks_of seed many) start.state).reports ≡ before ++ report ∷ after
    → HasRoom (counts_of before) report

-- What a text comes to that is read as a genesis and blocks: the summary of the machine on these, or the block at which it stops.
pub record ComesTo (f : Form) (text : List ℕ) (outcome : Result (Result (List ℕ) Stopped) Refusal) : Type 0 where
  pub genesis : Genesis
  pub blocks : List Block
  pub reading : IsReadAs f text genesis blocks
  pub outcome_is : outcome ≡ (chain_started genesis >>= λ s. Ok (run_outcome (run_of blocks s.state)))

-- The summary of a trial is that of the lines of the generated input.
abbrev pub TrialIsOfItsLines : Type 0
TrialIsOfItsLines = (f : Form) (seed many : ℕ) → many ≤ 100000 → ComesTo f (generated_text f seed many) (trial_of seed many)
