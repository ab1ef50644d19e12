-- What the generated input comes to.
use Rattle.std.specs.Prelude.{ℕ, List, Result, Ok}
use Rattle.base_roles.specs.declared.refusal.Refusal.{Refusal}
use Rattle.base_roles.specs.Flow.{◌>>=◌}
use Rattle.rule_machine.specs.GenesisState.{chain_started}
use Rattle.rule_machine.specs.Machine.{run_of}
use Rattle.run_generated.specs.Input.{blocks_of, first_genesis}
use Rattle.run_trial.specs.Summary.{Stopped, run_outcome}

-- The summary of the machine on so many blocks that are drawn from a seed, or the block at which it stops. That the genesis
-- starts a chain is a row.
abbrev pub trial_of : ℕ → ℕ → Result (Result (List ℕ) Stopped) Refusal
trial_of seed many = chain_started first_genesis >>= λ s. Ok (run_outcome (run_of (blocks_of seed many) s.state))
