-- A small state that a genesis starts, and that is sound: so soundness can be met.
use Rattle.std.specs.Prelude.{[], ◌∷◌, IsOkAnd}
use Rattle.base_messages.specs.declared.genesis.Genesis.{Genesis}
use Rattle.rule_modules.specs.Fixtures.{params, time_of}
use Rattle.rule_modules.specs.Sound.{IsSound}
use Rattle.rule_machine.specs.GenesisState.{chain_started}
use Rattle.rule_histories.specs.WholeRows.{holds, operates, delegates}

-- one validator, to which its operator delegates 1,000,000 and another 2,000,000; a third has 1,000
abbrev pub one_validator : Genesis
one_validator = record {
  time = time_of 0;
  params = params;
  accounts = holds 3 1000 ∷ [];
  validators = operates 1 0 ∷ [];
  delegations = delegates 1 1 1000000 ∷ delegates 2 1 2000000 ∷ [];
}

-- it starts a chain, whose state is sound
abbrev pub SoundnessIsMet : Type 0
SoundnessIsMet = IsOkAnd (chain_started one_validator) (λ s. IsSound s.state)
