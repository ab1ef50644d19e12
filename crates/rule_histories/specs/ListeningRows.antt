-- Worked rows of what a listener hears: each call of a hook in its order, with how many facts of its part were told before it,
-- and behind each part how many facts it had.
use Rattle.std.specs.Prelude.{◌≡◌, ℕ, List, [], ◌∷◌, ◌++◌, length, Result, Ok}
use Rattle.base_messages.specs.declared.block.Block.{Block}
use Rattle.base_messages.specs.declared.genesis.Genesis.{Genesis}
use Rattle.base_roles.specs.declared.refusal.Refusal.{Refusal}
use Rattle.base_roles.specs.declared.refusal.Refusal.TheVariants.{Overflow}
use Rattle.base_roles.specs.Flow.{◌>>=◌, each, stopping}
use Rattle.base_roles.specs.World.{View}
use Rattle.base_roles.specs.declared.calls.Hook.{Hook}
use Rattle.base_roles.specs.declared.calls.Hook.TheVariants as hook
use Rattle.rule_machine.specs.Listening.{block_heard, genesis_heard, heard_in}
use Rattle.rule_histories.specs.LifeRows.{first, fourth, second, third, two_powers}

-- what was heard, with the facts before it
pub data Heard : Type 0 where
  created : ℕ → Heard
  removed : ℕ → Heard
  bonded : ℕ → Heard
  starting : ℕ → Heard
  modifying : ℕ → Heard
  modified : ℕ → Heard
  slashing : ℕ → Heard
  part : ℕ → Heard
  block : Heard

abbrev pub call_of : Hook → ℕ → Heard
call_of (hook.Created v) facts = created facts
call_of (hook.Removed v) facts = removed facts
call_of (hook.Bonded v) facts = bonded facts
call_of (hook.Starting v delegator) facts = starting facts
call_of (hook.Modifying v delegator shares) facts = modifying facts
call_of (hook.Modified v delegator shares) facts = modified facts
call_of (hook.Slashing v fraction) facts = slashing facts

abbrev pub hears : List Heard → Hook → View → List Heard
hears heard hook v = heard ++ call_of hook (length v.facts) ∷ []

abbrev pub parted : List Heard → ℕ → List Heard
parted heard facts = heard ++ part facts ∷ []

abbrev pub ended : List Heard → List Heard
ended heard = heard ++ block ∷ []

-- what is heard of a genesis and of blocks behind it
abbrev pub all_heard : Genesis → List Block → Result (List Heard) Refusal
all_heard g blocks = do
  w ← genesis_heard hears g []
  u ← stopping Overflow (each (block_heard hears parted ended) blocks w)
  Ok (heard_in u)

-- Two validators and their own delegations, then both are bonded.
abbrev pub GenesisIsHeard : Type 0
GenesisIsHeard = all_heard two_powers [] ≡ Ok (
    created 0
    ∷ created 0
    ∷ starting 1
    ∷ modified 2
    ∷ starting 3
    ∷ modified 4
    ∷ bonded 5
    ∷ bonded 6
    ∷ [])

-- Of the blocks behind it: a delegation; an undelegation, and a withdrawal whose new start the listener alone hears; a slash at
-- the beginning, and a refused transaction, of which nothing is heard but its fee's fact; an unbonding that is paid.
abbrev pub BlocksAreHeard : Type 0
BlocksAreHeard = all_heard two_powers (first ∷ second ∷ third ∷ fourth ∷ []) ≡ Ok (
    created 0
    ∷ created 0
    ∷ starting 1
    ∷ modified 2
    ∷ starting 3
    ∷ modified 4
    ∷ bonded 5
    ∷ bonded 6
    ∷ part 0
    ∷ starting 2
    ∷ modified 4
    ∷ part 4
    ∷ block
    ∷ part 4
    ∷ modifying 4
    ∷ modified 5
    ∷ part 6
    ∷ modified 5
    ∷ part 5
    ∷ block
    ∷ slashing 2
    ∷ part 6
    ∷ part 3
    ∷ part 1
    ∷ block
    ∷ part 2
    ∷ part 0
    ∷ part 2
    ∷ block
    ∷ [])
