-- That a listener changes nothing: without what it heard, each step with it is the machine's.
use Rattle.std.specs.Prelude.{◌≡◌, ℕ, Result, Ok, Err}
use Rattle.base_decimals.specs.declared.over.Over.{Over}
use Rattle.base_messages.specs.declared.block.Block.{Block}
use Rattle.base_messages.specs.declared.faults.BlockFault.{BlockFault}
use Rattle.base_messages.specs.declared.faults.BlockFault.TheVariants.{RatioLimit}
use Rattle.base_roles.specs.World.{View}
use Rattle.base_roles.specs.declared.calls.Hook.{Hook}
use Rattle.rule_machine.specs.Listening.{Hearing, unheard, block_heard}
use Rattle.rule_machine.specs.Machine.{Step, block_checked, step}

-- a block's step, against one with a listener: the same state without what was heard, or the same excess
abbrev pub IsUnheard : {P : Type 0} → Result Step BlockFault → Result (Hearing P) Over → Type 0
IsUnheard (Ok s) (Ok w) = s.state ≡ unheard w
IsUnheard (Ok s) (Err over) = ⊥
IsUnheard (Err fault) (Ok w) = ⊥
IsUnheard (Err fault) (Err over) = fault ≡ RatioLimit over

-- blocks that may follow, with a listener that hears so, are those of the machine
abbrev pub BlocksAreUnheard : {P : Type 0} → (P → Hook → View → P) → (P → ℕ → P) → (P → P) → Type 0
BlocksAreUnheard {P} hears parted ended = (b : Block) (w : Hearing P) → block_checked b (unheard w) ≡ Ok tt → IsUnheard (step b (unheard w)) (block_heard hears parted ended b w)
