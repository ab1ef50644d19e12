-- Why a block may not follow, whatever it holds: its place and its time.
use Rattle.std.specs.Prelude.{ℕ, ◌+◌, ◌==◌, nat_lt, nat_le, not, ◌||◌, if◌then◌else◌, Option, Some, None}
use Rattle.base_roles.specs.Ground.{end_of_blocks}
use Rattle.base_messages.specs.declared.block.Block.{Block}
use Rattle.base_messages.specs.declared.faults.BlockFault.{BlockFault}
use Rattle.base_messages.specs.declared.faults.BlockFault.TheVariants.{BadHeight, BadTime}

-- Its height is not the one that is due after this height, which the fault carries; or its time is before this last one, which
-- the fault carries, or past the year 9899.
abbrev pub block_fault : ℕ → ℕ → Block → Option BlockFault
block_fault height time b =
    if not (b.height == height + 1) then Some (BadHeight (height + 1))
    else if nat_lt b.time time || nat_le end_of_blocks b.time then Some (BadTime time)
    else None
