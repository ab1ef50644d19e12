-- The numbers that the program gives out.
use Rattle.std.specs.Prelude.{ℕ}
use Rattle.base_messages.specs.declared.faults.BlockFault.{BlockFault}
use Rattle.base_messages.specs.declared.faults.BlockFault.TheVariants as block
use Rattle.run_app.specs.declared.status.InputFault.TheVariants as input
use Rattle.run_app.specs.declared.status.Status.{Status}
use Rattle.run_app.specs.declared.status.Status.TheVariants.{Done, Usage, BadInput, Limit, ReadFault, WriteFault, KeepFault, NoMemory, BadStore, WrongStore, NotFound, NoPast}

-- The number by which the process ends, for each status.
abbrev pub status_number : Status → ℕ
status_number Done = 0
status_number Usage = 1
status_number (BadInput line fault) = 2
status_number (Limit line kind) = 3
status_number ReadFault = 4
status_number WriteFault = 5
status_number KeepFault = 6
status_number NoMemory = 7
status_number BadStore = 8
status_number (WrongStore is_empty) = 9
status_number NotFound = 10
status_number (NoPast base last) = 11

-- The number by which a block's fault is named.
abbrev pub number_of_fault : BlockFault → ℕ
number_of_fault (block.BadHeight due) = 1
number_of_fault (block.BadTime last) = 2
number_of_fault (block.UnknownVote place) = 3
number_of_fault (block.RepeatedVote place) = 4
number_of_fault (block.BadPower place) = 5
number_of_fault (block.BadEvidence place) = 6
number_of_fault (block.RatioLimit over) = 7
number_of_fault block.NoMemory = 8

-- The number of the member, of the condition or of the block's fault by which a run ended, and 0 where it ended otherwise.
abbrev pub fault_number : Status → ℕ
fault_number (BadInput line (input.BadShape member)) = member
fault_number (BadInput line (input.BadGenesis condition)) = condition
fault_number (BadInput line (input.Block fault)) = number_of_fault fault
fault_number _ = 0

-- The number of the line at which a run ended, and 0 where it ended at none.
abbrev pub line_number : Status → ℕ
line_number (BadInput line fault) = line
line_number (Limit line kind) = line
line_number _ = 0
