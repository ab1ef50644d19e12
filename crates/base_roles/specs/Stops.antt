-- What a message stops with, where a hook or a bank does not answer Ok.
use Rattle.base_roles.specs.declared.refusal.Refusal.TheVariants.{Overflow, InsufficientFunds}
use Rattle.base_roles.specs.declared.faults.MessageFault.{MessageFault}
use Rattle.base_roles.specs.declared.faults.MessageFault.TheVariants as stop
use Rattle.base_roles.specs.declared.faults.HookFault.{HookFault}
use Rattle.base_roles.specs.declared.faults.HookFault.TheVariants as hook
use Rattle.base_roles.specs.declared.faults.BankFault.{BankFault}
use Rattle.base_roles.specs.declared.faults.BankFault.TheVariants as bank

-- an excess in a hook is a refusal of the message
abbrev pub stop_of_hook : HookFault → MessageFault
stop_of_hook (hook.Over over) = stop.Refused (Overflow over)
stop_of_hook hook.NoMemory = stop.NoMemory

-- a payer who is short is a refusal of the message
abbrev pub stop_of_bank : BankFault → MessageFault
stop_of_bank bank.Short = stop.Refused InsufficientFunds
stop_of_bank bank.NoMemory = stop.NoMemory
