-- The message by which a user sends coins (Cosmos SDK: `MsgSend` of `x/bank`).
use Rattle.std.specs.Prelude.{◌≡◌, ℕ, if◌then◌else◌, List, [], ◌∷◌, Option, Some, None, Result, Ok, Err, ⊤}
use Rattle.base_types.specs.declared.account.Account.{Account}
use Rattle.base_types.specs.declared.account.Account.TheVariants as account
use Rattle.base_coins.specs.Coins.{Money}
use Rattle.base_roles.specs.declared.facts.Fact.{Fact}
use Rattle.base_roles.specs.declared.refusal.Refusal.{Refusal}
use Rattle.base_roles.specs.declared.refusal.Refusal.TheVariants.{NonPositive, ModuleRecipient, InsufficientFunds}
use Rattle.base_roles.specs.declared.faults.MessageFault.{MessageFault}
use Rattle.base_roles.specs.declared.faults.MessageFault.TheVariants as stop
use Rattle.base_roles.specs.Holdings.{Holdings, moved, is_short, transfer_told}

-- Why the message is refused: it has no coins, or else its receiver is a module, or else its sender is short.
abbrev pub send_refusal : Holdings → List ℕ → Account → Money → Option Refusal
send_refusal h from to [] = Some NonPositive
send_refusal h from (account.Module m) (c ∷ cs) = Some ModuleRecipient
send_refusal h from (account.User u) (c ∷ cs) = if is_short h (account.User from) (c ∷ cs) then Some InsufficientFunds else None

-- What the message answers, and leaves of the holdings and of the facts: the coins moved, and this told, where it is
-- not refused; or nothing changed, refused for this reason.
abbrev pub Transfers : List ℕ → Account → Money → Holdings → List Fact → Holdings → List Fact → Result ⊤ MessageFault → Type 0
Transfers from to coins h facts h2 facts2 (Ok _) = (send_refusal h from to coins ≡ None) × (h2 ≡ moved (account.User from) to coins h) × (facts2 ≡ transfer_told (account.User from) to coins facts)
Transfers from to coins h facts h2 facts2 (Err (stop.Refused why)) = (send_refusal h from to coins ≡ Some why) × (h2 ≡ h) × (facts2 ≡ facts)
Transfers from to coins h facts h2 facts2 (Err stop.NoMemory) = (h2 ≡ h) × (facts2 ≡ facts)
