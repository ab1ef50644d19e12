-- What calls answer and leave. Of what hooks keep it is said for which plain values it stands, by a test `holds`.
use Rattle.std.specs.Prelude.{◌≡◌, ℕ, ◌<◌, ◌≤◌, true, false, List, Result, Ok, Err, ⊤}
use Rattle.base_decimals.specs.declared.over.Over.{Over}
use Rattle.base_types.specs.declared.account.Account.{Account}
use Rattle.base_types.specs.declared.account.Account.TheVariants as account
use Rattle.base_types.specs.declared.account.Module.{Module}
use Rattle.base_coins.specs.declared.coin.Coin.{Coin}
use Rattle.base_coins.specs.Coins.{Money}
use Rattle.base_roles.specs.declared.facts.Fact.{Fact}
use Rattle.base_roles.specs.declared.faults.BankFault.{BankFault}
use Rattle.base_roles.specs.declared.faults.BankFault.TheVariants as bank
use Rattle.base_roles.specs.declared.faults.HookFault.{HookFault}
use Rattle.base_roles.specs.declared.faults.HookFault.TheVariants as hook
use Rattle.base_roles.specs.declared.faults.MessageFault.{MessageFault}
use Rattle.base_roles.specs.declared.faults.MessageFault.TheVariants as stop
use Rattle.base_roles.specs.declared.refusal.Refusal.{Refusal}
use Rattle.base_roles.specs.Holdings.{Holdings, balance_of, moved, burned, is_short, transfer_told, burn_told}
use Rattle.base_roles.specs.World.{View, World, Told, gives, exceeds}

-- What a bank's send answers, and leaves of its holdings and of the facts: the coins moved, and this told; or nothing
-- changed, short exactly where some coin is above the sender's balance.
abbrev pub Sends : Account → Account → Money → Holdings → List Fact → Holdings → List Fact → Result ⊤ BankFault → Type 0
Sends from to coins h facts h2 facts2 (Ok _) = (is_short h from coins ≡ false) × (h2 ≡ moved from to coins h) × (facts2 ≡ transfer_told from to coins facts)
Sends from to coins h facts h2 facts2 (Err bank.Short) = (is_short h from coins ≡ true) × (h2 ≡ h) × (facts2 ≡ facts)
Sends from to coins h facts h2 facts2 (Err bank.NoMemory) = (h2 ≡ h) × (facts2 ≡ facts)

-- the same of a burn
abbrev pub Burns : Module → Coin → Holdings → List Fact → Holdings → List Fact → Result ⊤ BankFault → Type 0
Burns from c h facts h2 facts2 (Ok _) = (c.amount ≤ balance_of h (account.Module from) c.denom) × (h2 ≡ burned (account.Module from) c.denom c.amount h) × (facts2 ≡ burn_told from c.denom c.amount facts)
Burns from c h facts h2 facts2 (Err bank.Short) = (balance_of h (account.Module from) c.denom < c.amount) × (h2 ≡ h) × (facts2 ≡ facts)
Burns from c h facts h2 facts2 (Err bank.NoMemory) = (h2 ≡ h) × (facts2 ≡ facts)

-- What a rule gives, against what a call answers. Where the rule gives something, a call that succeeds is tied to it by the
-- first test, and one that fails passes the second. Where the rule has an error, the call fails, and its error passes the
-- third.
abbrev pub AsRuled : {W E A F : Type 0} → Result W E → Result A F → (W → A → Type 0) → (F → Type 0) → (E → F → Type 0) → Type 0
AsRuled (Ok due) (Ok a) stands wanting errs = stands due a
AsRuled (Ok due) (Err fault) stands wanting errs = wanting fault
AsRuled (Err due) (Ok a) stands wanting errs = ⊥
AsRuled (Err due) (Err fault) stands wanting errs = errs due fault

-- an error of a rule that may exceed, against that of a call: the same excess, or memory is wanting
abbrev pub ExceedsAs : Over → HookFault → Type 0
ExceedsAs due (hook.Over over) = over ≡ due
ExceedsAs due hook.NoMemory = ⊤

-- a call whose rule gives something has no error but want of memory
abbrev pub WantsMemory : HookFault → Type 0
WantsMemory (hook.Over over) = ⊥
WantsMemory hook.NoMemory = ⊤

-- the same of a message, which may be refused
abbrev pub RefusesAs : Refusal → MessageFault → Type 0
RefusesAs due (stop.Refused why) = why ≡ due
RefusesAs due stop.NoMemory = ⊤

-- a message whose rule gives something stops for want of memory alone
abbrev pub StopsForMemory : MessageFault → Type 0
StopsForMemory (stop.Refused why) = ⊥
StopsForMemory stop.NoMemory = ⊤

-- what is told of a hook, as what a rule gives
abbrev pub outcome : {H : Type 0} → Told H → Result (H × View) Over
outcome (gives h v log) = Ok (h, v)
outcome (exceeds over) = Err over

-- What a hook of which this is told answers, and leaves of the hooks and of the ground: what is given is held, or the
-- excess; or memory is wanting.
abbrev pub Answers : {H : Type 0} → Told H → (H → Type 0) → View → Result ⊤ HookFault → Type 0
Answers told holds v answer = AsRuled (outcome told) answer (λ due a. holds due.0 × (v ≡ due.1)) WantsMemory ExceedsAs

-- The same of a call that follows a rule with a number, over records, hooks and ground.
abbrev pub Follows : {S H : Type 0} → Result (ℕ × World S H) Over → S → (H → Type 0) → View → Result ℕ HookFault → Type 0
Follows rule s holds v answer = AsRuled rule answer
    (λ due n. (n ≡ due.0) × (s ≡ due.1.mine) × holds due.1.hooks × (v ≡ due.1.view)) WantsMemory ExceedsAs

-- The same of a message, which may be refused.
abbrev pub AnswersAs : {A S H : Type 0} → Result (A × World S H) Refusal → S → (H → Type 0) → View → Result A MessageFault → Type 0
AnswersAs rule s holds v answer = AsRuled rule answer
    (λ due a. (a ≡ due.0) × (s ≡ due.1.mine) × holds due.1.hooks × (v ≡ due.1.view)) StopsForMemory RefusesAs
