-- What the parts of a block, and blocks, answer and leave.
use Rattle.std.specs.Prelude.{◌≡◌, ℕ, Result, Ok, Err, ⊤, OnOk}
use Rattle.base_decimals.specs.declared.over.Over.{Over}
use Rattle.base_roles.specs.declared.faults.HookFault.{HookFault}
use Rattle.base_roles.specs.declared.faults.HookFault.TheVariants as hook
use Rattle.base_roles.specs.declared.faults.RecordFault.{RecordFault}
use Rattle.base_roles.specs.declared.faults.RecordFault.TheVariants as kept
use Rattle.base_roles.specs.Answers.{AsRuled, WantsMemory, ExceedsAs}
use Rattle.base_roles.specs.Flow.{◌>>=◌, stopping}
use Rattle.base_roles.specs.World.{View}
use Rattle.base_roles.specs.declared.calls.Hook.{Hook}
use Rattle.base_messages.specs.declared.block.Block.{Block}
use Rattle.base_messages.specs.declared.faults.BlockFault.{BlockFault}
use Rattle.base_messages.specs.declared.faults.BlockFault.TheVariants as block
use Rattle.base_messages.specs.declared.report.BlockReport.{BlockReport}
use Rattle.rule_modules.specs.Chain.{State, begin_block, end_block}
use Rattle.rule_machine.specs.GenesisState.{without_facts}
use Rattle.rule_machine.specs.Listening.{Hearing, beginning_heard, ending_heard, heard_in, hearing, part_heard, txs_heard, unheard}
use Rattle.rule_machine.specs.Machine.{Step, step, txs_applied}
use Rattle.chain_modules.specs.declared.modules.Modules.{Modules}
use Rattle.chain_modules.specs.Kept.{KeptState, StandsFor, StandsWhole, AreSteady, kept_of}
use Rattle.chain_modules.specs.Marks.{GoOn}

-- the fault of a block a part of which met the limit of decimals, or wanted memory
abbrev pub fault_of_hook : HookFault → BlockFault
fault_of_hook (hook.Over over) = block.RatioLimit over
fault_of_hook hook.NoMemory = block.NoMemory

abbrev pub fault_of_record : RecordFault → BlockFault
fault_of_record kept.NoMemory = block.NoMemory

-- What a step of a block answers and leaves: what stands so for the state that is due, or its excess; or memory is wanting.
abbrev pub Leads : (KeptState → State → Type 0) → Result State Over → KeptState → Result ⊤ HookFault → Type 0
Leads stands rule k answer = AsRuled rule answer (λ due a. stands k due) WantsMemory ExceedsAs

-- What a part of a block's end leaves, whose step this is: from each state for which the modules stood what the step gives; where it
-- succeeds the modules are steady again; and whatever the answer they go on.
pub record TakesStep {E : Type 0} (step : State → Result State Over) (old new : Modules E) (answer : Result ⊤ HookFault) : Type 0 where
  pub leads : (p : State) → StandsWhole (kept_of old) p → Leads StandsWhole (step p) (kept_of new) answer
  pub steady : OnOk answer (AreSteady new)
  pub go_on : GoOn old new

-- the fault of a check that is due, or memory is wanting
abbrev pub FaultsAs : Result ⊤ BlockFault → BlockFault → Type 0
FaultsAs due block.NoMemory = ⊤
FaultsAs due fault = due ≡ Err fault

-- What a block answers and leaves where the machine says what is due: its report, and then what is kept stands for its state; or its
-- fault; or memory is wanting.
abbrev pub AnswersStep : Result Step BlockFault → KeptState → Result BlockReport BlockFault → Type 0
AnswersStep due k (Ok report) = (state : State) × (due ≡ Ok (record { report = report; state = state })) × StandsFor k state
AnswersStep due k (Err block.NoMemory) = ⊤
AnswersStep due k (Err fault) = due ≡ Err fault

-- what a block answers from a state for which the modules stood
abbrev pub Applies : Block → State → KeptState → Result BlockReport BlockFault → Type 0
Applies b p k answer = AnswersStep (step b p) k answer

-- What a block does that may follow, from its own height and time on: its beginning, its transactions, its end.
abbrev pub parts_stepped : Block → State → Result Step BlockFault
parts_stepped b w = do
  begun ← stopping block.RatioLimit (begin_block b.votes b.evidence w)
  let txs = txs_applied b.txs begun
  ended ← stopping block.RatioLimit (end_block (without_facts txs.state))
  Ok (record {
    report = record { height = b.height; time = b.time; begun = begun.view.facts; txs = txs.reports; ended = ended.view.facts };
    state = without_facts ended;
  })

-- The same with what a listener hears of it.
abbrev pub parts_heard : {P : Type 0} → (P → Hook → View → P) → (P → ℕ → P) → (P → P) → Block → Hearing P → Result (Hearing P) Over
parts_heard hears parted ended b w = do
  begun ← beginning_heard hears b.votes b.evidence w
  last ← ending_heard hears (txs_heard hears parted ended b.txs (part_heard hears parted ended begun))
  Ok (hearing (ended (heard_in last)) (without_facts (unheard last)))
