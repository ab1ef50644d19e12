-- What the machine answers to each line of the input.
use Rattle.std.specs.Prelude.{◌≡◌, ℕ, List, ◌++◌, length, nat_lt, if◌then◌else◌, Option, Some, None, Result, Ok, Err}
use Rattle.base_bech32.specs.declared.form.Form.{Form}
use Rattle.base_messages.specs.declared.faults.LineFault.{LineFault}
use Rattle.base_messages.specs.declared.faults.LineFault.TheVariants as line
use Rattle.base_messages.specs.declared.faults.BlockFault.{BlockFault}
use Rattle.base_messages.specs.declared.faults.BlockFault.TheVariants as block
use Rattle.base_messages.specs.declared.genesis.Genesis.{Genesis}
use Rattle.base_messages.specs.declared.block.Block.{Block}
use Rattle.line_json.specs.Genesis.{genesis_of}
use Rattle.line_json.specs.Block.{block_of}
use Rattle.line_json.specs.Written.{text_of_genesis, text_of_block}
use Rattle.base_roles.specs.declared.refusal.Refusal.{Refusal}
use Rattle.rule_modules.specs.Chain.{State}
use Rattle.rule_machine.specs.GenesisConditions.{start_condition}
use Rattle.rule_machine.specs.GenesisState.{Start, chain_started, ground_at_start, empty_over}
use Rattle.rule_machine.specs.Machine.{Step, step}
use Rattle.rule_machine.specs.Report as machine
use Rattle.line_report.specs.Lines.{lines_of, text_of}
use Rattle.chain_modules.specs.Kept.{StandsFor}
use Rattle.chain_whole.specs.Chained.{Chained}
use Rattle.chain_whole.specs.declared.fault.ChainFault.{ChainFault}
use Rattle.chain_whole.specs.declared.fault.ChainFault.TheVariants as chain
use Rattle.run_app.specs.declared.status.LineStop.{LineStop}
use Rattle.run_app.specs.declared.status.LineStop.TheVariants as stop
use Rattle.run_app.specs.declared.status.InputFault.TheVariants as input

-- the most bytes of a line, without its end
abbrev pub longest : ℕ
longest = 4194304

-- what the lines have led to: nothing before the genesis, and then a state
abbrev pub Standing : Type 0
Standing = Option State

-- A chain stands so: there is none before the genesis, and then one that stands for a state for which what it
-- keeps stands.
abbrev pub StandsAt : Option Chained → Standing → Type 0
StandsAt None s = s ≡ None
StandsAt (Some chain) None = ⊥
StandsAt (Some chain) (Some p) = StandsFor chain.kept p

-- what a line gives: its text, and what it leads to
pub record Answer : Type 0 where
  pub text : List ℕ
  pub standing : Standing

-- the line has an answer, whose text came behind these bytes, and what it leads to is so
abbrev pub HoldsAnswer : Result Answer LineStop → List ℕ → List ℕ → (Standing → Type 0) → Type 0
HoldsAnswer due held held' P =
    (answer : Answer) × (due ≡ Ok answer) × (held' ≡ held ++ answer.text) × P answer.standing

-- What was settled of a chain stands so: there is nothing before the genesis, and then a state for which it stands.
abbrev pub SettledAt : Option Chained → Standing → Type 0
SettledAt None s = s ≡ None
SettledAt (Some chain) None = ⊥
SettledAt (Some chain) (Some p) = StandsFor chain.settled p

-- why the line of this number is not read
abbrev pub not_read : ℕ → LineFault → LineStop
not_read n line.NotJson = stop.BadInput n input.NotJson
not_read n (line.BadShape member) = stop.BadInput n (input.BadShape member)
not_read n line.NoMemory = stop.NoMemory

-- a fault that a genesis may have: it has no items
abbrev pub IsOfGenesis : ChainFault → Type 0
IsOfGenesis (chain.BadGenesis condition) = Unit {0}
IsOfGenesis chain.BadItems = ⊥
IsOfGenesis chain.NoMemory = Unit {0}

-- the genesis of this line starts no chain, for this fault
abbrev pub IsNotStarted : ℕ → ChainFault → LineStop → Type 0
IsNotStarted n (chain.BadGenesis condition) why = why ≡ stop.BadInput n (input.BadGenesis condition)
IsNotStarted n chain.BadItems why = ⊥
IsNotStarted n chain.NoMemory why = why ≡ stop.NoMemory

-- why the block of this line is not applied
abbrev pub not_applied : ℕ → BlockFault → LineStop
not_applied n (block.BadHeight due) = stop.BadInput n (input.Block (block.BadHeight due))
not_applied n (block.BadTime last) = stop.BadInput n (input.Block (block.BadTime last))
not_applied n (block.UnknownVote place) = stop.BadInput n (input.Block (block.UnknownVote place))
not_applied n (block.RepeatedVote place) = stop.BadInput n (input.Block (block.RepeatedVote place))
not_applied n (block.BadPower place) = stop.BadInput n (input.Block (block.BadPower place))
not_applied n (block.BadEvidence place) = stop.BadInput n (input.Block (block.BadEvidence place))
not_applied n (block.RatioLimit over) = stop.Ratio n over
not_applied n block.NoMemory = stop.NoMemory

-- ---- the genesis

-- The state that a genesis starts. That one starts where no condition holds is a law; the accounts alone stand in its
-- place elsewhere.
abbrev pub begun : Genesis → Result Start Refusal → State
begun g (Ok start) = start.state
begun g (Err why) = empty_over (ground_at_start g)

-- what a genesis starts, told by its supply
abbrev pub told : State → Answer
told s = record { text = text_of_genesis s.view.bank.supplies; standing = Some s }

-- the answer to a genesis, of which this condition holds or none
abbrev pub started_answer : ℕ → Genesis → Option ℕ → Result Answer LineStop
started_answer n g None = Ok (told (begun g (chain_started g)))
started_answer n g (Some condition) = Err (stop.BadInput n (input.BadGenesis condition))

abbrev pub genesis_answer : ℕ → Result Genesis LineFault → Result Answer LineStop
genesis_answer n (Err fault) = Err (not_read n fault)
genesis_answer n (Ok g) = started_answer n g (start_condition g)

-- ---- a block

abbrev pub stepped : Form → Step → Answer
stepped form step = record { text = text_of_block form step.report; standing = Some step.state }

-- the answer to a block: its step or its fault
abbrev pub applied_answer : Form → ℕ → Result Step BlockFault → Result Answer LineStop
applied_answer form n (Ok step) = Ok (stepped form step)
applied_answer form n (Err fault) = Err (not_applied n fault)

abbrev pub block_answer : Form → ℕ → State → Result Block LineFault → Result Answer LineStop
block_answer form n s (Err fault) = Err (not_read n fault)
block_answer form n s (Ok b) = applied_answer form n (step b s)

-- ---- lines

-- the first line is a genesis, and each further line a block
abbrev pub answer_within : Form → ℕ → Standing → List ℕ → Result Answer LineStop
answer_within form n None line = genesis_answer n (genesis_of form line)
answer_within form n (Some s) line = block_answer form n s (block_of form line)

-- the answer to the line of this number: nothing is read from a line over its limit
unfoldable pub line_answer : Form → ℕ → Standing → List ℕ → Result Answer LineStop
line_answer form n s line = if nat_lt longest (length line) then Err (stop.Long n) else answer_within form n s line

-- the report of what the lines led to, or that the genesis is missing
unfoldable pub report_of : Form → Standing → Result (List ℕ) LineStop
report_of form None = Err (stop.BadInput 1 input.Missing)
report_of form (Some s) = Ok (text_of (lines_of form (machine.report_of s)))
