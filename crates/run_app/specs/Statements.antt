-- How a run ends that makes the statements of a pair of a delegator and a validator: of the command `statement`. Its input is that
-- of a replay, which a recorder overhears.
use Rattle.std.specs.Prelude.{◌≡◌, ◌≢◌, ℕ, ◌+◌, ◌≤◌, ◌<◌, ◌⊎◌, List, [], ◌∷◌, ◌++◌, drop, length, nat_lt, if◌then◌else◌, Option, Some, None, Result, Ok, Err}
use Rattle.std.specs.List.{flat_map}
use Rattle.base_bech32.specs.declared.form.Form.{Form}
use Rattle.base_coins.specs.Steps.{◌>>=◌}
use Rattle.base_decimals.specs.declared.over.Over.{Over}
use Rattle.base_messages.specs.declared.block.Block.{Block}
use Rattle.base_messages.specs.declared.faults.BlockFault.{BlockFault}
use Rattle.base_messages.specs.declared.faults.LineFault.{LineFault}
use Rattle.base_messages.specs.declared.genesis.Genesis.{Genesis}
use Rattle.base_messages.specs.declared.report.BlockReport.{BlockReport}
use Rattle.base_roles.specs.declared.entities.Validator.{Validator}
use Rattle.base_roles.specs.declared.refusal.Refusal.{Refusal}
use Rattle.base_roles.specs.Staked.{validator_at}
use Rattle.base_types.specs.declared.account.Account.{Account}
use Rattle.base_types.specs.declared.account.Account.TheVariants as account
use Rattle.chain_modules.specs.Kept.{StandsFor}
use Rattle.chain_whole.specs.Chained.{Listened}
use Rattle.line_json.specs.Block.{block_of}
use Rattle.line_json.specs.Genesis.{genesis_of}
use Rattle.line_statements.specs.Statements.{text_of_statement}
use Rattle.mod_recorder.specs.{Notes.{Noted, ended, heard, nothing_noted, parted}, Recorded.Recorded}
use Rattle.mod_statement.specs.declared.fault.StatementFault.{StatementFault}
use Rattle.mod_statement.specs.declared.statement.Statement.{Statement}
use Rattle.mod_statement.specs.Answers.{IsFaultOf}
use Rattle.mod_tracking.specs.declared.tracker.Pair.{Pair}
use Rattle.mod_tracking.specs.Stating.{Taken, block_taken, taken}
use Rattle.mod_tracking.specs.Tracking.{Tracked, untracked}
use Rattle.rule_machine.specs.GenesisConditions.{start_condition}
use Rattle.rule_machine.specs.GenesisState.{Start, chain_started}
use Rattle.rule_machine.specs.Listening.{Hearing, block_heard, genesis_heard, heard_in, hearing}
use Rattle.rule_machine.specs.Machine.{Step, step}
use Rattle.rule_machine.specs.Promises.{facts_of}
use Rattle.rule_modules.specs.Chain.{State}
use Rattle.run_app.specs.declared.status.InputFault.{InputFault}
use Rattle.run_app.specs.declared.status.InputFault.TheVariants.{BadGenesis, Missing}
use Rattle.run_app.specs.declared.status.Status.{Status}
use Rattle.run_app.specs.declared.status.Status.TheVariants.{BadInput, Limit, ReadFault, NoMemory, NotFound}
use Rattle.run_app.specs.declared.status.LimitKind.TheVariants.{Line, Input, Ratio, Bound}
use Rattle.run_app.specs.Checks.{not_bounded}
use Rattle.run_app.specs.Ending.{status_of}
use Rattle.run_app.specs.Lines.{whole_from, rest_from, lines_of}
use Rattle.run_app.specs.Machine.{longest, not_applied, not_read}
use Rattle.run_app.specs.Outcome.{AreEnded, most_bytes}
use Rattle.run_app.specs.Seen.{SinkTold, SourceTold}
use Rattle.run_app.specs.Told.{TakesFrom}
use Rattle.run_app.specs.Writes.{IsWritten, Writes}
use Rattle.run_generated.specs.Writing.{Grows}

-- the pair of two accounts of users; a module is never paid a reward, and operates no validator
abbrev pub pair_of : Account → Account → Option Pair
pair_of (account.User delegator) (account.User operator) = Some (record { delegator = delegator; operator = operator })
pair_of _ _ = None

-- ---- what lines lead to

-- the machine's state, what the recorder heard, what stands of the pair, and its statements so far
pub record Stating : Type 0 where
  pub state : State
  pub heard : Noted
  pub tracked : Tracked
  pub made : List Statement

-- with what a block, or the genesis, told
abbrev pub told_more : ℕ → State → Noted → List Statement → Result Taken StatementFault → Result Stating Status
told_more n state noted made (Ok told) = Ok (record { state = state; heard = noted; tracked = told.tracked; made = made ++ told.made })
told_more n state noted made (Err why) = Err (not_bounded n why)

-- The genesis of this line starts the machine, and the recorder hears it. That it does where no condition holds is a law; memory
-- is said to be wanting in its place elsewhere.
abbrev pub started_so : ℕ → Option Pair → Result Start Refusal → Result (Hearing Noted) Refusal → Result Stating Status
started_so n p (Ok start) (Ok w) = told_more n start.state (heard_in w) [] (block_taken p None 0 start.facts (heard_in w).notes untracked)
started_so n p (Ok start) (Err why) = Err NoMemory
started_so n p (Err why) w = Err NoMemory

abbrev pub begun_unless : Option ℕ → ℕ → Option Pair → Genesis → Result Stating Status
begun_unless None n p g = started_so n p (chain_started g) (genesis_heard heard g nothing_noted)
begun_unless (Some condition) n p g = Err (BadInput n (BadGenesis condition))

abbrev pub stated_genesis : ℕ → Option Pair → Result Genesis LineFault → Result Stating Status
stated_genesis n p (Err fault) = Err (status_of (not_read n fault))
stated_genesis n p (Ok g) = begun_unless (start_condition g) n p g

-- the operator's validator, as it stands
abbrev pub validator_of : Option Pair → State → Option Validator
validator_of None state = None
validator_of (Some p) state = validator_at state.mine.staked p.operator

-- what a block told of the pair, whose validator is as it stood before; the notes of earlier blocks do not count
abbrev pub told_of : Option Pair → Stating → BlockReport → Noted → Result Taken StatementFault
told_of p s report noted =
    block_taken p (validator_of p s.state) report.height (facts_of report) (drop (length s.heard.notes) noted.notes) s.tracked

-- A block is applied, and the recorder hears it. That it hears one that is applied is a law.
abbrev pub applied_so : ℕ → Option Pair → Stating → Step → Result (Hearing Noted) Over → Result Stating Status
applied_so n p s step (Ok w) = told_more n step.state (heard_in w) s.made (told_of p s step.report (heard_in w))
applied_so n p s step (Err over) = Err (Limit n (Ratio over))

abbrev pub stepped_so : ℕ → Option Pair → Stating → Block → Result Step BlockFault → Result Stating Status
stepped_so n p s b (Err fault) = Err (status_of (not_applied n fault))
stepped_so n p s b (Ok step) = applied_so n p s step (block_heard heard parted ended b (hearing s.heard s.state))

abbrev pub stated_block : ℕ → Option Pair → Stating → Result Block LineFault → Result Stating Status
stated_block n p s (Err fault) = Err (status_of (not_read n fault))
stated_block n p s (Ok b) = stepped_so n p s b (step b s.state)

abbrev pub stated_within : Form → ℕ → Option Pair → Option Stating → List ℕ → Result Stating Status
stated_within form n p None line = stated_genesis n p (genesis_of form line)
stated_within form n p (Some s) line = stated_block n p s (block_of form line)

-- what the line of this number leads to: nothing is read from a line over its limit
unfoldable pub stated_at : Form → ℕ → Option Pair → Option Stating → List ℕ → Result Stating Status
stated_at form n p s line = if nat_lt longest (length line) then Err (Limit n Line) else stated_within form n p s line

-- what lines from this number on lead to; or why the first that leads to nothing stops the run
abbrev pub stated_from : Form → ℕ → Option Pair → Option Stating → List (List ℕ) → Result (Option Stating) Status
stated_from form n p s [] = Ok s
stated_from form n p s (line ∷ lines) = stated_at form n p s line >>= λ next. stated_from form (n + 1) p (Some next) lines

-- the same of all lines of an input
abbrev pub stated_in : Form → Option Pair → List ℕ → Result (Option Stating) Status
stated_in form p input = stated_from form 1 p None (lines_of input)

-- ---- what lines led to, as the program has it

-- There is no chain before the genesis; and then one that stands for the state, to which the recorder listens.
abbrev pub StatesAt : Option (Listened Recorded) → Tracked → List Statement → Option Stating → Type 0
StatesAt None t made s = (s ≡ None) × (t ≡ untracked) × (made ≡ [])
StatesAt (Some chain) t made None = ⊥
StatesAt (Some chain) t made (Some s) = StandsFor chain.kept s.state × (chain.listener.noted ≡ s.heard) × (t ≡ s.tracked) × (made ≡ s.made)

-- a line leads to what is so
abbrev pub LeadsTo : Result Stating Status → (Option Stating → Type 0) → Type 0
LeadsTo due P = (next : Stating) × (due ≡ Ok next) × P (Some next)

-- a line stops the run for what is due; or memory is wanting
abbrev pub IsUnled : {A : Type 0} → Result A Status → Status → Type 0
IsUnled due (BadInput n fault) = due ≡ Err (BadInput n fault)
IsUnled due (Limit n (Ratio over)) = due ≡ Err (Limit n (Ratio over))
IsUnled due (Limit n (Bound over)) = due ≡ Err (Limit n (Bound over))
IsUnled due NoMemory = Unit {0}
IsUnled due _ = ⊥

-- a line may stop the run so; the sink is not called before all lines were taken
abbrev pub MayStopUnwritten : Status → Type 0
MayStopUnwritten (BadInput n fault) = Unit {0}
MayStopUnwritten (Limit n kind) = Unit {0}
MayStopUnwritten NoMemory = Unit {0}
MayStopUnwritten _ = ⊥

-- what was told of the pair is taken, and its statements are behind those before
abbrev pub TakesTold : Result Taken StatementFault → List Statement → Tracked → List Statement → Type 0
TakesTold due made t made' = (more : List Statement) × (due ≡ Ok (taken t more)) × (made' ≡ made ++ more)

-- or it is not, at the line of this number
abbrev pub IsUntold : ℕ → Result Taken StatementFault → Status → Type 0
IsUntold n due status = (why : StatementFault) × IsFaultOf due why × (status ≡ not_bounded n why)

-- ---- an input

-- what is written: the statements of the pair, a line each
abbrev pub text_of_stating : Form → Stating → List ℕ
text_of_stating form s = flat_map (text_of_statement form) s.made

-- An input was read to its end, each of its lines leads on, and there are statements, which are to be written.
pub record IsStatedAll (form : Form) (p : Option Pair) (taken rest : List ℕ) (status : Status) (text : List ℕ) : Type 0 where
  pub last : Stating
  pub end : rest ≡ []
  pub short : length taken ≤ most_bytes
  pub stated : stated_in form p taken ≡ Ok (Some last)
  pub some : last.made ≢ []
  pub written : IsWritten (text_of_stating form last) status text

-- as many bytes were taken as an input may have, and one more came, at which the line was not too long
pub record PassesStated (form : Form) (p : Option Pair) (n : ℕ) (taken : List ℕ) : Type 0 where
  pub bytes : List ℕ
  pub byte : ℕ
  pub last : Option Stating
  pub taken_is : taken ≡ bytes ++ byte ∷ []
  pub full : length bytes ≡ most_bytes
  pub stated : stated_from form 1 p None (whole_from [] bytes) ≡ Ok last
  pub number : n ≡ 1 + length (whole_from [] bytes)
  pub line : (byte ≡ 10) ⊎ (length (rest_from [] bytes) < longest)

-- a line of an input, of which these bytes were taken and those are left, stops the run so
abbrev pub StopsStated : Form → Option Pair → Status → List ℕ → List ℕ → Type 0
StopsStated form p status taken rest =
    (length taken ≤ most_bytes)
    × (lines : List (List ℕ)) × AreEnded lines taken rest × (stated_from form 1 p None lines ≡ Err status)

-- an input was read to its end, and has no line
abbrev pub IsMissing : ℕ → InputFault → List ℕ → List ℕ → Type 0
IsMissing n fault taken rest = (n ≡ 1) × (fault ≡ Missing) × (rest ≡ []) × (lines_of taken ≡ [])

-- Why nothing is written of an input, of which these bytes were taken and those are left.
abbrev pub IsUnstated : Form → Option Pair → Status → List ℕ → List ℕ → Type 0
IsUnstated form p (BadInput n fault) taken rest = StopsStated form p (BadInput n fault) taken rest ⊎ IsMissing n fault taken rest
IsUnstated form p (Limit n Line) taken rest =
    (length taken ≤ most_bytes + 1) × ((more : List ℕ) → stated_in form p (taken ++ more) ≡ Err (Limit n Line))
IsUnstated form p (Limit n Input) taken rest = PassesStated form p n taken
IsUnstated form p (Limit n (Ratio over)) taken rest = StopsStated form p (Limit n (Ratio over)) taken rest
IsUnstated form p (Limit n (Bound over)) taken rest = StopsStated form p (Limit n (Bound over)) taken rest
IsUnstated form p ReadFault taken rest =
    (length taken ≤ most_bytes) × (last : Option Stating) × (stated_from form 1 p None (whole_from [] taken) ≡ Ok last)
IsUnstated form p NoMemory taken rest = length taken ≤ most_bytes
IsUnstated form p NotFound taken rest =
    (rest ≡ []) × (length taken ≤ most_bytes)
    × (last : Stating) × (stated_in form p taken ≡ Ok (Some last)) × (last.made ≡ [])
IsUnstated form p _ taken rest = ⊥

-- A run writes the statements of an input that was read to its end; or nothing.
abbrev pub StatesSo : Form → Option Pair → Status → List ℕ → List ℕ → List ℕ → Type 0
StatesSo form p status taken rest text =
    IsStatedAll form p taken rest status text ⊎ (IsUnstated form p status taken rest × (text ≡ []))

-- How a run ends whose lines all lead on, to there: nothing is written where they led to nothing, where there are no statements, and
-- where memory is wanting for their text.
abbrev pub StatesLast : Form → Option Stating → Option (List ℕ) → Option (List ℕ) → Status → Type 0
StatesLast form None written written' status = (status ≡ BadInput 1 Missing) × (written' ≡ written)
StatesLast form (Some s) written written' status =
    ((s.made ≢ []) × Writes (text_of_stating form s) written written' status)
    ⊎ ((((status ≡ NotFound) × (s.made ≡ [])) ⊎ (status ≡ NoMemory)) × (written' ≡ written))

-- There are bytes that were taken, a rest that is left, and a text that was written, as the source and the sink tell them where they
-- do, by which a run ended so.
abbrev pub StatementEnds : Form → Account → Account → SourceTold → SinkTold → Status → Type 0
StatementEnds form delegator operator source sink status =
    (taken : List ℕ) × (rest : List ℕ) × (text : List ℕ)
    × TakesFrom source.left source.left' taken rest × Grows sink.written sink.written' text
    × StatesSo form (pair_of delegator operator) status taken rest text

-- a source that tells, and an input within its limit, of which each line leads on, with statements of the pair
pub record StatesCalmly (form : Form) (delegator operator : Account) (left : Option (List ℕ)) : Type 0 where
  pub input : List ℕ
  pub last : Stating
  pub left_is : left ≡ Some input
  pub good : stated_in form (pair_of delegator operator) input ≡ Ok (Some last)
  pub some : last.made ≢ []
  pub short : length input ≤ most_bytes
