-- What the statements of an input are: its lines are a replay, and each statement of the pair is right, by the log of the state to
-- which they lead.
use Rattle.std.specs.Prelude.{◌≡◌, ◌^◌, ◌<◌, ℕ, List, [], ◌∷◌, length, All, IfOk, Some, None, Ok}
use Rattle.base_bech32.specs.declared.form.Form.{Form}
use Rattle.base_messages.specs.declared.block.Block.{Block}
use Rattle.base_roles.specs.Log.{Log}
use Rattle.law_statements.specs.Runs.{AreFew, IsOfWithdrawal, RunsPayRightly}
use Rattle.line_json.specs.Genesis.{genesis_of}
use Rattle.mod_recorder.specs.Notes.{Noted, ended, heard, nothing_noted, parted}
use Rattle.mod_statement.specs.declared.statement.Statement.{Statement}
use Rattle.mod_tracking.specs.declared.tracker.Pair.{Pair}
use Rattle.mod_tracking.specs.Stating.{statement_of}
use Rattle.mod_tracking.specs.Tracking.{Payment}
use Rattle.rule_machine.specs.Listening.{Hearing, block_heard, genesis_heard, heard_in, hearing}
use Rattle.rule_machine.specs.Machine.{step}
use Rattle.rule_machine.specs.Promises.{Replayed, run_in}
use Rattle.rule_modules.specs.Chain.{State}
use Rattle.run_app.specs.Laws.{SpellBlocks}
use Rattle.run_app.specs.Statements.{Stating, stated_from}

-- ---- few notes and facts

-- Of blocks, each of which is heard: it tells fewer facts than are counted, up to 2^64 - 1, and there are fewer notes behind it.
abbrev pub AreFewIn : List Block → State → Noted → Type 0
AreFewIn [] w before = Unit {0}
AreFewIn (b ∷ blocks) w before = IfOk (step b w) (λ s. (h : Hearing Noted)
    → block_heard heard parted ended b (hearing before w) ≡ Ok h
    → AreFew (heard_in h) s × AreFewIn blocks s.state (heard_in h))

-- and of a replay, whose genesis was heard
pub record AreFewFrom (r : Replayed) (first : Noted) : Type 0 where
  pub notes : length first.notes < 2 ^ 64
  pub facts : length r.start.facts < 2 ^ 64
  pub blocks : AreFewIn r.blocks r.start.state first

abbrev pub AreFewTold : Replayed → Type 0
AreFewTold r = (first : Hearing Noted) → genesis_heard heard r.genesis nothing_noted ≡ Ok first → AreFewFrom r (heard_in first)

-- ---- statements

-- A statement is of a payment, which is that of a withdrawal of the pair in this log, and is stated rightly by the log up to it.
pub record IsOfPayment (p : Pair) (l : Log) (s : Statement) : Type 0 where
  pub height : ℕ
  pub pay : Payment
  pub stated : statement_of p height pay ≡ Ok s
  pub paid : IsOfWithdrawal p height [] l pay

-- Lines are a replay that leads to the same state: the first spells a good genesis, the others blocks, none of which has a fault. And
-- where few notes are made and few facts are told, each statement of the pair is that of a payment which is stated rightly.
pub record AreStatedRightly (form : Form) (p : Pair) (line : List ℕ) (lines : List (List ℕ)) (last : Stating) : Type 0 where
  pub replay : Replayed
  pub genesis_is : genesis_of form line ≡ Ok replay.genesis
  pub blocks_are : SpellBlocks form lines replay.blocks
  pub no_fault : (run_in replay).fault ≡ None
  pub end_is : (run_in replay).state ≡ last.state
  pub right : AreFewTold replay → All (IsOfPayment p last.state.log) last.made

-- So it is of each input whose lines all lead on.
abbrev pub InputsAreStatedRightly : Form → Type 0
InputsAreStatedRightly form =
    (p : Pair) (line : List ℕ) (lines : List (List ℕ)) (last : Stating)
    → stated_from form 1 (Some p) None (line ∷ lines) ≡ Ok (Some last)
    → AreStatedRightly form p line lines last

-- Of runs, as a recorder hears them, and of inputs, of which statements are written.
pub record StatementsAreRight : Type 0 where
  pub runs : RunsPayRightly
  pub inputs : (form : Form) → InputsAreStatedRightly form
