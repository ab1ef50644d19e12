-- Answers of a chain to lines, from the states for which it stands.
use Rattle.std.proofs.Common.{◌≡◌, ◌∙◌, inl, ℕ, ◌≤◌, false, nat_lt, List, [], ◌++◌, length, Option, Some, None, Result, Ok, Err, IfSome, refl, sym, ap, subst, arith}
use Rattle.base_bech32.specs.declared.form.Form.{Form}
use Rattle.base_io.specs.{Outside.IsPart, Calls.{AddsPart, Stays}}
use Rattle.base_roles.specs.declared.{facts.Fact.Fact, refusal.Refusal.Refusal}
use Rattle.base_coins.specs.Coins.{Money}
use Rattle.base_messages.specs.declared.{block.Block.Block, faults.{BlockFault.BlockFault, LineFault.LineFault}}
use Rattle.base_messages.specs.declared.{report.BlockReport.BlockReport, genesis.Genesis.Genesis}
use Rattle.base_messages.specs.declared.faults.BlockFault.TheVariants as block
use Rattle.base_messages.specs.declared.faults.LineFault.TheVariants as fault
use Rattle.line_json.specs.{Reading.Fails, Genesis.genesis_of, Block.block_of, Written.{text_of_genesis, text_of_block}}
use Rattle.rule_modules.specs.Chain.{State}
use Rattle.rule_machine.specs.{GenesisConditions.start_condition, GenesisState.Start, Machine.{Step, step}}
use Rattle.chain_modules.specs.Kept.{KeptState, StandsFor}
use Rattle.chain_blocks.specs.Answers.{Applies}
use Rattle.chain_whole.specs.{Answers.{LeavesChain, Starts}, Chained.{Chained, Listened}}
use Rattle.run_app.specs.declared.status.LineStop.{LineStop}
use Rattle.run_app.specs.Machine.{Standing, Answer, StandsAt, HoldsAnswer, longest, not_read, begun, told, started_answer, genesis_answer, not_applied, applied_answer, block_answer, answer_within, line_answer, report_of}
use Rattle.run_app.specs.{Runs.{ran_report, Reported}, Parts.{IsFault, Grows, Finishes, FinishStops, UnlessNoMemory}}
use Rattle.run_app.proofs.{PartLemmas.untold, RunLemmas.no_growth}
use Rattle.run_app.specs.declared.status.EndStop.TheVariants as ends
use Rattle.run_app.specs.declared.status.InputFault.TheVariants as input

-- an answer of this text, after which this state stands
abbrev answer_of : List ℕ → State → Result Answer LineStop
answer_of text p = Ok (record { text = text; standing = Some p })

-- the answer to a genesis that starts so
abbrev started_with : Genesis → Result Start Refusal → Result Answer LineStop
started_with g r = Ok (told (begun g r))

-- ---- the genesis

-- a genesis that starts a chain is answered by its supply, and the chain stands for its state
pub begins : (form : Form) (n : ℕ) (line : List ℕ) (g : Genesis) (facts : List Fact) (x : Chained) (coins : Money) (held held' : List ℕ) → genesis_of form line ≡ Ok g → start_condition g ≡ None → Starts g facts x.kept
    → ((p : State) → StandsFor x.kept p → coins ≡ p.view.bank.supplies) → held' ≡ held ++ text_of_genesis coins → HoldsAnswer (genesis_answer n (genesis_of form line)) held held' (StandsAt (Some x))
begins form n line g facts x coins held held' read none starts supply is = (
  record { text = text_of_genesis coins; standing = Some starts.0 },
  ap (genesis_answer n) read
      ∙ ap (started_answer n g) none
      ∙ ap (λ (r : Result Start Refusal). started_with g r) starts.1
      ∙ ap (λ (t : List ℕ). answer_of t starts.0) (sym (ap text_of_genesis (supply starts.0 starts.2))),
  is,
  starts.2,
)

-- ---- lines that are not too long

-- such a line is answered as it is read
fits : (form : Form) (n : ℕ) (s : Standing) (line : List ℕ) → length line ≤ longest → line_answer form n s line ≡ answer_within form n s line
unfolding line_answer
fits form n s line short =
    let e : nat_lt longest (length line) ≡ false = grind (arith, short) in
    rw e refl

-- the first line is answered as its genesis
pub first_fits : (form : Form) (n : ℕ) (s : Standing) (line : List ℕ) → StandsAt None s → length line ≤ longest → line_answer form n s line ≡ genesis_answer n (genesis_of form line)
first_fits form n s line none short = fits form n s line short ∙ ap (λ (x : Standing). answer_within form n x line) none

-- a line behind it as its block
pub block_fits : (form : Form) (n : ℕ) (p : State) (line : List ℕ) → length line ≤ longest → line_answer form n (Some p) line ≡ block_answer form n p (block_of form line)
block_fits form n p line short = fits form n (Some p) line short

-- ---- blocks

-- a line that is no block has the fault of its reading
pub block_not_read : (form : Form) (n : ℕ) (line : List ℕ) (p : State) (why : LineFault) → Fails why (block_of form line) → IsFault (not_read n why) (block_answer form n p (block_of form line))
block_not_read form n line p fault.NotJson h = ap (block_answer form n p) h
block_not_read form n line p (fault.BadShape member) h = ap (block_answer form n p) h
block_not_read form n line p fault.NoMemory h = tt

-- what the answer to a block that was read comes to
answered_by : (form : Form) (n : ℕ) (line : List ℕ) (b : Block) (p : State) (r : Result Step BlockFault) → block_of form line ≡ Ok b → step b p ≡ r → block_answer form n p (block_of form line) ≡ applied_answer form n r
answered_by form n line b p r read steps = ap (block_answer form n p) read ∙ ap (applied_answer form n) steps

-- a block that is applied is answered by its report, and what is kept stands for the state after it
pub steps_on : (form : Form) (n : ℕ) (line : List ℕ) (b : Block) (p : State) (report : BlockReport) (new : Chained) (held held' : List ℕ) → block_of form line ≡ Ok b → Applies b p new.kept (Ok report)
    → held' ≡ held ++ text_of_block form report → HoldsAnswer (block_answer form n p (block_of form line)) held held' (StandsAt (Some new))
steps_on form n line b p report new held held' read steps is = (
  record { text = text_of_block form report; standing = Some steps.0 },
  answered_by form n line b p (Ok (record { report = report; state = steps.0 })) read steps.1,
  is,
  steps.2,
)

-- one that is not applied has its fault
pub faults_on : (form : Form) (n : ℕ) (line : List ℕ) (b : Block) (p : State) (k : KeptState) (why : BlockFault) → block_of form line ≡ Ok b → Applies b p k (Err why)
    → IsFault (not_applied n why) (block_answer form n p (block_of form line))
faults_on form n line b p k (block.BadHeight due) read h = answered_by form n line b p (Err (block.BadHeight due)) read h
faults_on form n line b p k (block.BadTime last) read h = answered_by form n line b p (Err (block.BadTime last)) read h
faults_on form n line b p k (block.UnknownVote place) read h = answered_by form n line b p (Err (block.UnknownVote place)) read h
faults_on form n line b p k (block.RepeatedVote place) read h = answered_by form n line b p (Err (block.RepeatedVote place)) read h
faults_on form n line b p k (block.BadPower place) read h = answered_by form n line b p (Err (block.BadPower place)) read h
faults_on form n line b p k (block.BadEvidence place) read h = answered_by form n line b p (Err (block.BadEvidence place)) read h
faults_on form n line b p k (block.RatioLimit over) read h = answered_by form n line b p (Err (block.RatioLimit over)) read h
faults_on form n line b p k block.NoMemory read h = tt

-- ---- what is written

-- a text that was written is the growth
pub grown : (w w' : Option (List ℕ)) (text text' : List ℕ) → text' ≡ text → IfSome w (λ (bytes : List ℕ). w' ≡ Some (bytes ++ text')) → Grows w w' text
grown w w' text text' same wrote = λ old held.
    let h : w' ≡ Some (old ++ text') = subst (λ (o : Option (List ℕ)). IfSome o (λ (bytes : List ℕ). w' ≡ Some (bytes ++ text'))) held wrote in
    h ∙ ap (λ (t : List ℕ). Some (old ++ t)) same

-- a block that is not applied leaves the chain, unless memory was wanting
pub stays_on : {E P : Type 0} (heard : E → P) (old new : Listened E) (n : ℕ) (why : BlockFault) (Q : Type 0) → Q → LeavesChain heard old new (Err why) → UnlessNoMemory (not_applied n why) (Q × (new.kept ≡ old.kept) × (new.settled ≡ old.settled))
stays_on heard old new n (block.BadHeight due) Q q h = (q, h.1.kept, h.1.settled)
stays_on heard old new n (block.BadTime last) Q q h = (q, h.1.kept, h.1.settled)
stays_on heard old new n (block.UnknownVote place) Q q h = (q, h.1.kept, h.1.settled)
stays_on heard old new n (block.RepeatedVote place) Q q h = (q, h.1.kept, h.1.settled)
stays_on heard old new n (block.BadPower place) Q q h = (q, h.1.kept, h.1.settled)
stays_on heard old new n (block.BadEvidence place) Q q h = (q, h.1.kept, h.1.settled)
stays_on heard old new n (block.RatioLimit over) Q q h = (q, h.1.kept, h.1.settled)
stays_on heard old new n block.NoMemory Q q h = tt

-- ---- the report

-- no chain is there
pub none_yet : (o : Option Chained) (s : Standing) → ((x : Chained) → o ≡ Some x → ⊥) → StandsAt o s → StandsAt None s
none_yet None s h stood = stood
none_yet (Some x) s h stood = absurd (h x refl)

-- before the genesis there is none
pub lacking : (form : Form) (s : Standing) (w : Option (List ℕ)) → StandsAt None s → FinishStops form untold 1 s [] w w (ends.Lacking 1 input.Missing)
unfolding report_of
lacking form s w none = ([], no_growth w, record { end = s; answered = (refl, refl); fault_is = ap (report_of form) none; left = tt })

-- the report of a chain is that of the state for which it stands
reported_at : (form : Form) (x : Chained) (s : Standing) (text : List ℕ) → StandsAt (Some x) s → ((p : State) → StandsFor x.kept p → report_of form (Some p) ≡ Ok text) → report_of form s ≡ Ok text
reported_at form x None text stood reports = absurd stood
reported_at form x (Some p) text stood reports = reports p stood

module _ (form : Form) (x : Chained) (s : Standing) (text text' : List ℕ) (stood : StandsAt (Some x) s) (reports : (p : State) → StandsFor x.kept p → report_of form (Some p) ≡ Ok text) (same : text' ≡ text) where
  part : (front : List ℕ) → IsPart front text' → Reported form untold 1 s [] front
  part front p = record {
    end = s;
    done = [];
    report = text;
    front = front;
    answered = (refl, refl);
    report_is = reported_at form x s text stood reports;
    part = subst (IsPart front) same p;
    text_is = refl;
    left = tt;
  }

  -- a part of it was written
  pub report_failed : (w w' : Option (List ℕ)) → AddsPart w w' text' → FinishStops form untold 1 s [] w w' ends.Report
  report_failed w w' adds = (adds.0, adds.2, part adds.0 adds.1)

  pub report_full : (w w' : Option (List ℕ)) → AddsPart w w' text' → FinishStops form untold 1 s [] w w' ends.NoMemory
  report_full w w' adds = (adds.0, adds.2, inl (part adds.0 adds.1))

  -- all of it was written
  pub report_written : (w w1 w' : Option (List ℕ)) → IfSome w (λ (bytes : List ℕ). w1 ≡ Some (bytes ++ text')) → Stays w1 w' → Finishes form untold 1 s [] w w'
  report_written w w1 w' wrote stays = (text, record { end = s; done = []; answered = (refl, refl); ran = ap ran_report (reported_at form x s text stood reports); left = tt }, λ old at. stays (old ++ text) (grown w w1 text text' same wrote old at))

  -- all of it was written, and not handed on
  pub report_unflushed : (w w1 w' : Option (List ℕ)) → IfSome w (λ (bytes : List ℕ). w1 ≡ Some (bytes ++ text')) → Stays w1 w' → FinishStops form untold 1 s [] w w' ends.Flush
  report_unflushed w w1 w' wrote stays = let f = report_written w w1 w' wrote stays in (f.0, f.2, f.1)
