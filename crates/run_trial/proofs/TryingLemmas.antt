-- How a trial goes on, block by block.
use Rattle.std.proofs.Common.{◌≡◌, ◌∙◌, ap, sym, subst, refl, arith, ℕ, suc, ◌+◌, ◌-◌, ◌<◌, ◌≤◌, List, [], ◌∷◌, ◌++◌, length, length-append, append_assoc, append-nil, Some, None, Result, Ok, Err, sum_by}
use Rattle.std.proofs.lemmas.List.Sums.{sum_by-append, sum_by-cons}
use Rattle.base_roles.specs.{declared.{facts.Fact.Fact, refusal.Refusal.Refusal}, Flow.{◌>>=◌}}
use Rattle.base_messages.specs.declared.{block.Block.Block, faults.BlockFault.BlockFault, genesis.Genesis.Genesis}
use Rattle.base_messages.specs.declared.report.BlockReport.{BlockReport}
use Rattle.base_coins.specs.Coins.{Money}
use Rattle.base_messages.specs.declared.faults.BlockFault.TheVariants as why
use Rattle.rule_modules.specs.Chain.{State, shared_in}
use Rattle.rule_machine.specs.{GenesisState.{Start, chain_started}, Machine.{Run, Step, going_on, run_of, step}}
use Rattle.chain_modules.specs.Kept.{KeptState, StandsFor}
use Rattle.chain_blocks.specs.Answers.{AnswersStep}
use Rattle.chain_whole.specs.Answers.{Starts}
use Rattle.line_json.specs.Line.{line_of}
use Rattle.run_generated.specs.Input.{block_drawn, blocks_of, first_genesis}
use Rattle.run_trial.specs.declared.counts.Counts.{Counts}
use Rattle.run_trial.specs.Summary.{HasRoom, Stopped, accepted_in, burned_in, counted, counts_of, outcome_by, refused_in, run_outcome, summary_data}
use Rattle.run_trial.specs.declared.fault.TrialFault.{TrialFault}
use Rattle.run_trial.specs.Trying.{AddsStep, EndsSo, HasRoomFor, IsFaultOf, IsOnTheWay, IsTrialFault, IsStarted, StopsSo, behind_reports, drawn_run, stopped_at}
use Rattle.run_trial.proofs.Room.{counts_have_room}
use Rattle.run_trial.specs.declared.fault.TrialFault.TheVariants as trial

-- ---- a block

-- there is room for the counts of the report that was answered
pub room_for : (c : Counts) (r : Result Step BlockFault) (k : KeptState) (report : BlockReport) → AnswersStep r k (Ok report) → HasRoomFor c r → HasRoom c report
room_for c r k report a h = subst (HasRoomFor c) a.1 h

-- it was counted
pub step_added : (c c' : Counts) (r : Result Step BlockFault) (k : KeptState) (report : BlockReport) → AnswersStep r k (Ok report) → c' ≡ counted c report → AddsStep r c c' k
step_added c c' r k report a e = subst (λ due. AddsStep due c c' k) (sym a.1) (e, a.2)

-- a fault that was answered is the block's own, or memory is wanting
pub fault_told : (r : Result Step BlockFault) (k : KeptState) (f : BlockFault) → AnswersStep r k (Err f) → IsFaultOf r f
fault_told r k (why.BadHeight n) a = a
fault_told r k (why.BadTime t) a = a
fault_told r k (why.UnknownVote n) a = a
fault_told r k (why.RepeatedVote n) a = a
fault_told r k (why.BadPower n) a = a
fault_told r k (why.BadEvidence n) a = a
fault_told r k (why.RatioLimit over) a = a
fault_told r k why.NoMemory a = tt

-- ---- counts of one more report

counts_by : (blocks accepted refused burned blocks' accepted' refused' burned' : ℕ) → blocks ≡ blocks' → accepted ≡ accepted' → refused ≡ refused' → burned ≡ burned'
    → ◌≡◌ {A = Counts} (record { blocks = blocks; accepted = accepted; refused = refused; burned = burned }) (record { blocks = blocks'; accepted = accepted'; refused = refused'; burned = burned' })
counts_by blocks accepted refused burned blocks' accepted' refused' burned' e f g h = rw (e, f, g, h) refl

counts_more : (reports : List BlockReport) (b : BlockReport) → counts_of (reports ++ b ∷ []) ≡ counted (counts_of reports) b
counts_more reports b = counts_by _ _ _ _ _ _ _ _ (length-append reports (b ∷ [])) (more accepted_in) (more refused_in) (more burned_in)
  where
    more : (f : BlockReport → ℕ) → sum_by f (reports ++ b ∷ []) ≡ sum_by f reports + f b
    more f =
        let split = sum_by-append f reports (b ∷ []) in
        let one = sum_by-cons f b [] in
        omega (arith, split, one)

-- ---- the run

-- the next block's step, and the run behind it
next_run : (before many x : ℕ) (p : State) → before < many
    → drawn_run before (many - before) x p ≡ going_on p (step (block_drawn (before + 1) x).value p) (λ u. drawn_run (before + 1) (many - (before + 1)) (block_drawn (before + 1) x).state u)
next_run before many x p h =
    let one_more : many - before ≡ suc (many - (before + 1)) = omega (arith, h) in
    ap (λ n. drawn_run before n x p) one_more

-- the same with what the next block comes to
stepped_run : (before many x : ℕ) (p : State) (b : Block) (r : Result Step BlockFault) → before < many → b ≡ (block_drawn (before + 1) x).value → step b p ≡ r
    → drawn_run before (many - before) x p ≡ going_on p r (λ u. drawn_run (before + 1) (many - (before + 1)) (block_drawn (before + 1) x).state u)
stepped_run before many x p b r h is e =
    next_run before many x p h
    ∙ ap (λ due. going_on p due (λ u. drawn_run (before + 1) (many - (before + 1)) (block_drawn (before + 1) x).state u)) (ap (λ c. step c p) (sym is) ∙ e)

abbrev with_reports : Run → List BlockReport → Run
with_reports r reports = record r { reports = reports }

pub way_begins : (k : KeptState) (many x x' : ℕ) (c : Counts) (p : State) → StandsFor k p → x' ≡ x → c ≡ counts_of [] → IsOnTheWay (run_of (blocks_of x many) p) 0 many x' c k
way_begins k many x x' c p stands e none =
    let all : many - 0 ≡ many = omega arith in
    record {
      reports = [];
      state = p;
      stands = stands;
      counts = none;
      so_many = refl;
      run = sym (ap (λ n. drawn_run 0 n x' p) all ∙ ap (λ s. drawn_run 0 many s p) e);
    }

pub way_goes_on : (whole : Run) (before many x x' : ℕ) (c c' : Counts) (k k' : KeptState) (b : Block) → before < many → b ≡ (block_drawn (before + 1) x).value → x' ≡ (block_drawn (before + 1) x).state
    → (w : IsOnTheWay whole before many x c k) → AddsStep (step b w.state) c c' k' → IsOnTheWay whole (before + 1) many x' c' k'
way_goes_on whole before many x x' c c' k k' b h is state w added = by (step b w.state) refl added
  where
    by : (r : Result Step BlockFault) → step b w.state ≡ r → AddsStep r c c' k' → IsOnTheWay whole (before + 1) many x' c' k'
    by (Err why) e a = absurd a
    by (Ok s) e a =
        let rest = drawn_run (before + 1) (many - (before + 1)) x' s.state in
        let split = length-append w.reports (s.report ∷ []) in
        record {
          reports = w.reports ++ s.report ∷ [];
          state = s.state;
          stands = a.1;
          counts = a.0 ∙ ap (λ d. counted d s.report) w.counts ∙ sym (counts_more w.reports s.report);
          so_many = omega (arith, split, w.so_many);
          run =
              w.run ∙ ap (behind_reports w.reports) (stepped_run before many x w.state b (Ok s) h is e)
              ∙ ap (λ y. behind_reports w.reports (going_on w.state (Ok s) (λ u. drawn_run (before + 1) (many - (before + 1)) y u))) (sym state)
              ∙ ap (with_reports rest) (sym (append_assoc w.reports (s.report ∷ []) rest.reports));
        }

-- there is room for the counts of the next
pub way_has_room : (seed many : ℕ) (start : Start) (before x : ℕ) (c : Counts) (k : KeptState) (b : Block) → many ≤ 100000 → chain_started first_genesis ≡ Ok start
    → before < many → b ≡ (block_drawn (before + 1) x).value → (w : IsOnTheWay (run_of (blocks_of seed many) start.state) before many x c k) → HasRoomFor c (step b w.state)
way_has_room seed many start before x c k b few started h is w = by (step b w.state) refl
  where
    by : (r : Result Step BlockFault) → step b w.state ≡ r → HasRoomFor c r
    by (Err why) e = tt
    by (Ok s) e =
        let rest = drawn_run (before + 1) (many - (before + 1)) (block_drawn (before + 1) x).state s.state in
        let whole : run_of (blocks_of seed many) start.state ≡ behind_reports w.reports (going_on w.state (Ok s) (λ u. drawn_run (before + 1) (many - (before + 1)) (block_drawn (before + 1) x).state u)) =
        w.run ∙ ap (behind_reports w.reports) (stepped_run before many x w.state b (Ok s) h is e) in
        subst (λ d. HasRoom d s.report) (sym w.counts)
        (counts_have_room seed many start w.reports rest.reports s.report few started (ap (λ (r : Run). r.reports) whole))

-- all blocks were applied
pub way_ends : (whole : Run) (before many x : ℕ) (c : Counts) (k : KeptState) → many ≤ before → IsOnTheWay whole before many x c k → EndsSo whole c k
way_ends whole before many x c k h w =
    let none : many - before ≡ 0 = omega (arith, h) in
    let last : whole ≡ behind_reports w.reports (run_of [] w.state) = w.run ∙ ap (λ n. behind_reports w.reports (drawn_run before n x w.state)) none in
    record {
      fault = ap (λ (r : Run). r.fault) last;
      counts = w.counts ∙ ap counts_of (sym (ap (λ (r : Run). r.reports) last ∙ append-nil w.reports));
      stands = subst (StandsFor k) (sym (ap (λ (r : Run). r.state) last)) w.stands;
    }

-- the next block may not follow
pub way_stops : (whole : Run) (before many x : ℕ) (c : Counts) (k : KeptState) (b : Block) (why : BlockFault) → before < many → b ≡ (block_drawn (before + 1) x).value
    → (w : IsOnTheWay whole before many x c k) → step b w.state ≡ Err why → (whole.fault ≡ Some why) × (before + 2 ≡ length whole.reports + 2)
way_stops whole before many x c k b why h is w e =
    let last : whole ≡ behind_reports w.reports (going_on w.state (Err why) (λ u. drawn_run (before + 1) (many - (before + 1)) (block_drawn (before + 1) x).state u)) =
    w.run ∙ ap (behind_reports w.reports) (stepped_run before many x w.state b (Err why) h is e) in
    let reports : whole.reports ≡ w.reports = ap (λ (r : Run). r.reports) last ∙ append-nil w.reports in
    (ap (λ (r : Run). r.fault) last, ap (λ n. n + 2) (sym w.so_many ∙ ap length (sym reports)))

-- how the run stops there
pub way_breaks : (whole : Run) (before many x : ℕ) (c : Counts) (k : KeptState) (f : BlockFault) (t : TrialFault) → before < many → t ≡ stopped_at before f
    → (w : IsOnTheWay whole before many x c k) → IsFaultOf (step (block_drawn (before + 1) x).value w.state) f → StopsSo whole t
way_breaks whole before many x c k f t h is w due = subst (StopsSo whole) (sym is) (by f due)
  where
    by : (g : BlockFault) → IsFaultOf (step (block_drawn (before + 1) x).value w.state) g → StopsSo whole (stopped_at before g)
    by (why.BadHeight n) e = way_stops whole before many x c k (block_drawn (before + 1) x).value (why.BadHeight n) h refl w e
    by (why.BadTime n) e = way_stops whole before many x c k (block_drawn (before + 1) x).value (why.BadTime n) h refl w e
    by (why.UnknownVote n) e = way_stops whole before many x c k (block_drawn (before + 1) x).value (why.UnknownVote n) h refl w e
    by (why.RepeatedVote n) e = way_stops whole before many x c k (block_drawn (before + 1) x).value (why.RepeatedVote n) h refl w e
    by (why.BadPower n) e = way_stops whole before many x c k (block_drawn (before + 1) x).value (why.BadPower n) h refl w e
    by (why.BadEvidence n) e = way_stops whole before many x c k (block_drawn (before + 1) x).value (why.BadEvidence n) h refl w e
    by (why.RatioLimit over) e = way_stops whole before many x c k (block_drawn (before + 1) x).value (why.RatioLimit over) h refl w e
    by why.NoMemory e = tt

-- ---- the whole input

-- what the input comes to from a start
abbrev trial_by : Result Start Refusal → ℕ → ℕ → Result (Result (List ℕ) Stopped) Refusal
trial_by started seed many = started >>= λ s. Ok (run_outcome (run_of (blocks_of seed many) s.state))

module _ (started : Result Start Refusal) (s : Start) (seed many : ℕ) (is : started ≡ Ok s) where
  abbrev whole : Run
  whole = run_of (blocks_of seed many) s.state

  from_start : trial_by started seed many ≡ Ok (run_outcome whole)
  from_start = ap (λ d. trial_by d seed many) is

  pub summed_up : (c : Counts) (k : KeptState) (text : List ℕ) → EndsSo whole c k → text ≡ line_of (summary_data c whole.state.view.bank.supplies (shared_in whole.state).purses.pool)
      → trial_by started seed many ≡ Ok (Ok text)
  summed_up c k text e told =
      from_start ∙ ap (λ f. Ok (outcome_by whole f)) e.fault
      ∙ ap (λ (t : List ℕ). Ok (Ok t)) (ap (λ d. line_of (summary_data d whole.state.view.bank.supplies (shared_in whole.state).purses.pool)) (sym e.counts) ∙ sym told)

  pub stopped_so : (f : TrialFault) → StopsSo whole f → IsTrialFault (trial_by started seed many) f
  stopped_so (trial.Block n why) e =
      from_start ∙ ap (λ f. Ok (outcome_by whole f)) e.0 ∙ ap (λ l. Ok (Err (record { line = l; fault = why }))) (sym e.1)
  stopped_so trial.NoMemory e = tt

-- the chain of the generated genesis is started
pub begun : (g : Genesis) (facts : List Fact) (k : KeptState) → g ≡ first_genesis → Starts g facts k → IsStarted k
begun g facts k e s = record {
  start = record { facts = facts; state = s.0 };
  started = ap chain_started (sym e) ∙ s.1;
  stands = s.2;
}
