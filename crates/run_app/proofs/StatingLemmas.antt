-- Statements of a pair, of an input that is taken line by line, and to its end.
use Rattle.std.proofs.Common.{◌≡◌, ◌≢◌, ◌∙◌, ◌⊎◌, inl, inr, Bool, true, false, not, is_some, ℕ, ◌+◌, ◌<◌, ◌≤◌, le-ltb, lt-ltb, List, [], ◌∷◌, ◌++◌, append-nil, drop, length, length-append, Option, Some, None, Result, Ok, Err, refl, sym, ap, subst, arith, add-zero, IfErr, OnOk, flat_map}
use Rattle.std.proofs.lemmas.Result.{IfErr-weaker, on_ok_weaker}
use Rattle.base_bech32.specs.declared.form.Form.{Form}
use Rattle.base_coins.specs.Steps.{◌>>=◌}
use Rattle.base_decimals.specs.declared.over.Over.{Over}
use Rattle.base_messages.specs.declared.{block.Block.Block, faults.{BlockFault.BlockFault, LineFault.LineFault}}
use Rattle.base_messages.specs.declared.{genesis.Genesis.Genesis, report.BlockReport.BlockReport}
use Rattle.base_messages.specs.declared.faults.BlockFault.TheVariants as block
use Rattle.base_messages.specs.declared.faults.LineFault.TheVariants as unread
use Rattle.base_roles.specs.declared.{entities.Validator.Validator, facts.Fact.Fact, refusal.Refusal.Refusal}
use Rattle.base_types.specs.declared.account.Account.{Account}
use Rattle.chain_blocks.specs.Answers.{Applies}
use Rattle.chain_modules.specs.Kept.{KeptState, StandsFor}
use Rattle.chain_whole.specs.{Answers.{HasHeard, IsGenesisFault, Starts}, Chained.Listened}
use Rattle.chain_whole.specs.declared.fault.ChainFault.{ChainFault}
use Rattle.chain_whole.specs.declared.fault.ChainFault.TheVariants as chain
use Rattle.line_json.specs.{Reading.Gives, Genesis.genesis_of, Block.block_of}
use Rattle.line_statements.specs.Statements.{text_of_statement}
use Rattle.mod_recorder.specs.{declared.note.Note.Note, Notes.{Noted, ended, heard, nothing_noted, parted}}
use Rattle.mod_recorder.specs.Recorded.{Recorded, new_recorded}
use Rattle.mod_statement.specs.declared.{fault.StatementFault.StatementFault, statement.Statement.Statement}
use Rattle.mod_statement.specs.Answers.{IsFaultOf}
use Rattle.mod_statement.specs.declared.fault.StatementFault.TheVariants as fault
use Rattle.mod_tracking.specs.{declared.tracker.Pair.Pair, Stating.{Follows, Taken, block_taken, statements_of, taken}}
use Rattle.mod_tracking.specs.Tracking.{Tracked, block_followed, untracked}
use Rattle.rule_machine.specs.GenesisConditions.{start_condition}
use Rattle.rule_machine.specs.{Listening.{Hearing, block_heard, genesis_heard, heard_in, hearing}, Machine.step}
use Rattle.rule_machine.specs.Promises.{facts_of}
use Rattle.rule_modules.specs.Chain.{State}
use Rattle.run_app.specs.declared.status.{LineStop.LineStop, Status.Status}
use Rattle.run_app.specs.declared.status.Status.TheVariants.{Done, Usage, BadInput, Limit, ReadFault, WriteFault, KeepFault, NoMemory, BadStore, WrongStore, NotFound, NoPast}
use Rattle.run_app.specs.declared.status.InputFault.TheVariants.{Missing}
use Rattle.run_app.specs.{declared.status.LimitKind.TheVariants.{Line, Input, Ratio, Bound}, Checks.not_bounded}
use Rattle.run_app.specs.{Ending.status_of, Lines.{lines_of, whole_from}}
use Rattle.run_app.specs.{Machine.{IsNotStarted, longest, not_applied, not_read}, Outcome.{AreEnded, most_bytes}}
use Rattle.run_app.specs.Seen.{sink_told, source_told}
use Rattle.run_app.specs.Statements.{IsUnled, IsUnstated, IsUntold, LeadsTo, MayStopUnwritten, StatementEnds, StatesAt, StatesCalmly, StatesLast, Stating, TakesTold, applied_so, begun_unless, pair_of, started_so, stated_at, stated_block, stated_from, stated_genesis, stated_in, stated_within, stepped_so, told_more, told_of, validator_of}
use Rattle.run_app.specs.Taking.{Halts, IsUntaken, Leads, MayStop, MeetsLong, Pauses, TakesAll, TakesPart, UnlessUnwritten}
use Rattle.run_app.{specs.Writes.Writes, proofs.DriveLemmas.{told_first, told_rest}}
use Rattle.run_app.proofs.{ModeLemmas.{quiet_at, written_to_end}, StopLemmas.ended_first}

-- ---- what is told of the pair

-- nothing, where there is no pair
pub nothing_told : (p : Option Pair) (v : Option Validator) (height : ℕ) (facts : List Fact) (notes : List Note) (t : Tracked) (made : List Statement) → p ≡ None → TakesTold (block_taken p v height facts notes t) made t made
nothing_told p v height facts notes t made none = ([], ap (λ q. block_taken q v height facts notes t) none, sym (append-nil made))

module _ (p : Option Pair) (pair : Pair) (is : p ≡ Some pair) (v : Option Validator) (height : ℕ) (facts : List Fact) (notes : List Note) (t : Tracked) where
  pub told_so : (made : List Statement) (t' : Tracked) (made' : List Statement) → Follows pair height (block_followed pair v facts notes t) t' made made' → TakesTold (block_taken p v height facts notes t) made t' made'
  told_so made t' made' f = (
    f.more,
    ap (λ q. block_taken q v height facts notes t) is
        ∙ ap (λ (r : Result (List Statement) StatementFault). r >>= λ more. Ok (taken (block_followed pair v facts notes t).tracked more)) f.stated
        ∙ ap (λ (x : Tracked). Ok (taken x f.more)) (sym f.tracked_is),
    f.made_is,
  )

  pub untold_so : (n : ℕ) (why : StatementFault) (status : Status) → IsFaultOf (statements_of pair height (block_followed pair v facts notes t).payments) why → status ≡ not_bounded n why → IsUntold n (block_taken p v height facts notes t) status
  untold_so n why status h e = (why, subst (λ q. IsFaultOf (block_taken q v height facts notes t) why) (sym is) (by why h), e)
    where
      by : (f : StatementFault) → IsFaultOf (statements_of pair height (block_followed pair v facts notes t).payments) f → IsFaultOf (block_taken (Some pair) v height facts notes t) f
      by (fault.Over over) k = ap (λ (r : Result (List Statement) StatementFault). r >>= λ more. Ok (taken (block_followed pair v facts notes t).tracked more)) k
      by fault.NoSpan k = ap (λ (r : Result (List Statement) StatementFault). r >>= λ more. Ok (taken (block_followed pair v facts notes t).tracked more)) k
      by fault.NoMemory k = tt

-- there is none
pub no_pair : (p : Option Pair) → ((x : Pair) → p ≡ Some x → ⊥) → p ≡ None
no_pair None h = refl
no_pair (Some x) h = absurd (h x refl)

-- the validator of the pair
pub validator_none : (p : Option Pair) (state : State) → p ≡ None → None ≡ validator_of p state
validator_none p state none = sym (ap (λ q. validator_of q state) none)

pub validator_some : (p : Option Pair) (pair : Pair) (state : State) (v : Option Validator) → p ≡ Some pair → v ≡ validator_of (Some pair) state → v ≡ validator_of p state
validator_some p pair state v is h = h ∙ sym (ap (λ q. validator_of q state) is)

-- ---- one line

-- why it stops a run
unled_bounded : (n : ℕ) (due : Result Taken StatementFault) (state : State) (noted : Noted) (made : List Statement) (why : StatementFault) → IsFaultOf due why → IsUnled (told_more n state noted made due) (not_bounded n why)
unled_bounded n due state noted made (fault.Over over) h = ap (told_more n state noted made) h
unled_bounded n due state noted made fault.NoSpan h = ap (told_more n state noted made) h
unled_bounded n due state noted made fault.NoMemory h = tt

unled_told : (n : ℕ) (due : Result Taken StatementFault) (state : State) (noted : Noted) (made : List Statement) (status : Status) → IsUntold n due status → IsUnled (told_more n state noted made due) status
unled_told n due state noted made status h = subst (IsUnled (told_more n state noted made due)) (sym h.2) (unled_bounded n due state noted made h.0 h.1)

-- what is told of the pair leads on
leads_told : (n : ℕ) (due : Result Taken StatementFault) (k : KeptState) (state : State) (noted : Noted) (made : List Statement) (t : Tracked) (made' : List Statement) → StandsFor k state → TakesTold due made t made'
    → (next : Stating) × (told_more n state noted made due ≡ Ok next) × StandsFor k next.state × (noted ≡ next.heard) × (t ≡ next.tracked) × (made' ≡ next.made)
leads_told n due k state noted made t made' stands told = (
  record { state = state; heard = noted; tracked = t; made = made ++ told.0 },
  ap (told_more n state noted made) told.1,
  stands,
  refl,
  refl,
  told.2,
)

module _ (form : Form) (n : ℕ) (line : List ℕ) (p : Option Pair) where
  -- ---- a genesis

  pub genesis_unread : (f : LineFault) → Gives {X = Genesis} {Y = Genesis} (λ g. g) (Err f) (genesis_of form line) → IsUnled (stated_genesis n p (genesis_of form line)) (status_of (not_read n f))
  genesis_unread unread.NotJson h = ap (stated_genesis n p) h
  genesis_unread (unread.BadShape member) h = ap (stated_genesis n p) h
  genesis_unread unread.NoMemory h = tt

  module _ (g : Genesis) (read : genesis_of form line ≡ Ok g) where
    pub genesis_unstarted : (f : ChainFault) (stop : LineStop) → IsGenesisFault (start_condition g) f → IsNotStarted n f stop → IsUnled (stated_genesis n p (genesis_of form line)) (status_of stop)
    genesis_unstarted (chain.BadGenesis condition) stop h e =
        subst (λ s. IsUnled (stated_genesis n p (genesis_of form line)) (status_of s)) (sym e) (ap (stated_genesis n p) read ∙ ap (λ c. begun_unless c n p g) h)
    genesis_unstarted chain.BadItems stop h e = absurd h
    genesis_unstarted chain.NoMemory stop h e = subst (λ s. IsUnled (stated_genesis n p (genesis_of form line)) (status_of s)) (sym e) tt

    module _ (facts : List Fact) (k : KeptState) (noted : Noted) (none : start_condition g ≡ None) (starts : Starts g facts k) (hears : HasHeard (genesis_heard heard g nothing_noted) noted) where
      -- the recorder heard a genesis that starts the machine
      begun_as : (w : Hearing Noted) × (genesis_heard heard g nothing_noted ≡ Ok w) × (noted ≡ heard_in w)
      begun_as = by (genesis_heard heard g nothing_noted) refl hears
        where
          by : (q : Result (Hearing Noted) Refusal) → genesis_heard heard g nothing_noted ≡ q → HasHeard q noted → (w : Hearing Noted) × (genesis_heard heard g nothing_noted ≡ Ok w) × (noted ≡ heard_in w)
          by (Ok w) e h = (w, e, h)
          by (Err why) e h = absurd h

      leads_as : stated_genesis n p (genesis_of form line) ≡ told_more n starts.0 noted [] (block_taken p None 0 facts noted.notes untracked)
      leads_as =
          ap (stated_genesis n p) read
          ∙ ap (λ c. begun_unless c n p g) none
          ∙ ap (λ r. started_so n p r (genesis_heard heard g nothing_noted)) starts.1
          ∙ ap (started_so n p (Ok (record { facts = facts; state = starts.0 }))) begun_as.1
          ∙ ap (λ (r : Noted). told_more n starts.0 r [] (block_taken p None 0 facts r.notes untracked)) (sym begun_as.2)

      genesis_leads : (t : Tracked) (made' : List Statement) → TakesTold (block_taken p None 0 facts noted.notes untracked) [] t made'
          → (next : Stating) × (stated_genesis n p (genesis_of form line) ≡ Ok next) × StandsFor k next.state × (noted ≡ next.heard) × (t ≡ next.tracked) × (made' ≡ next.made)
      genesis_leads t made' told =
          let l = leads_told n (block_taken p None 0 facts noted.notes untracked) k starts.0 noted [] t made' starts.2 told in
          (l.0, leads_as ∙ l.1, l.2, l.3, l.4, l.5)

      genesis_untold : (status : Status) → IsUntold n (block_taken p None 0 facts noted.notes untracked) status → IsUnled (stated_genesis n p (genesis_of form line)) status
      genesis_untold status h =
          subst (λ r. IsUnled r status) (sym leads_as) (unled_told n (block_taken p None 0 facts noted.notes untracked) starts.0 noted [] status h)

  -- ---- a block

  pub block_unread : (s : Stating) (f : LineFault) → Gives {X = Block} {Y = Block} (λ b. b) (Err f) (block_of form line) → IsUnled (stated_block n p s (block_of form line)) (status_of (not_read n f))
  block_unread s unread.NotJson h = ap (stated_block n p s) h
  block_unread s (unread.BadShape member) h = ap (stated_block n p s) h
  block_unread s unread.NoMemory h = tt

  module _ (b : Block) (read : block_of form line ≡ Ok b) (s : Stating) where
    pub block_unapplied : (f : BlockFault) (k : KeptState) → Applies b s.state k (Err f) → IsUnled (stated_block n p s (block_of form line)) (status_of (not_applied n f))
    block_unapplied f k h = by f h
      where
        so : (e : BlockFault) → step b s.state ≡ Err e → stated_block n p s (block_of form line) ≡ Err (status_of (not_applied n e))
        so e h = ap (stated_block n p s) read ∙ ap (stepped_so n p s b) h

        by : (e : BlockFault) → Applies b s.state k (Err e) → IsUnled (stated_block n p s (block_of form line)) (status_of (not_applied n e))
        by (block.BadHeight due) h = so (block.BadHeight due) h
        by (block.BadTime last) h = so (block.BadTime last) h
        by (block.UnknownVote place) h = so (block.UnknownVote place) h
        by (block.RepeatedVote place) h = so (block.RepeatedVote place) h
        by (block.BadPower place) h = so (block.BadPower place) h
        by (block.BadEvidence place) h = so (block.BadEvidence place) h
        by (block.RatioLimit over) h = so (block.RatioLimit over) h
        by block.NoMemory h = tt

    module _ (report : BlockReport) (k : KeptState) (noted : Noted) (applies : Applies b s.state k (Ok report)) (hears : HasHeard (block_heard heard parted ended b (hearing s.heard s.state)) noted) where
      applied_as : (w : Hearing Noted) × (block_heard heard parted ended b (hearing s.heard s.state) ≡ Ok w) × (noted ≡ heard_in w)
      applied_as = by (block_heard heard parted ended b (hearing s.heard s.state)) refl hears
        where
          by : (q : Result (Hearing Noted) Over) → block_heard heard parted ended b (hearing s.heard s.state) ≡ q → HasHeard q noted → (w : Hearing Noted) × (block_heard heard parted ended b (hearing s.heard s.state) ≡ Ok w) × (noted ≡ heard_in w)
          by (Ok w) e h = (w, e, h)
          by (Err over) e h = absurd h

      goes_as : stated_block n p s (block_of form line) ≡ told_more n applies.0 noted s.made (told_of p s report noted)
      goes_as =
          ap (stated_block n p s) read
          ∙ ap (stepped_so n p s b) applies.1
          ∙ ap (applied_so n p s (record { report = report; state = applies.0 })) applied_as.1
          ∙ ap (λ (r : Noted). told_more n applies.0 r s.made (told_of p s report r)) (sym applied_as.2)

      block_leads : (t : Tracked) (made' : List Statement) → TakesTold (told_of p s report noted) s.made t made'
          → (next : Stating) × (stated_block n p s (block_of form line) ≡ Ok next) × StandsFor k next.state × (noted ≡ next.heard) × (t ≡ next.tracked) × (made' ≡ next.made)
      block_leads t made' told =
          let l = leads_told n (told_of p s report noted) k applies.0 noted s.made t made' applies.2 told in
          (l.0, goes_as ∙ l.1, l.2, l.3, l.4, l.5)

      block_untold : (status : Status) → IsUntold n (told_of p s report noted) status → IsUnled (stated_block n p s (block_of form line)) status
      block_untold status h = subst (λ r. IsUnled r status) (sym goes_as) (unled_told n (told_of p s report noted) applies.0 noted s.made status h)

-- the same, as a chain answers whose recorder had heard nothing
module _ (form : Form) (n : ℕ) (line : List ℕ) (p : Option Pair) (g : Genesis) (read : genesis_of form line ≡ Ok g) (facts : List Fact) (chain : Listened Recorded) (none : start_condition g ≡ None) (starts : Starts g facts chain.kept)
    {before : Recorded} (before_is : before ≡ new_recorded) (hears : HasHeard (genesis_heard heard g before.noted) chain.listener.noted) {now : Recorded} (now_is : now ≡ chain.listener) {t0 : Tracked} (t0_is : t0 ≡ untracked) where
  start_heard : HasHeard (genesis_heard heard g nothing_noted) chain.listener.noted
  start_heard = subst (λ (r : Recorded). HasHeard (genesis_heard heard g r.noted) chain.listener.noted) before_is hears

  start_told : block_taken p None 0 facts now.noted.notes t0 ≡ block_taken p None 0 facts chain.listener.noted.notes untracked
  start_told =
      ap (λ (r : Recorded). block_taken p None 0 facts r.noted.notes t0) now_is
      ∙ ap (block_taken p None 0 facts chain.listener.noted.notes) t0_is

  pub genesis_goes : {made0 : List Statement} → made0 ≡ [] → (t : Tracked) (made : List Statement) → TakesTold (block_taken p None 0 facts now.noted.notes t0) made0 t made → LeadsTo (stated_genesis n p (genesis_of form line)) (StatesAt (Some chain) t made)
  genesis_goes nothing_made t made told =
      let l = genesis_leads form n line p g read facts chain.kept chain.listener.noted none starts start_heard t made
      (subst (λ (d : Result Taken StatementFault). TakesTold d [] t made) start_told (subst (λ (l : List Statement). TakesTold (block_taken p None 0 facts now.noted.notes t0) l t made) nothing_made told)) in
      (l.0, l.1, (l.2, l.3, l.4, l.5))

  pub genesis_stops : (status : Status) → IsUntold n (block_taken p None 0 facts now.noted.notes t0) status → IsUnled (stated_genesis n p (genesis_of form line)) status
  genesis_stops status untold =
      genesis_untold form n line p g read facts chain.kept chain.listener.noted none starts start_heard status (subst (λ (d : Result Taken StatementFault). IsUntold n d status) start_told untold)

-- a chain that is settled stands for what it stood for, and its recorder heard the same
pub settled_states : (old new : Listened Recorded) (t : Tracked) (made : List Statement) (s : Stating) → new.kept ≡ old.kept → new.listener ≡ old.listener → StatesAt (Some old) t made (Some s) → StatesAt (Some new) t made (Some s)
settled_states old new t made s kept listener at = (rw (kept) at.0, rw (listener) at.1, at.2, at.3)

-- the same, as a chain answers whose recorder's notes are read from one on
module _ (form : Form) (n : ℕ) (line : List ℕ) (p : Option Pair) (b : Block) (read : block_of form line ≡ Ok b) (s : Stating) (report : BlockReport) (old new : Listened Recorded)
    (applies : Applies b s.state new.kept (Ok report)) (hears : HasHeard (block_heard heard parted ended b (hearing old.listener.noted s.state)) new.listener.noted) {t0 : Tracked} {made0 : List Statement} (at : StatesAt (Some old) t0 made0 (Some s))
    {v : Option Validator} (v_is : v ≡ validator_of p s.state) {now : Recorded} (now_is : now ≡ new.listener) {before : Recorded} (before_is : before ≡ old.listener) {place : ℕ} (place_is : place ≡ length before.noted.notes) where
  hears_so : HasHeard (block_heard heard parted ended b (hearing s.heard s.state)) new.listener.noted
  hears_so = subst (λ (r : Noted). HasHeard (block_heard heard parted ended b (hearing r s.state)) new.listener.noted) at.1 hears

  told_is : block_taken p v report.height (facts_of report) (drop place now.noted.notes) t0 ≡ told_of p s report new.listener.noted
  told_is =
      ap (λ (x : Option Validator). block_taken p x report.height (facts_of report) (drop place now.noted.notes) t0) v_is
      ∙ ap (λ (r : Recorded). block_taken p (validator_of p s.state) report.height (facts_of report) (drop place r.noted.notes) t0) now_is
      ∙ ap (λ (m : ℕ). block_taken p (validator_of p s.state) report.height (facts_of report) (drop m new.listener.noted.notes) t0) (place_is ∙ ap (λ (r : Recorded). length r.noted.notes) before_is ∙ ap (λ (r : Noted). length r.notes) at.1)
      ∙ ap (block_taken p (validator_of p s.state) report.height (facts_of report) (drop (length s.heard.notes) new.listener.noted.notes)) at.2

  goes_told : (t : Tracked) (made : List Statement) → TakesTold (block_taken p v report.height (facts_of report) (drop place now.noted.notes) t0) made0 t made → LeadsTo (stated_block n p s (block_of form line)) (StatesAt (Some new) t made)
  goes_told t made told =
      let l = block_leads form n line p b read s report new.kept new.listener.noted applies hears_so t made
      (subst (λ (d : Result Taken StatementFault). TakesTold d s.made t made) told_is (subst (λ (l : List Statement). TakesTold (block_taken p v report.height (facts_of report) (drop place now.noted.notes) t0) l t made) at.3 told)) in
      (l.0, l.1, (l.2, l.3, l.4, l.5))

  pub block_goes : {F : Type 0} (t : Tracked) (made : List Statement) (r : Result (Unit {0}) F) → OnOk r (TakesTold (block_taken p v report.height (facts_of report) (drop place now.noted.notes) t0) made0 t made)
      → OnOk r (LeadsTo (stated_block n p s (block_of form line)) (StatesAt (Some new) t made))
  block_goes t made r = on_ok_weaker r (goes_told t made)

  pub block_stops : {A : Type 0} (r : Result A Status) → IfErr r (IsUntold n (block_taken p v report.height (facts_of report) (drop place now.noted.notes) t0)) → IfErr r (IsUnled (stated_block n p s (block_of form line)))
  block_stops r = IfErr-weaker r _ _ (λ status untold. block_untold form n line p b read s report new.kept new.listener.noted applies hears_so status (subst (λ (d : Result Taken StatementFault). IsUntold n d status) told_is untold))

-- what a line within its limit leads to
within : (form : Form) (n : ℕ) (p : Option Pair) (s : Option Stating) (line : List ℕ) → length line ≤ longest → stated_at form n p s line ≡ stated_within form n p s line
unfolding stated_at
within form n p s line short = rw (le-ltb longest (length line) short) refl

-- one over it leads to nothing
over : (form : Form) (n : ℕ) (p : Option Pair) (s : Option Stating) (line : List ℕ) → longest < length line → stated_at form n p s line ≡ Err (Limit n Line)
unfolding stated_at
over form n p s line h = rw (lt-ltb longest (length line) h) refl

leads_within : (form : Form) (n : ℕ) (p : Option Pair) (s : Option Stating) (line : List ℕ) (P : Option Stating → Type 0) → length line ≤ longest → LeadsTo (stated_within form n p s line) P → LeadsTo (stated_at form n p s line) P
leads_within form n p s line P short h = (h.0, within form n p s line short ∙ h.1, h.2)

unled_within : (form : Form) (n : ℕ) (p : Option Pair) (s : Option Stating) (line : List ℕ) (status : Status) → length line ≤ longest → IsUnled (stated_within form n p s line) status → IsUnled (stated_at form n p s line) status
unled_within form n p s line status short h = subst (λ r. IsUnled r status) (sym (within form n p s line short)) h

-- the first line, before which nothing stands
module _ (form : Form) (n : ℕ) (line : List ℕ) (p : Option Pair) (short : length line ≤ longest) (o : Option (Listened Recorded)) (none : o ≡ None) (t : Tracked) (made : List Statement) where
  pub first_leads : (P : Option Stating → Type 0) → (StatesAt None t made None → LeadsTo (stated_genesis n p (genesis_of form line)) P) → (s : Option Stating) → StatesAt o t made s → LeadsTo (stated_at form n p s line) P
  first_leads P h s at =
      let here : StatesAt None t made s = subst (λ (q : Option (Listened Recorded)). StatesAt q t made s) none at in
      leads_within form n p s line P short (subst (λ (q : Option Stating). LeadsTo (stated_within form n p q line) P) (sym here.0) (h (refl, here.1, here.2)))

  pub first_stops : (status : Status) → (StatesAt None t made None → IsUnled (stated_genesis n p (genesis_of form line)) status) → (s : Option Stating) → StatesAt o t made s → IsUnled (stated_at form n p s line) status
  first_stops status h s at =
      let here : StatesAt None t made s = subst (λ (q : Option (Listened Recorded)). StatesAt q t made s) none at in
      unled_within form n p s line status short (subst (λ (q : Option Stating). IsUnled (stated_within form n p q line) status) (sym here.0) (h (refl, here.1, here.2)))

-- a line after it
later_leads : (form : Form) (n : ℕ) (line : List ℕ) (p : Option Pair) (P : Option Stating → Type 0) (chain : Listened Recorded) (t : Tracked) (made : List Statement) → length line ≤ longest
    → ((s : Stating) → StatesAt (Some chain) t made (Some s) → LeadsTo (stated_block n p s (block_of form line)) P) → (s : Option Stating) → StatesAt (Some chain) t made s → LeadsTo (stated_at form n p s line) P
later_leads form n line p P chain t made short h None at = absurd at
later_leads form n line p P chain t made short h (Some s) at = leads_within form n p (Some s) line P short (h s at)

later_stops : (form : Form) (n : ℕ) (line : List ℕ) (p : Option Pair) (status : Status) (chain : Listened Recorded) (t : Tracked) (made : List Statement) → length line ≤ longest
    → ((s : Stating) → StatesAt (Some chain) t made (Some s) → IsUnled (stated_block n p s (block_of form line)) status) → (s : Option Stating) → StatesAt (Some chain) t made s → IsUnled (stated_at form n p s line) status
later_stops form n line p status chain t made short h None at = absurd at
later_stops form n line p status chain t made short h (Some s) at = unled_within form n p (Some s) line status short (h s at)

-- the same, as it is taken: it leads on, or it stops the run
module _ (form : Form) (n : ℕ) (line : List ℕ) (p : Option Pair) (short : length line ≤ longest) (o : Option (Listened Recorded)) (chain : Listened Recorded) (some : o ≡ Some chain) (t : Tracked) (made : List Statement) {p' : Option Pair} {w w' : Option (List ℕ)} (same : p' ≡ p) (unwritten : w' ≡ w) where
  pub line_leads : (P : Option Stating → Type 0) (r : Result (Unit {0}) Status) → ((s : Stating) → StatesAt (Some chain) t made (Some s) → OnOk r (LeadsTo (stated_block n p s (block_of form line)) P))
      → OnOk r (((s : Option Stating) → StatesAt o t made s → LeadsTo (stated_at form n p s line) P) × (p' ≡ p) × (w' ≡ w))
  line_leads P (Ok done) h = (
    λ s at. later_leads form n line p P chain t made short h s (subst (λ (q : Option (Listened Recorded)). StatesAt q t made s) some at),
    same,
    unwritten,
  )
  line_leads P (Err status) h = tt

  pub line_stops : (r : Result (Unit {0}) Status) → ((s : Stating) → StatesAt (Some chain) t made (Some s) → IfErr r (IsUnled (stated_block n p s (block_of form line))))
      → IfErr r (λ status. ((s : Option Stating) → StatesAt o t made s → IsUnled (stated_at form n p s line) status) × (w' ≡ w))
  line_stops (Ok done) h = tt
  line_stops (Err status) h = (
    λ s at. later_stops form n line p status chain t made short h s (subst (λ (q : Option (Listened Recorded)). StatesAt q t made s) some at),
    unwritten,
  )

-- nothing stands before any line
pub nothing_stands : {t : Tracked} {made : List Statement} → t ≡ untracked → made ≡ [] → StatesAt None t made None
nothing_stands untouched none = (refl, untouched, none)

-- what stops a run whatever its lines led to is no fault of the sink
pub unread_stops : (n : ℕ) (f : LineFault) → MayStopUnwritten (status_of (not_read n f))
unread_stops n unread.NotJson = tt
unread_stops n (unread.BadShape member) = tt
unread_stops n unread.NoMemory = tt

pub unapplied_stops : (n : ℕ) (f : BlockFault) → MayStopUnwritten (status_of (not_applied n f))
unapplied_stops n (block.BadHeight due) = tt
unapplied_stops n (block.BadTime last) = tt
unapplied_stops n (block.UnknownVote place) = tt
unapplied_stops n (block.RepeatedVote place) = tt
unapplied_stops n (block.BadPower place) = tt
unapplied_stops n (block.BadEvidence place) = tt
unapplied_stops n (block.RatioLimit over) = tt
unapplied_stops n block.NoMemory = tt

unbounded_stops : (n : ℕ) (why : StatementFault) → MayStopUnwritten (not_bounded n why)
unbounded_stops n (fault.Over over) = tt
unbounded_stops n fault.NoSpan = tt
unbounded_stops n fault.NoMemory = tt

pub unstarted_stops : (n : ℕ) (f : ChainFault) (stop : LineStop) → IsNotStarted n f stop → MayStopUnwritten (status_of stop)
unstarted_stops n (chain.BadGenesis condition) stop e = subst (λ (s : LineStop). MayStopUnwritten (status_of s)) (sym e) tt
unstarted_stops n chain.BadItems stop e = absurd e
unstarted_stops n chain.NoMemory stop e = subst (λ (s : LineStop). MayStopUnwritten (status_of s)) (sym e) tt

pub untold_stop : (n : ℕ) (due : Result Taken StatementFault) (status : Status) → IsUntold n due status → MayStopUnwritten status
untold_stop n due status untold = subst MayStopUnwritten (sym untold.2) (unbounded_stops n untold.0)

pub untold_stops : {A : Type 0} (n : ℕ) (due : Result Taken StatementFault) (r : Result A Status) → IfErr r (IsUntold n due) → IfErr r MayStopUnwritten
untold_stops n due r = IfErr-weaker r _ _ (untold_stop n due)

pub stops_may : (status : Status) → MayStopUnwritten status → MayStop status
stops_may Done h = absurd h
stops_may Usage h = absurd h
stops_may (BadInput n f) h = tt
stops_may (Limit n kind) h = tt
stops_may ReadFault h = absurd h
stops_may WriteFault h = absurd h
stops_may KeepFault h = absurd h
stops_may NoMemory h = tt
stops_may BadStore h = absurd h
stops_may (WrongStore is_empty) h = absurd h
stops_may NotFound h = absurd h
stops_may (NoPast base last) h = absurd h

pub may_stop : {A : Type 0} (r : Result A Status) → IfErr r MayStopUnwritten → IfErr r MayStop
may_stop r = IfErr-weaker r _ _ stops_may

pub never_write : (status : Status) → MayStopUnwritten status → ◌≡◌ {A = Result (Unit {0}) Status} (Err status) (Err WriteFault) → ⊥
never_write status h e =
    let same : status ≡ WriteFault = cc in
    subst MayStopUnwritten same h

pub never_unwritten : {A : Type 0} (r : Result A Status) → IfErr r MayStopUnwritten → r ≡ Err WriteFault → ⊥
never_unwritten r h e = subst (λ q. IfErr q MayStopUnwritten) e h

-- what needs no sink holds whether it failed or not
pub quiet_on : (r : Result (Unit {0}) Status) (P : Type 0) → P → UnlessUnwritten r P
quiet_on (Ok done) P p = p
quiet_on (Err status) P p = quiet_at status P p

-- ---- lines

-- lines that stop a run stop it whatever comes behind them
stops_first : (form : Form) (n : ℕ) (p : Option Pair) (s : Option Stating) (xs ys : List (List ℕ)) (status : Status) → stated_from form n p s xs ≡ Err status → stated_from form n p s (xs ++ ys) ≡ Err status
stops_first form n p s [] ys status h = absurd cc
stops_first form n p s (x ∷ xs) ys status h = by (λ next k. stops_first form (n + 1) p (Some next) xs ys status k) (stated_at form n p s x) h
  where
    by : ((next : Stating) → stated_from form (n + 1) p (Some next) xs ≡ Err status → stated_from form (n + 1) p (Some next) (xs ++ ys) ≡ Err status) → (r : Result Stating Status) → (r >>= λ next. stated_from form (n + 1) p (Some next) xs) ≡ Err status → (r >>= λ next. stated_from form (n + 1) p (Some next) (xs ++ ys)) ≡ Err status
    by go (Ok next) k = go next k
    by go (Err why) k = k

same_ok : (x y : Option Stating) → ◌≡◌ {A = Result (Option Stating) Status} (Ok x) (Ok y) → x ≡ y
same_ok x y h = cc

-- lines behind others
goes_over : (form : Form) (n : ℕ) (p : Option Pair) (s : Option Stating) (xs ys : List (List ℕ)) (last : Option Stating) → stated_from form n p s xs ≡ Ok last → stated_from form n p s (xs ++ ys) ≡ stated_from form (n + length xs) p last ys
goes_over form n p s [] ys last h =
    ap (λ (m : ℕ). stated_from form m p s ys) (sym (add-zero n)) ∙ ap (λ (x : Option Stating). stated_from form (n + length {A = List ℕ} []) p x ys) (same_ok s last h)
goes_over form n p s (x ∷ xs) ys last h = by (λ next k. goes_over form (n + 1) p (Some next) xs ys last k) (stated_at form n p s x) h
  where
    more : n + 1 + length xs ≡ n + length (x ∷ xs)
    more = omega arith

    by : ((next : Stating) → stated_from form (n + 1) p (Some next) xs ≡ Ok last → stated_from form (n + 1) p (Some next) (xs ++ ys) ≡ stated_from form (n + 1 + length xs) p last ys) → (r : Result Stating Status)
        → (r >>= λ next. stated_from form (n + 1) p (Some next) xs) ≡ Ok last → (r >>= λ next. stated_from form (n + 1) p (Some next) (xs ++ ys)) ≡ stated_from form (n + length (x ∷ xs)) p last ys
    by go (Ok next) k = go next k ∙ ap (λ (m : ℕ). stated_from form m p last ys) more
    by go (Err why) k = absurd cc

-- a line stops a run behind others
unled_then : {A B : Type 0} (r : Result A Status) (k : A → Result B Status) (status : Status) → IsUnled r status → IsUnled (r >>= k) status
unled_then r k Done h = absurd h
unled_then r k Usage h = absurd h
unled_then r k (BadInput n f) h = ap (λ q. q >>= k) h
unled_then r k (Limit n Line) h = absurd h
unled_then r k (Limit n Input) h = absurd h
unled_then r k (Limit n (Ratio over)) h = ap (λ q. q >>= k) h
unled_then r k (Limit n (Bound over)) h = ap (λ q. q >>= k) h
unled_then r k ReadFault h = absurd h
unled_then r k WriteFault h = absurd h
unled_then r k KeepFault h = absurd h
unled_then r k NoMemory h = tt
unled_then r k BadStore h = absurd h
unled_then r k (WrongStore is_empty) h = absurd h
unled_then r k NotFound h = absurd h
unled_then r k (NoPast base last) h = absurd h

-- lines after the genesis never lead to nothing
some_stays : (form : Form) (n : ℕ) (p : Option Pair) (s : Stating) (lines : List (List ℕ)) → stated_from form n p (Some s) lines ≡ Ok None → ⊥
some_stays form n p s [] h = absurd cc
some_stays form n p s (x ∷ xs) h = by (λ next k. some_stays form (n + 1) p next xs k) (stated_at form n p (Some s) x) h
  where
    by : ((next : Stating) → stated_from form (n + 1) p (Some next) xs ≡ Ok None → ⊥) → (r : Result Stating Status) → (r >>= λ next. stated_from form (n + 1) p (Some next) xs) ≡ Ok None → ⊥
    by go (Ok next) k = go next k
    by go (Err why) k = absurd cc

no_lines : (form : Form) (n : ℕ) (p : Option Pair) (lines : List (List ℕ)) → stated_from form n p None lines ≡ Ok None → lines ≡ []
no_lines form n p [] h = refl
no_lines form n p (x ∷ xs) h = by (stated_at form n p None x) h
  where
    by : (r : Result Stating Status) → (r >>= λ next. stated_from form (n + 1) p (Some next) xs) ≡ Ok None → x ∷ xs ≡ []
    by (Ok next) k = absurd (some_stays form (n + 1) p next xs k)
    by (Err why) k = absurd cc

-- ---- what takes lines

-- of whatever holds a pair, and stands so
module _ {C : Type 0} (form : Form) (pair : C → Option Pair) (At : C → Option Stating → Type 0) where
  abbrev Takes : ℕ → List ℕ → C × Option (List ℕ) → C × Option (List ℕ) → Type 0
  Takes n line x y = ((s : Option Stating) → At x.0 s → LeadsTo (stated_at form n (pair x.0) s line) (At y.0)) × (pair y.0 ≡ pair x.0) × (y.1 ≡ x.1)

  abbrev Stops : Status → ℕ → List ℕ → C × Option (List ℕ) → C × Option (List ℕ) → Type 0
  Stops status n line x y = ((s : Option Stating) → At x.0 s → IsUnled (stated_at form n (pair x.0) s line) status) × (y.1 ≡ x.1)

  -- where lines lead
  record Led (n : ℕ) (lines : List (List ℕ)) (s : Option Stating) (x y : C × Option (List ℕ)) : Type 0 where
    last : Option Stating
    stated : stated_from form n (pair x.0) s lines ≡ Ok last
    at : At y.0 last
    same : pair y.0 ≡ pair x.0
    unwritten : y.1 ≡ x.1

  leads : (n : ℕ) (lines : List (List ℕ)) (s : Option Stating) (x y : C × Option (List ℕ)) → Leads Takes n lines x y → At x.0 s → Led n lines s x y
  leads n [] s x y e a = record {
    last = s;
    stated = refl;
    at = subst (λ (z : C × Option (List ℕ)). At z.0 s) (sym e) a;
    same = ap (λ (z : C × Option (List ℕ)). pair z.0) e;
    unwritten = ap (λ (z : C × Option (List ℕ)). z.1) e;
  }
  leads n (line ∷ lines) s x y h a =
      let z = h.0 in
      let one = h.1.0 s a in
      let rest = leads (n + 1) lines (Some one.0) z y h.2 one.2 in
      record {
        last = rest.last;
        stated = ap (λ (r : Result Stating Status). r >>= λ next. stated_from form (n + 1) (pair x.0) (Some next) lines) one.1
            ∙ subst (λ (q : Option Pair). stated_from form (n + 1) q (Some one.0) lines ≡ Ok rest.last) h.1.1 rest.stated;
        at = rest.at;
        same = rest.same ∙ h.1.1;
        unwritten = rest.unwritten ∙ h.1.2;
      }

  -- ---- an input

  halted_so : (p : Option Pair) (status : Status) (taken rest : List ℕ) (lines : List (List ℕ)) → length taken ≤ most_bytes → AreEnded lines taken rest → IsUnled (stated_from form 1 p None lines) status → IsUnstated form p status taken rest
  halted_so p Done taken rest lines short ended h = absurd h
  halted_so p Usage taken rest lines short ended h = absurd h
  halted_so p (BadInput n f) taken rest lines short ended h = inl (short, lines, ended, h)
  halted_so p (Limit n Line) taken rest lines short ended h = absurd h
  halted_so p (Limit n Input) taken rest lines short ended h = absurd h
  halted_so p (Limit n (Ratio over)) taken rest lines short ended h = (short, lines, ended, h)
  halted_so p (Limit n (Bound over)) taken rest lines short ended h = (short, lines, ended, h)
  halted_so p ReadFault taken rest lines short ended h = absurd h
  halted_so p WriteFault taken rest lines short ended h = absurd h
  halted_so p KeepFault taken rest lines short ended h = absurd h
  halted_so p NoMemory taken rest lines short ended h = short
  halted_so p BadStore taken rest lines short ended h = absurd h
  halted_so p (WrongStore is_empty) taken rest lines short ended h = absurd h
  halted_so p NotFound taken rest lines short ended h = absurd h
  halted_so p (NoPast base last) taken rest lines short ended h = absurd h

  module _ (x y : C × Option (List ℕ)) (first : At x.0 None) where
    -- a line stops the run
    halted : (status : Status) (lines : List (List ℕ)) → Halts Takes (Stops status) lines x y → IsUnled (stated_from form 1 (pair x.0) None lines) status × (y.1 ≡ x.1)
    halted status lines h =
        let led = leads 1 h.before None x h.middle h.leads first in
        let stop = h.stop.0 led.last led.at in
        let here : IsUnled (stated_from form (1 + length h.before) (pair x.0) led.last (h.line ∷ h.after)) status =
        unled_then (stated_at form (1 + length h.before) (pair x.0) led.last h.line) (λ next. stated_from form (1 + length h.before + 1) (pair x.0) (Some next) h.after) status
        (subst (λ (q : Option Pair). IsUnled (stated_at form (1 + length h.before) q led.last h.line) status) led.same stop) in (
          subst (λ r. IsUnled r status) (sym (ap (stated_from form 1 (pair x.0) None) h.lines_are ∙ goes_over form 1 (pair x.0) None h.before (h.line ∷ h.after) led.last led.stated)) here,
          h.stop.1 ∙ led.unwritten,
        )

    -- a line that is too long does
    long_stops : (n : ℕ) (taken more : List ℕ) → MeetsLong Takes n taken x y → stated_in form (pair x.0) (taken ++ more) ≡ Err (Limit n Line)
    long_stops n taken more h =
        let led = leads 1 h.before None x y h.leads first in
        let l = h.long more in
        ap (stated_from form 1 (pair x.0) None) l.2
        ∙ goes_over form 1 (pair x.0) None h.before (l.0 ∷ l.1) led.last led.stated
        ∙ ap (λ (r : Result Stating Status). r >>= λ next. stated_from form (1 + length h.before + 1) (pair x.0) (Some next) l.1) (over form (1 + length h.before) (pair x.0) led.last l.0 l.3)
        ∙ ap (λ (m : ℕ). Err (Limit m Line)) (sym h.number_is)

    -- why an input was not taken whole
    untaken : (status : Status) (taken rest : List ℕ) → IsUntaken Takes Stops status taken rest x y → IsUnstated form (pair x.0) status taken rest × (y.1 ≡ x.1)
    untaken status taken rest (inl h) =
        let t = halted status h.lines h.halts in
        (halted_so (pair x.0) status taken rest h.lines h.short h.ended t.0, t.1)
    untaken status taken rest (inr (inl h)) =
        let led = leads 1 h.meets.before None x y h.meets.leads first in
        (subst (λ (s : Status). IsUnstated form (pair x.0) s taken rest) (sym h.status_is) (h.short, λ more. long_stops h.number taken more h.meets), led.unwritten)
    untaken status taken rest (inr (inr (inl h))) =
        let led = leads 1 (whole_from [] h.bytes) None x y h.leads first in (
          subst (λ (s : Status). IsUnstated form (pair x.0) s taken rest) (sym h.status_is)
              (record { bytes = h.bytes; byte = h.byte; last = led.last; taken_is = h.taken_is; full = h.full; stated = led.stated; number = h.number_is; line = h.line }),
          led.unwritten,
        )
    untaken status taken rest (inr (inr (inr h))) = by h.cut
      where
        by : ((status ≡ ReadFault) × Leads Takes 1 (whole_from [] taken) x y) ⊎ ((status ≡ NoMemory) × Pauses Takes (whole_from [] taken) x y) → IsUnstated form (pair x.0) status taken rest × (y.1 ≡ x.1)
        by (inl (e, l)) =
            let led = leads 1 (whole_from [] taken) None x y l first in
            (subst (λ (s : Status). IsUnstated form (pair x.0) s taken rest) (sym e) (h.short, led.last, led.stated), led.unwritten)
        by (inr (e, q)) =
            let led = leads 1 q.before None x y q.leads first in
            (subst (λ (s : Status). IsUnstated form (pair x.0) s taken rest) (sym e) h.short, led.unwritten)

  -- ---- a source and a sink

  module _ (c c' : C) (w w' : Option (List ℕ)) (first : At c None) (delegator operator : Account) (is : pair c ≡ pair_of delegator operator) where
    stated_part : (left left' : Option (List ℕ)) (status : Status) → TakesPart Takes Stops status left left' (c, w) (c', w') → StatementEnds form delegator operator (source_told left left') (sink_told w w') status
    stated_part left left' status part =
        let t = untaken (c, w) (c', w') first status part.0 part.1 part.3 in (
          part.0,
          part.1,
          [],
          part.2,
          λ old told. t.1 ∙ told ∙ ap Some (sym (append-nil old)),
          inr (subst (λ (p : Option Pair). IsUnstated form p status part.0 part.1) is t.0, refl),
        )

    stated_all : (left left' w'' : Option (List ℕ)) (status : Status) → TakesAll Takes left left' (c, w) (c', w') → ((s : Option Stating) → At c' s → StatesLast form s w' w'' status) → StatementEnds form delegator operator (source_told left left') (sink_told w w'') status
    stated_all left left' w'' status all ends =
        let led = leads 1 (lines_of all.0) None (c, w) (c', w') all.3 first in
        let stated : stated_in form (pair_of delegator operator) all.0 ≡ Ok led.last = subst (λ (p : Option Pair). stated_in form p all.0 ≡ Ok led.last) is led.stated in
        by led.last stated (subst (λ (v : Option (List ℕ)). StatesLast form led.last v w'' status) led.unwritten (ends led.last led.at))
      where
        still : w'' ≡ w → (old : List ℕ) → w ≡ Some old → w'' ≡ Some (old ++ [])
        still e old told = e ∙ told ∙ ap Some (sym (append-nil old))

        unwritten : (text_status : Status) → IsUnstated form (pair_of delegator operator) text_status all.0 [] → w'' ≡ w → StatementEnds form delegator operator (source_told left left') (sink_told w w'') text_status
        unwritten s h e = (all.0, [], [], all.1, still e, inr (h, refl))

        by : (last : Option Stating) → stated_in form (pair_of delegator operator) all.0 ≡ Ok last → StatesLast form last w w'' status → StatementEnds form delegator operator (source_told left left') (sink_told w w'') status
        by None stated h =
            let none : lines_of all.0 ≡ [] = no_lines form 1 (pair_of delegator operator) (lines_of all.0) stated in
            subst (λ (s : Status). StatementEnds form delegator operator (source_told left left') (sink_told w w'') s) (sym h.0) (unwritten (BadInput 1 Missing) (inr (refl, refl, refl, none)) h.1)
        by (Some s) stated (inl (some, written)) =
            (all.0, [], written.0, all.1, written.1, inl (record { last = s; end = refl; short = all.2; stated = stated; some = some; written = written.2 }))
        by (Some s) stated (inr (inl (e, none), same)) =
            subst (λ (q : Status). StatementEnds form delegator operator (source_told left left') (sink_told w w'') q) (sym e) (unwritten NotFound (refl, all.2, s, stated, none) same)
        by (Some s) stated (inr (inr e, same)) =
            subst (λ (q : Status). StatementEnds form delegator operator (source_told left left') (sink_told w w'') q) (sym e) (unwritten NoMemory all.2 same)

-- the same, where what takes lines is known as it stands then
pub part_stated : {C : Type 0} (y : C) (form : Form) (pair : C → Option Pair) (At : C → Option Stating → Type 0) (delegator operator : Account) {x : C} {w w' left left' : Option (List ℕ)} (status : Status) → TakesPart (Takes form pair At) (Stops form pair At) status left left' (x, w) (y, w')
    → At x None → pair x ≡ pair_of delegator operator → StatementEnds form delegator operator (source_told left left') (sink_told w w') status
part_stated y form pair At delegator operator {x} {w} {w'} {left} {left'} status part first is =
    stated_part form pair At x y w w' first delegator operator is left left' status part

pub all_stated : {C : Type 0} (y : C) (form : Form) (pair : C → Option Pair) (At : C → Option Stating → Type 0) (delegator operator : Account) {x : C} {w w' left left' : Option (List ℕ)} → TakesAll (Takes form pair At) left left' (x, w) (y, w')
    → At x None → pair x ≡ pair_of delegator operator → {w'' : Option (List ℕ)} (status : Status) → ((s : Option Stating) → At y s → StatesLast form s w' w'' status) → StatementEnds form delegator operator (source_told left left') (sink_told w w'') status
all_stated y form pair At delegator operator {x} {w} {w'} {left} {left'} all first is {w''} status ends =
    stated_all form pair At x y w w' first delegator operator is left left' w'' status all ends

-- ---- what is written

some_chain : (o : Option (Listened Recorded)) (t : Tracked) (made : List Statement) (s : Stating) → StatesAt o t made (Some s) → made ≡ s.made
some_chain None t made s h = absurd (never (sym h.0))
  where
    never : None ≡ Some s → ⊥
    never e = absurd cc
some_chain (Some chain) t made s h = h.3

-- whether there is a chain, as the program asks
pub no_chain : {A : Type 0} (o : Option A) (none : Bool) → is_some o ≡ not none → none ≡ true → o ≡ None
no_chain None none h e = refl
no_chain (Some x) none h e = absurd cc

pub a_chain : {A : Type 0} (o : Option A) (none : Bool) → is_some o ≡ not none → none ≡ false → o ≡ None → ⊥
a_chain None none h e is = absurd cc
a_chain (Some x) none h e is = absurd cc

-- whether there are statements
pub none_made : {A : Type 0} (l : List A) → length l ≡ 0 → l ≡ []
none_made [] h = refl
none_made (x ∷ l) h = absurd (omega arith)

pub some_made : {A : Type 0} (l : List A) → 0 < length l → l ≢ []
some_made [] h e = absurd (omega arith)
some_made (x ∷ l) h e = absurd cc

pub last_missing : (form : Form) (o : Option (Listened Recorded)) (t : Tracked) (made : List Statement) (w : Option (List ℕ)) (s : Option Stating) → o ≡ None → StatesAt o t made s → StatesLast form s w w (BadInput 1 Missing)
last_missing form o t made w s none h = subst (λ q. StatesLast form q w w (BadInput 1 Missing)) (sym (subst (λ q. StatesAt q t made s) none h).0) (refl, refl)

module _ (form : Form) (o : Option (Listened Recorded)) (t : Tracked) (made : List Statement) (w w' : Option (List ℕ)) where
  at_last : (status : Status) → (o ≡ None → ⊥) → ((s : Stating) → made ≡ s.made → StatesLast form (Some s) w w' status) → (s : Option Stating) → StatesAt o t made s → StatesLast form s w w' status
  at_last status some next None h = absurd (by o some h)
    where
      by : (q : Option (Listened Recorded)) → (q ≡ None → ⊥) → StatesAt q t made None → ⊥
      by None k g = k refl
      by (Some chain) k g = g
  at_last status some next (Some s) h = next s (some_chain o t made s h)

  pub last_unfound : (o ≡ None → ⊥) → made ≡ [] → w' ≡ w → (s : Option Stating) → StatesAt o t made s → StatesLast form s w w' NotFound
  last_unfound some none same = at_last NotFound some (λ s is. inr (inl (refl, sym is ∙ none), same))

  pub last_unwritten : (o ≡ None → ⊥) → w' ≡ w → (s : Option Stating) → StatesAt o t made s → StatesLast form s w w' NoMemory
  last_unwritten some same = at_last NoMemory some (λ s is. inr (inr refl, same))

  pub last_written : (status : Status) → (o ≡ None → ⊥) → made ≢ [] → {bytes : List ℕ} → bytes ≡ flat_map (text_of_statement form) made → Writes bytes w w' status → (s : Option Stating) → StatesAt o t made s → StatesLast form s w w' status
  last_written status some full text written = at_last status some (λ s is. inl (
    subst (λ (l : List Statement). l ≢ []) is full,
    subst (λ (bytes : List ℕ). Writes bytes w w' status) (text ∙ ap (flat_map (text_of_statement form)) is) written,
  ))

-- ---- runs that do not begin

-- before anything is taken, memory may be wanting
pub statement_unbegun : (form : Form) (delegator operator : Account) (left w : Option (List ℕ)) → StatementEnds form delegator operator (source_told left left) (sink_told w w) NoMemory
statement_unbegun form delegator operator left w =
    let none = told_rest left [] left (told_first left) in
    let short : length {A = ℕ} [] ≤ most_bytes = omega arith in
    ([], none.0, [], none.1, λ old told. told ∙ ap Some (sym (append-nil old)), inr (short, refl))

-- ---- runs that come to their end

never_both : (r : Result (Option Stating) Status) (last : Option Stating) (status : Status) → r ≡ Ok last → r ≡ Err status → ⊥
never_both r last status good bad = absurd cc

never_empty : (last : Stating) → ◌≡◌ {A = Result (Option Stating) Status} (Ok None) (Ok (Some last)) → ⊥
never_empty last h = absurd cc

same_last : (r : Result (Option Stating) Status) (last other : Stating) → r ≡ Ok (Some last) → r ≡ Ok (Some other) → last.made ≢ [] → other.made ≡ [] → ⊥
same_last r last other good h some none =
    let same : last ≡ other = cc in
    some (ap (λ (s : Stating). s.made) same ∙ none)

module _ (form : Form) (p : Option Pair) (input taken rest : List ℕ) (last : Stating) (good : stated_in form p input ≡ Ok (Some last)) (some : last.made ≢ []) (short : length input ≤ most_bytes) (is : input ≡ taken ++ rest) where
  -- no line of the input stops the run
  never_stopped : (status : Status) (lines : List (List ℕ)) → AreEnded lines taken rest → stated_from form 1 p None lines ≡ Err status → ⊥
  never_stopped status lines ended stops =
      let m = ended_first lines taken rest ended in
      never_both (stated_in form p input) (Some last) status good (ap (stated_from form 1 p None) (ap lines_of is ∙ m.1) ∙ stops_first form 1 p None lines m.0 status stops)

  -- the input is what was taken, where nothing is left
  all_taken : rest ≡ [] → input ≡ taken
  all_taken none = is ∙ ap (λ (r : List ℕ). taken ++ r) none ∙ append-nil taken

  -- so it is all stated
  never_unstated : (status : Status) → IsUnstated form p status taken rest → (status ≡ ReadFault → ⊥) → (status ≡ Done) ⊎ (status ≡ NoMemory)
  never_unstated Done h read = inl refl
  never_unstated Usage h read = absurd h
  never_unstated (BadInput n fault) (inl h) read = absurd (never_stopped (BadInput n fault) h.1 h.2 h.3)
  never_unstated (BadInput n fault) (inr h) read =
      let nothing : lines_of input ≡ [] = ap lines_of (all_taken h.2) ∙ h.3 in
      absurd (never_empty last (sym (ap (stated_from form 1 p None) nothing) ∙ good))
  never_unstated (Limit n Line) h read = absurd (never_both (stated_in form p input) (Some last) (Limit n Line) good (ap (stated_in form p) is ∙ h.1 rest))
  never_unstated (Limit n Input) h read =
      let one : length taken ≡ most_bytes + 1 = ap length h.taken_is ∙ length-append h.bytes (h.byte ∷ []) ∙ ap (λ (m : ℕ). m + 1) h.full in
      let all : length input ≡ length taken + length rest = ap length is ∙ length-append taken rest in
      absurd (omega arith)
  never_unstated (Limit n (Ratio over)) h read = absurd (never_stopped (Limit n (Ratio over)) h.1 h.2 h.3)
  never_unstated (Limit n (Bound over)) h read = absurd (never_stopped (Limit n (Bound over)) h.1 h.2 h.3)
  never_unstated ReadFault h read = absurd (read refl)
  never_unstated WriteFault h read = absurd h
  never_unstated KeepFault h read = absurd h
  never_unstated NoMemory h read = inr refl
  never_unstated BadStore h read = absurd h
  never_unstated (WrongStore is_empty) h read = absurd h
  never_unstated NotFound h read = absurd (same_last (stated_in form p input) last h.2 good (ap (stated_in form p) (all_taken h.0) ∙ h.3) some h.4)
  never_unstated (NoPast base last_height) h read = absurd h

pub untroubled_statement : (form : Form) (delegator operator : Account) (left left' w w' : Option (List ℕ)) (status : Status) → StatementEnds form delegator operator (source_told left left') (sink_told w w') status → StatesCalmly form delegator operator left → (status ≡ ReadFault → ⊥) → (status ≡ WriteFault → ⊥) → (status ≡ Done) ⊎ (status ≡ NoMemory)
untroubled_statement form delegator operator left left' w w' status ends calm read write =
    let moved = ends.3 calm.input calm.left_is in
    elim ends.5 [
      | inl all ↦ written_to_end _ ends.2 status all.written write
      | inr none ↦ never_unstated form (pair_of delegator operator) calm.input ends.0 ends.1 calm.last calm.good calm.some calm.short moved.0 status none.0 read
    ]
