-- An input whose lines all lead on is a replay, and its statements are right.
use Rattle.std.proofs.Common.{◌≡◌, ◌∙◌, Bool, true, false, ℕ, ◌+◌, length, nat_lt, if◌then◌else◌, All, List, [], ◌∷◌, ◌++◌, append_assoc, Option, Some, None, Result, Ok, Err, refl, sym, ap, subst}
use Rattle.std.proofs.lemmas.List.Elements.{All-append, All-cons, All-head, All-nil, All-tail, All-weaker}
use Rattle.base_bech32.specs.declared.form.Form.{Form}
use Rattle.base_coins.specs.Steps.{◌>>=◌}
use Rattle.base_decimals.specs.declared.over.Over.{Over}
use Rattle.base_messages.specs.declared.{block.Block.Block, faults.{BlockFault.BlockFault, LineFault.LineFault}}
use Rattle.base_messages.specs.declared.genesis.Genesis.{Genesis}
use Rattle.base_roles.specs.{Log.Log, declared.refusal.Refusal.Refusal}
use Rattle.base_roles.specs.Log as log
use Rattle.law_statements.specs.Runs.{AreFew, IsOfWithdrawal, PayRightly, PaysRightly, RunPaysRightly, followed_first, followed_in}
use Rattle.line_json.specs.{Block.block_of, Genesis.genesis_of, Written.text_of_block}
use Rattle.mod_recorder.specs.Notes.{Noted, ended, heard, nothing_noted, parted}
use Rattle.mod_statement.specs.declared.{fault.StatementFault.StatementFault, statement.Statement.Statement}
use Rattle.mod_tracking.specs.{declared.tracker.Pair.Pair, Stating.{statement_of, statements_of, taken}}
use Rattle.mod_tracking.specs.Tracking.{Followed, Payment, Tracked}
use Rattle.rule_machine.specs.{GenesisConditions.start_condition, GenesisState.{Start, chain_started}}
use Rattle.rule_machine.specs.{Machine.{Step, step}, Listening.{Hearing, block_heard, genesis_heard, heard_in, hearing}}
use Rattle.rule_machine.specs.Promises.{Replayed}
use Rattle.rule_modules.{specs.Chain.State, proofs.GoingLemmas.{from_if, same_ok}}
use Rattle.run_app.specs.declared.status.LineStop.TheVariants as stop
use Rattle.run_app.specs.declared.status.{LimitKind.TheVariants.Line, Status.{Status, TheVariants.Limit}}
use Rattle.run_app.specs.Laws.{AreReplayed, SpellBlocks}
use Rattle.run_app.specs.Machine.{Answer, Standing, answer_within, begun, block_answer, applied_answer, genesis_answer, line_answer, longest, started_answer, stepped, told}
use Rattle.run_app.specs.RightStatements.{AreFewFrom, AreFewIn, InputsAreStatedRightly, IsOfPayment, StatementsAreRight}
use Rattle.run_app.specs.Runs.{AreAnswered}
use Rattle.run_app.specs.Statements.{Stating, applied_so, begun_unless, started_so, stated_at, stated_block, stated_from, stated_genesis, stated_within, stepped_so, told_more}
use Rattle.run_app.proofs.{RecorderLemmas.runs_pay_rightly, SoundLemmas.lines_replayed}

-- ---- steps

bound_parts : {A B E : Type 0} (r : Result A E) (f : A → Result B E) (z : B) → (r >>= f) ≡ Ok z → (a : A) × (r ≡ Ok a) × (f a ≡ Ok z)
bound_parts (Ok a) f z h = (a, refl, h)
bound_parts (Err e) f z h = absurd cc

same_some : (s t : Stating) → Path (Result (Option Stating) Status) (Ok (Some s)) (Ok (Some t)) → s ≡ t
same_some s t h = cc

unless : {A E : Type 0} (b : Bool) (e : E) (r : Result A E) (x : A) → (if b then Err e else r) ≡ Ok x → (b ≡ false) × (r ≡ Ok x)
unless true e r x h = absurd cc
unless false e r x h = (refl, h)

-- ---- lines within their limit

led_within : (form : Form) (p : Pair) (n : ℕ) (s : Option Stating) (line : List ℕ) (next : Stating) → stated_at form n (Some p) s line ≡ Ok next → (nat_lt longest (length line) ≡ false) × (stated_within form n (Some p) s line ≡ Ok next)
unfolding stated_at
led_within form p n s line next h = unless (nat_lt longest (length line)) (Limit n Line) (stated_within form n (Some p) s line) next h

answered_within : (form : Form) (n : ℕ) (s : Standing) (line : List ℕ) (a : Answer) → nat_lt longest (length line) ≡ false → answer_within form n s line ≡ Ok a → line_answer form n s line ≡ Ok a
unfolding line_answer
answered_within form n s line a short h = ap (λ (b : Bool). if b then Err (stop.Long n) else answer_within form n s line) short ∙ h

-- ---- a block among blocks

module _ (b : Block) (blocks : List Block) (w : State) (before : Noted) (done : Step) (steps : step b w ≡ Ok done) (h : Hearing Noted) (hears : block_heard heard parted ended b (hearing before w) ≡ Ok h) where
  few_there : AreFewIn (b ∷ blocks) w before → AreFew (heard_in h) done × AreFewIn blocks done.state (heard_in h)
  few_there few =
      from_if (λ (s : Step). (h : Hearing Noted) → block_heard heard parted ended b (hearing before w) ≡ Ok h → AreFew (heard_in h) s × AreFewIn blocks s.state (heard_in h)) (step b w) done steps few h hears

  pays_there : (p : Pair) (t : Tracked) → RunPaysRightly p (b ∷ blocks) w before t → AreFew (heard_in h) done
      → PaysRightly p w before t done (heard_in h) × RunPaysRightly p blocks done.state (heard_in h) (followed_in p w before t done (heard_in h)).tracked
  pays_there p t pays =
      from_if (λ (s : Step). (h : Hearing Noted) → block_heard heard parted ended b (hearing before w) ≡ Ok h → AreFew (heard_in h) s
      → PaysRightly p w before t s (heard_in h) × RunPaysRightly p blocks s.state (heard_in h) (followed_in p w before t s (heard_in h)).tracked) (step b w) done steps pays h hears

-- ---- statements of payments

module _ (p : Pair) where
  -- a payment of what was logged behind a log
  of_more : (height : ℕ) (l more : Log) (pay : Payment) (s : Statement) → statement_of p height pay ≡ Ok s → IsOfWithdrawal p height l more pay → IsOfPayment p (l ++ more) s
  of_more height l more pay s stated w = record {
    height = height;
    pay = pay;
    stated = stated;
    paid = record {
      earlier = l ++ w.earlier;
      later = w.later;
      to = w.to;
      full = w.full;
      outstanding = w.outstanding;
      parts = ap (λ (m : Log). l ++ m) w.parts ∙ sym (append_assoc l w.earlier ((p.operator, log.withdrawn p.delegator w.to w.full w.outstanding) ∷ w.later));
      reward_is = w.reward_is;
      rightly = w.rightly;
    };
  }

  all_of_more : (height : ℕ) (l more : Log) (pays : List Payment) (made : List Statement) → statements_of p height pays ≡ Ok made → All (IsOfWithdrawal p height l more) pays → All (IsOfPayment p (l ++ more)) made
  all_of_more height l more [] made e a = subst (All (IsOfPayment p (l ++ more))) (same_ok [] made e) (All-nil (IsOfPayment p (l ++ more)))
  all_of_more height l more (pay ∷ pays) made e a =
      let one = bound_parts (statement_of p height pay) (λ first. statements_of p height pays >>= λ rest. Ok (first ∷ rest)) made e in
      let two = bound_parts (statements_of p height pays) (λ rest. Ok (one.0 ∷ rest)) made one.2 in
      subst (All (IsOfPayment p (l ++ more))) (same_ok (one.0 ∷ two.0) made two.2)
      (All-cons (IsOfPayment p (l ++ more)) one.0 two.0 (of_more height l more pay one.0 one.1 (All-head (IsOfWithdrawal p height l more) pay pays a))
      (all_of_more height l more pays two.0 two.1 (All-tail (IsOfWithdrawal p height l more) pay pays a)))

  -- a log that grows
  on_more : (l more : Log) (s : Statement) → IsOfPayment p l s → IsOfPayment p (l ++ more) s
  on_more l more s h = record {
    height = h.height;
    pay = h.pay;
    stated = h.stated;
    paid = record {
      earlier = h.paid.earlier;
      later = h.paid.later ++ more;
      to = h.paid.to;
      full = h.paid.full;
      outstanding = h.paid.outstanding;
      parts = ap (λ (m : Log). m ++ more) h.paid.parts ∙ append_assoc h.paid.earlier ((p.operator, log.withdrawn p.delegator h.paid.to h.paid.full h.paid.outstanding) ∷ h.paid.later) more;
      reward_is = h.paid.reward_is;
      rightly = h.paid.rightly;
    };
  }

  module _ (form : Form) where
    -- ---- the first line

    -- what it leads to, as its genesis starts the machine
    abbrev first_stating : Start → Noted → List Statement → Stating
    first_stating start first made = record { state = start.state; heard = first; tracked = (followed_first p start first).tracked; made = made }

    record Begins (line : List ℕ) (next : Stating) : Type 0 where
      genesis : Genesis
      read : genesis_of form line ≡ Ok genesis
      none : start_condition genesis ≡ None
      start : Start
      starts : chain_started genesis ≡ Ok start
      hear : Hearing Noted
      hears : genesis_heard heard genesis nothing_noted ≡ Ok hear
      made : List Statement
      states : statements_of p 0 (followed_first p start (heard_in hear)).payments ≡ Ok made
      next_is : next ≡ first_stating start (heard_in hear) made

    first_told : (n : ℕ) (start : Start) (first : Noted) (next : Stating) (r : Result (List Statement) StatementFault)
        → told_more n start.state first [] (r >>= λ made. Ok (taken (followed_first p start first).tracked made)) ≡ Ok next → (made : List Statement) × (r ≡ Ok made) × (next ≡ first_stating start first made)
    first_told n start first next (Ok made) h = (made, refl, sym (same_ok (first_stating start first made) next h))
    first_told n start first next (Err why) h = absurd cc

    genesis_heard_so : (n : ℕ) (line : List ℕ) (next : Stating) (g : Genesis) → genesis_of form line ≡ Ok g → start_condition g ≡ None → (r : Result Start Refusal) → chain_started g ≡ r → (q : Result (Hearing Noted) Refusal)
        → genesis_heard heard g nothing_noted ≡ q → started_so n (Some p) r q ≡ Ok next → Begins line next
    genesis_heard_so n line next g read none (Ok start) starts (Ok w) hears h =
        let t = first_told n start (heard_in w) next (statements_of p 0 (followed_first p start (heard_in w)).payments) h in
        record { genesis = g; read = read; none = none; start = start; starts = starts; hear = w; hears = hears; made = t.0; states = t.1; next_is = t.2 }
    genesis_heard_so n line next g read none (Ok start) starts (Err why) hears h = absurd cc
    genesis_heard_so n line next g read none (Err why) starts q hears h = absurd cc

    genesis_unless : (n : ℕ) (line : List ℕ) (next : Stating) (g : Genesis) → genesis_of form line ≡ Ok g → (c : Option ℕ) → start_condition g ≡ c → begun_unless c n (Some p) g ≡ Ok next → Begins line next
    genesis_unless n line next g read None none h = genesis_heard_so n line next g read none (chain_started g) refl (genesis_heard heard g nothing_noted) refl h
    genesis_unless n line next g read (Some condition) none h = absurd cc

    begins : (n : ℕ) (line : List ℕ) (next : Stating) (r : Result Genesis LineFault) → genesis_of form line ≡ r → stated_genesis n (Some p) r ≡ Ok next → Begins line next
    begins n line next (Ok g) read h = genesis_unless n line next g read (start_condition g) refl h
    begins n line next (Err fault) read h = absurd cc

    -- ---- a line after it

    abbrev next_stating : Stating → Step → Noted → List Statement → Stating
    next_stating s done noted made = record { state = done.state; heard = noted; tracked = (followed_in p s.state s.heard s.tracked done noted).tracked; made = s.made ++ made }

    record GoesOn (line : List ℕ) (s next : Stating) : Type 0 where
      block : Block
      read : block_of form line ≡ Ok block
      done : Step
      steps : step block s.state ≡ Ok done
      hear : Hearing Noted
      hears : block_heard heard parted ended block (hearing s.heard s.state) ≡ Ok hear
      made : List Statement
      states : statements_of p done.report.height (followed_in p s.state s.heard s.tracked done (heard_in hear)).payments ≡ Ok made
      next_is : next ≡ next_stating s done (heard_in hear) made

    next_told : (n : ℕ) (s : Stating) (done : Step) (noted : Noted) (next : Stating) (r : Result (List Statement) StatementFault)
        → told_more n done.state noted s.made (r >>= λ made. Ok (taken (followed_in p s.state s.heard s.tracked done noted).tracked made)) ≡ Ok next → (made : List Statement) × (r ≡ Ok made) × (next ≡ next_stating s done noted made)
    next_told n s done noted next (Ok made) h = (made, refl, sym (same_ok (next_stating s done noted made) next h))
    next_told n s done noted next (Err why) h = absurd cc

    block_heard_so : (n : ℕ) (line : List ℕ) (s next : Stating) (b : Block) → block_of form line ≡ Ok b → (done : Step) → step b s.state ≡ Ok done → (q : Result (Hearing Noted) Over)
        → block_heard heard parted ended b (hearing s.heard s.state) ≡ q → applied_so n (Some p) s done q ≡ Ok next → GoesOn line s next
    block_heard_so n line s next b read done steps (Ok w) hears h =
        let t = next_told n s done (heard_in w) next (statements_of p done.report.height (followed_in p s.state s.heard s.tracked done (heard_in w)).payments) h in
        record { block = b; read = read; done = done; steps = steps; hear = w; hears = hears; made = t.0; states = t.1; next_is = t.2 }
    block_heard_so n line s next b read done steps (Err over) hears h = absurd cc

    block_stepped : (n : ℕ) (line : List ℕ) (s next : Stating) (b : Block) → block_of form line ≡ Ok b → (r : Result Step BlockFault) → step b s.state ≡ r → stepped_so n (Some p) s b r ≡ Ok next → GoesOn line s next
    block_stepped n line s next b read (Ok done) steps h = block_heard_so n line s next b read done steps (block_heard heard parted ended b (hearing s.heard s.state)) refl h
    block_stepped n line s next b read (Err fault) steps h = absurd cc

    goes_on : (n : ℕ) (line : List ℕ) (s next : Stating) (r : Result Block LineFault) → block_of form line ≡ r → stated_block n (Some p) s r ≡ Ok next → GoesOn line s next
    goes_on n line s next (Ok b) read h = block_stepped n line s next b read (step b s.state) refl h
    goes_on n line s next (Err fault) read h = absurd cc

    -- ---- lines that are answered

    record AreAnsweredSo (n : ℕ) (s : Standing) (lines : List (List ℕ)) (last : Stating) : Type 0 where
      text : List ℕ
      answered : AreAnswered form n s lines text (Some last.state)

    answered_from : (n : ℕ) (lines : List (List ℕ)) (s last : Stating) → stated_from form n (Some p) (Some s) lines ≡ Ok (Some last) → AreAnsweredSo n (Some s.state) lines last
    answered_from n [] s last h = record { text = []; answered = (refl, ap (λ (t : Stating). Some t.state) (sym (same_some s last h))) }
    answered_from n (line ∷ lines) s last h =
        let led = bound_parts (stated_at form n (Some p) (Some s) line) (λ next. stated_from form (n + 1) (Some p) (Some next) lines) (Some last) h in
        let short = led_within form p n (Some s) line led.0 led.1 in
        let k = goes_on n line s led.0 (block_of form line) refl short.1 in
        let rest = answered_from (n + 1) lines led.0 last led.2 in
        let here : line_answer form n (Some s.state) line ≡ Ok (stepped form k.done) =
        answered_within form n (Some s.state) line (stepped form k.done) short.0 (ap (block_answer form n s.state) k.read ∙ ap (applied_answer form n) k.steps) in
        record {
          text = text_of_block form k.done.report ++ rest.text;
          answered = (
            stepped form k.done,
            rest.text,
            here,
            refl,
            subst (λ (x : State). AreAnswered form (n + 1) (Some x) lines rest.text (Some last.state)) (ap (λ (t : Stating). t.state) k.next_is) rest.answered,
          );
        }

    answered_all : (line : List ℕ) (lines : List (List ℕ)) (last : Stating) → stated_from form 1 (Some p) None (line ∷ lines) ≡ Ok (Some last) → AreAnsweredSo 1 None (line ∷ lines) last
    answered_all line lines last h =
        let led = bound_parts (stated_at form 1 (Some p) None line) (λ next. stated_from form 2 (Some p) (Some next) lines) (Some last) h in
        let short = led_within form p 1 None line led.0 led.1 in
        let k = begins 1 line led.0 (genesis_of form line) refl short.1 in
        let rest = answered_from 2 lines led.0 last led.2 in
        let first : Answer = told (begun k.genesis (Ok k.start)) in
        let here : line_answer form 1 None line ≡ Ok first =
        answered_within form 1 None line first short.0
        (ap (genesis_answer 1) k.read ∙ ap (started_answer 1 k.genesis) k.none ∙ ap (λ (r : Result Start Refusal). Ok (told (begun k.genesis r))) k.starts) in
        record {
          text = first.text ++ rest.text;
          answered = (
            first,
            rest.text,
            here,
            refl,
            subst (λ (x : State). AreAnswered form 2 (Some x) lines rest.text (Some last.state)) (ap (λ (t : Stating). t.state) k.next_is) rest.answered,
          );
        }

    -- ---- all statements

    from_same : (n : ℕ) (lines : List (List ℕ)) (s t last : Stating) → s ≡ t → stated_from form n (Some p) (Some s) lines ≡ Ok (Some last) → stated_from form n (Some p) (Some t) lines ≡ Ok (Some last)
    from_same n lines s t last e h = subst (λ (x : Stating). stated_from form n (Some p) (Some x) lines ≡ Ok (Some last)) e h

    all_right : (n : ℕ) (lines : List (List ℕ)) (blocks : List Block) (s last : Stating) → stated_from form n (Some p) (Some s) lines ≡ Ok (Some last) → SpellBlocks form lines blocks
        → RunPaysRightly p blocks s.state s.heard s.tracked → AreFewIn blocks s.state s.heard → All (IsOfPayment p s.state.log) s.made → All (IsOfPayment p last.state.log) last.made
    all_right n [] [] s last h spelled pays few a = subst (λ (t : Stating). All (IsOfPayment p t.state.log) t.made) (same_some s last h) a
    all_right n [] (b ∷ blocks) s last h spelled pays few a = absurd spelled
    all_right n (line ∷ lines) [] s last h spelled pays few a = absurd spelled
    all_right n (line ∷ lines) (b ∷ blocks) s last h spelled pays few a =
        let led = bound_parts (stated_at form n (Some p) (Some s) line) (λ next. stated_from form (n + 1) (Some p) (Some next) lines) (Some last) h in
        let k = goes_on n line s led.0 (block_of form line) refl (led_within form p n (Some s) line led.0 led.1).1 in
        let same : b ≡ k.block = same_ok b k.block (sym spelled.0 ∙ k.read) in
        let noted : Noted = heard_in k.hear in
        let there = few_there k.block blocks s.state s.heard k.done k.steps k.hear k.hears (subst (λ (x : Block). AreFewIn (x ∷ blocks) s.state s.heard) same few) in
        let paid = pays_there k.block blocks s.state s.heard k.done k.steps k.hear k.hears p s.tracked (subst (λ (x : Block). RunPaysRightly p (x ∷ blocks) s.state s.heard s.tracked) same pays) there.0 in
        let block_pays : PaysRightly p s.state s.heard s.tracked k.done noted = paid.0 in
        let more : Log = block_pays.more in
        let all : All (IsOfPayment p (s.state.log ++ more)) (s.made ++ k.made) =
        All-append (IsOfPayment p (s.state.log ++ more)) s.made k.made (All-weaker (IsOfPayment p s.state.log) (IsOfPayment p (s.state.log ++ more)) (on_more s.state.log more) s.made a)
        (all_of_more k.done.report.height s.state.log more (followed_in p s.state s.heard s.tracked k.done noted).payments k.made k.states block_pays.payments) in
        all_right (n + 1) lines blocks (next_stating s k.done noted k.made) last (from_same (n + 1) lines led.0 (next_stating s k.done noted k.made) last k.next_is led.2) spelled.1
        paid.1 there.1 (subst (λ (l : Log). All (IsOfPayment p l) (s.made ++ k.made)) (sym block_pays.log_is) all)

    all_right_from : (line : List ℕ) (lines : List (List ℕ)) (last : Stating) → stated_from form 1 (Some p) None (line ∷ lines) ≡ Ok (Some last) → (r : Replayed) → genesis_of form line ≡ Ok r.genesis → SpellBlocks form lines r.blocks
        → ((first : Hearing Noted) → genesis_heard heard r.genesis nothing_noted ≡ Ok first → AreFewFrom r (heard_in first)) → All (IsOfPayment p last.state.log) last.made
    all_right_from line lines last h r read spelled fewer =
        let led = bound_parts (stated_at form 1 (Some p) None line) (λ next. stated_from form 2 (Some p) (Some next) lines) (Some last) h in
        let k = begins 1 line led.0 (genesis_of form line) refl (led_within form p 1 None line led.0 led.1).1 in
        let first : Noted = heard_in k.hear in
        let genesis : k.genesis ≡ r.genesis = same_ok k.genesis r.genesis (sym k.read ∙ read) in
        let start : k.start ≡ r.start = same_ok k.start r.start (sym k.starts ∙ ap chain_started genesis ∙ r.started) in
        let hears : genesis_heard heard r.genesis nothing_noted ≡ Ok k.hear = subst (λ (g : Genesis). genesis_heard heard g nothing_noted ≡ Ok k.hear) genesis k.hears in
        let few : AreFewFrom r first = fewer k.hear hears in
        let pays : PayRightly r p k.hear = runs_pay_rightly r p k.hear hears few.notes few.facts in
        let states : statements_of p 0 (followed_first p r.start first).payments ≡ Ok k.made = subst (λ (x : Start). statements_of p 0 (followed_first p x first).payments ≡ Ok k.made) start k.states in
        let none : [] ≡ k.made = same_ok [] k.made (sym (ap (λ (w : Followed). statements_of p 0 w.payments) pays.unpaid_first) ∙ states) in
        let next : led.0 ≡ first_stating r.start first [] = k.next_is ∙ ap (λ (x : Start). first_stating x first k.made) start ∙ ap (first_stating r.start first) (sym none) in
        all_right 2 lines r.blocks (first_stating r.start first []) last (from_same 2 lines led.0 (first_stating r.start first []) last next led.2) spelled pays.blocks few.blocks
        (All-nil (IsOfPayment p r.start.state.log))

inputs_right : (form : Form) → InputsAreStatedRightly form
inputs_right form p line lines last h =
    let answered = answered_all p form line lines last h in
    let whole : AreReplayed form line lines answered.text last.state = lines_replayed form line lines answered.text last.state answered.answered in
    record {
      replay = whole.replay;
      genesis_is = whole.genesis_is;
      blocks_are = whole.blocks_are;
      no_fault = whole.no_fault;
      end_is = whole.end_is;
      right = λ few. all_right_from p form line lines last h whole.replay whole.genesis_is whole.blocks_are few;
    }

pub statements_right : StatementsAreRight
statements_right = record { runs = runs_pay_rightly; inputs = inputs_right }
